-- What the register of a network has, whatever is written at its lines.
use Rattle.std.specs.Prelude.{◌≡◌, ℕ, ◌≤◌, ◌⊎◌, true, List, [], ◌∷◌, set, map, slice_get, Option, Some, is_some}
use Rattle.link_timers.specs.declared.role.Role.{Role}
use Rattle.call_records.specs.Records.{RecordValue}
use Rattle.call_records.specs.Book.{Book, slot_at}
use Rattle.call_records.specs.Writes.{Write, written_by, all_written}
use Rattle.call_records.specs.Register.{Register, LinePlan, book_at, written_at, all_written_at, planned_book}
use Rattle.call_records.specs.Register.{made_register}
use Rattle.record_laws.specs.Books.Headline.{BookHolds, HaveRecords, IsPaired, HasCallee}
use Rattle.record_laws.specs.Registers.Seen.{Seen, renumbered}
use Rattle.record_laws.specs.Registers.RegisterPromise.{RegisterHolds, HasRecords}

-- ---- the making, and each write

-- a line on which a call stands has a channel
abbrev pub HaveChannels : List LinePlan → Type 0
HaveChannels [] = Unit {0}
HaveChannels (plan ∷ plans) = (plan.standing ≡ true → 1 ≤ plan.channels) × HaveChannels plans

-- no line has an address, as no book of a line has
abbrev pub HaveNoAddress : List LinePlan → Type 0
HaveNoAddress [] = Unit {0}
HaveNoAddress (plan ∷ plans) = (plan.address ≡ []) × HaveNoAddress plans

abbrev pub MadeLaw : Type 0
MadeLaw = (plans : List LinePlan) → HaveChannels plans → HaveNoAddress plans
    → Seen (made_register plans) (map planned_book plans)

-- what is written at a line, in the register and in the line's book alike, leaves the other books seen as they are
abbrev pub WriteLaw : Type 0
WriteLaw = (g : Register) (books : List Book) (line : ℕ) (b : Book) (role : Role) (writes : List Write)
    → slice_get books line ≡ Some b → Seen g books
    → Seen (all_written_at line role writes g) (set books line (all_written role writes b))

-- writes in order are one after the other
abbrev pub InTurnLaw : Type 0
InTurnLaw = (g : Register) (books : List Book) (line : ℕ) (b : Book) (role : Role) (write : Write) (writes : List Write)
    → slice_get books line ≡ Some b → Seen g books
    → all_written_at line role (write ∷ writes) g
    ≡ all_written_at line role writes (written_at line (written_by role write) g)

-- ---- what the register then is

-- where the book of each line holds, so does the register
abbrev pub PromiseLaw : Type 0
PromiseLaw = (g : Register) (books : List Book) → Seen g books
    → ((line : ℕ) (b : Book) → slice_get books line ≡ Some b → BookHolds b)
    → RegisterHolds g

-- where each line's book has open records where one is present and there alone, so has the register
abbrev pub RecordsLaw : Type 0
RecordsLaw = (g : Register) (books : List Book) → Seen g books
    → ((line : ℕ) (b : Book) → slice_get books line ≡ Some b → HaveRecords b)
    → HasRecords g

-- a channel has a present record in the register exactly where it has one in the line's book
abbrev pub PresentLaw : Type 0
PresentLaw = (g : Register) (books : List Book) (line : ℕ) (b : Book) (role : Role) (channel : ℕ)
    → slice_get books line ≡ Some b → Seen g books
    → is_some (slot_at role channel (book_at line g)).present ≡ is_some (slot_at role channel b).present

-- and one that came in, where it has one of the other end too; where these two are a pair in the book, they are so in
-- the register
abbrev pub CameLaw : Type 0
CameLaw = (g : Register) (books : List Book) (line : ℕ) (b : Book) (role : Role) (channel : ℕ)
    → slice_get books line ≡ Some b → Seen g books
    → is_some (slot_at role channel (book_at line g)).caller ≡ is_some (slot_at role channel b).caller

abbrev pub PairedLaw : Type 0
PairedLaw = (g : Register) (books : List Book) (line : ℕ) (b : Book) (role : Role) (channel : ℕ)
    → slice_get books line ≡ Some b → Seen g books
    → IsPaired (slot_at role channel b) b.pairs → IsPaired (slot_at role channel (book_at line g)) g.pairs

-- where the call that an end placed is in a pair in the line's book, so it is in the register
abbrev pub CalleeLaw : Type 0
CalleeLaw = (g : Register) (books : List Book) (line : ℕ) (b : Book) (role : Role) (channel : ℕ)
    → slice_get books line ≡ Some b → Seen g books
    → HasCallee b role channel → HasCallee (book_at line g) role channel

-- a record of the register is one of this book, but for its number and that of its caller's
pub record IsOfBook (book : Book) (n : ℕ) (r : RecordValue) : Type 0 where
  pub place : ℕ
  pub own : RecordValue
  pub caller : Option ℕ
  pub own_there : slice_get book.records place ≡ Some own
  pub same : r ≡ renumbered n caller own

-- no other line has the node at an end
abbrev pub IsAtNoOther : (line node : ℕ) → List Book → Type 0
IsAtNoOther line node books =
    (j : ℕ) (b : Book) → slice_get books j ≡ Some b → (node ≡ b.dte.node) ⊎ (node ≡ b.dce.node) → j ≡ line

-- each record of the register is one of some line's book, and each of a node at one line only is one of this line's
abbrev pub OwnedLaw : Type 0
OwnedLaw = (g : Register) (books : List Book) (n : ℕ) (r : RecordValue) → Seen g books → slice_get g.records n ≡ Some r
    → (line : ℕ) × (b : Book) × (slice_get books line ≡ Some b) × IsOfBook b n r

abbrev pub NodeLaw : Type 0
NodeLaw = (g : Register) (books : List Book) (line : ℕ) (b : Book) (n : ℕ) (r : RecordValue) → Seen g books
    → ((j : ℕ) (c : Book) → slice_get books j ≡ Some c → BookHolds c)
    → slice_get books line ≡ Some b → IsAtNoOther line r.node books → slice_get g.records n ≡ Some r → IsOfBook b n r
