-- What the register of a network with switches has, of the ends with users, of the books of the lines.
use Rattle.std.specs.Prelude.{◌≡◌, ℕ, true, List, length, slice_get, Some, is_some}
use Rattle.link_timers.specs.declared.role.Role.{Role}
use Rattle.link_timers.specs.Role.{other_of}
use Rattle.call_records.specs.Records.{RecordValue}
use Rattle.call_records.specs.Book.{Book, side_of, slot_at}
use Rattle.call_records.specs.Register.{Register, book_at}
use Rattle.record_laws.specs.Books.Headline.{HaveRecords, IsPaired, HasCallee}
use Rattle.record_laws.specs.Registers.RegisterPromise.{HasRecords}
use Rattle.record_laws.specs.CallPaths.World.{Origin, World, Plan}
use Rattle.record_laws.specs.CallPaths.Seen.{Seen}
use Rattle.record_laws.specs.CallPaths.Lines.{LinesSeen}

-- a record of the register is this one of a line's book, but for its number, its own address, its caller's number and
-- its path
abbrev pub IsOf : (own seen : RecordValue) → Type 0
IsOf own r = r ≡ record own { number = r.number; own = r.own; caller = r.caller; path = r.path }

-- a record is that of the present call of a channel
pub record IsOfPresent (b : Book) (role : Role) (channel : ℕ) (r : RecordValue) : Type 0 where
  pub number : ℕ
  pub present : (slot_at role channel b).present ≡ Some number
  pub own : RecordValue
  pub there : slice_get b.records number ≡ Some own
  pub same : IsOf own r

-- of an end of a line the register has the node and the channels; a channel has a present record exactly where it has
-- one in the line's book, and it is that one; one that came in has one of the end that placed the call; and where these
-- two are a pair in the book, they are so in the register. Where a user is at the other end too, so it is of a call
-- that was placed
pub record EndIsSeen (plan : Plan) (line : ℕ) (role : Role) (b : Book) (g : Register) : Type 0 where
  pub node : (side_of role (book_at line g)).node ≡ (side_of role b).node
  pub channels : length (side_of role (book_at line g)).slots ≡ length (side_of role b).slots
  pub present : (channel : ℕ)
      → is_some (slot_at role channel (book_at line g)).present ≡ is_some (slot_at role channel b).present
  pub came : (channel : ℕ)
      → is_some (slot_at role channel (book_at line g)).caller ≡ is_some (slot_at role channel b).caller
  pub of_present : (channel n : ℕ) (r : RecordValue) → (slot_at role channel (book_at line g)).present ≡ Some n
      → slice_get g.records n ≡ Some r → IsOfPresent b role channel r
  pub paired : (channel : ℕ) → IsPaired (slot_at role channel b) b.pairs
      → IsPaired (slot_at role channel (book_at line g)) g.pairs
  pub placed : (channel : ℕ) → plan.has_user line (other_of role) ≡ true → HasCallee b role channel
      → HasCallee (book_at line g) role channel

-- a record of the register is one of a line's book, made at an end with a user
pub record IsOfUser (plan : Plan) (books : List Book) (r : RecordValue) : Type 0 where
  pub line : ℕ
  pub role : Role
  pub user : plan.has_user line role ≡ true
  pub node : r.node ≡ plan.node line role
  pub line_book : Book
  pub line_there : slice_get books line ≡ Some line_book
  pub place : ℕ
  pub own : RecordValue
  pub own_there : slice_get line_book.records place ≡ Some own
  pub same : IsOf own r

-- ---- laws

abbrev pub EndLaw : Type 0
EndLaw = (plan : Plan) (w : World) (books : List Book) (traces : List (List Origin)) (line : ℕ) (b : Book) (role : Role)
    → Seen plan w → LinesSeen w.whole w.origins books traces → slice_get books line ≡ Some b
    → plan.has_user line role ≡ true → EndIsSeen plan line role b w.register

abbrev pub UserLaw : Type 0
UserLaw = (plan : Plan) (w : World) (books : List Book) (traces : List (List Origin)) (n : ℕ) (r : RecordValue)
    → Seen plan w → LinesSeen w.whole w.origins books traces → slice_get w.register.records n ≡ Some r
    → IsOfUser plan books r

-- where the open records of each line's book are those that are present, so they are in the register
abbrev pub OpenLaw : Type 0
OpenLaw = (plan : Plan) (w : World) (books : List Book) (traces : List (List Origin)) → Seen plan w
    → LinesSeen w.whole w.origins books traces
    → ((line : ℕ) (b : Book) → slice_get books line ≡ Some b → HaveRecords b)
    → HasRecords w.register
