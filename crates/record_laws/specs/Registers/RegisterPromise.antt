-- What the register of a network promises of its calls.
use Rattle.std.specs.Prelude.{◌≡◌, ℕ, ◌<◌, false, slice_get, Some}
use Rattle.link_timers.specs.declared.role.Role.{Role}
use Rattle.call_records.specs.Records.{RecordValue, PairValue}
use Rattle.call_records.specs.Book.{slot_at}
use Rattle.call_records.specs.Register.{Register, LineEnds, book_at}
use Rattle.record_laws.specs.Books.Headline.{PairMatches, AreEnds, IsOpenHere}
use Rattle.record_laws.specs.Words.{ArePaired}
use Rattle.record_laws.specs.CallPaths.PathPromise.{IsOfEnd}

-- the caller's record was made first; the nodes are those of the two ends of one line; the callee's own address is the
-- one that was called, and the far one is the caller's own
pub record PairIsRight (g : Register) (caller callee : RecordValue) : Type 0 where
  pub order : caller.number < callee.number
  pub line : ℕ
  pub line_ends : LineEnds
  pub line_there : slice_get g.lines line ≡ Some line_ends
  pub ends : AreEnds (book_at line g) caller.node callee.node
  pub own : callee.own ≡ caller.far
  pub far : callee.far ≡ caller.own

-- the two records of a pair are there, what was taken matches what was sent, both ways, and the pair is right
pub record PairHolds (g : Register) (pair : PairValue) : Type 0 where
  pub caller : RecordValue
  pub callee : RecordValue
  pub caller_there : slice_get g.records pair.caller ≡ Some caller
  pub callee_there : slice_get g.records pair.callee ≡ Some callee
  pub matches : PairMatches caller callee
  pub is_right : PairIsRight g caller callee

pub record RegisterHolds (g : Register) : Type 0 where
  -- each pair holds
  pub pairs_hold : (i : ℕ) (pair : PairValue) → slice_get g.pairs i ≡ Some pair → PairHolds g pair
  -- the records are numbered and paired
  pub paired : ArePaired g.records g.pairs
  -- each record is of a node at an end of a line
  pub nodes : (i : ℕ) (r : RecordValue) → slice_get g.records i ≡ Some r → IsOfEnd g r.node

-- ---- present records

-- a channel at an end of a line has this record as the present one
pub record IsPresent (g : Register) (number : ℕ) : Type 0 where
  pub line : ℕ
  pub role : Role
  pub channel : ℕ
  pub present : (slot_at role channel (book_at line g)).present ≡ Some number

-- each present record is there, of the node at its end and open, and no other channel of any line has it; and each open
-- record is present
pub record HasRecords (g : Register) : Type 0 where
  pub present : (line : ℕ) (role : Role) (channel number : ℕ)
      → (slot_at role channel (book_at line g)).present ≡ Some number → IsOpenHere (book_at line g) role number
  pub one_place : (i j : ℕ) (a b : Role) (c d number : ℕ) → (slot_at a c (book_at i g)).present ≡ Some number
      → (slot_at b d (book_at j g)).present ≡ Some number → (i ≡ j) × ((a ≡ b) × (c ≡ d))
  pub are_present : (number : ℕ) (r : RecordValue) → slice_get g.records number ≡ Some r → r.closed ≡ false
      → IsPresent g number
