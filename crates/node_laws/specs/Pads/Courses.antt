-- A course of events at a PAD and at the other end of its line: it leads to the PAD, to the book of the line, and to the
-- occasions of each record there.
use Rattle.std.specs.Prelude.{◌≡◌, ℕ, List, [], slice_get, Some}
use Rattle.link_timers.specs.declared.role.Role.{Role}
use Rattle.link_timers.specs.Role.{other_of}
use Rattle.call_records.specs.Records.{RecordValue}
use Rattle.call_records.specs.Book.{Book, made_book}
use Rattle.call_records.specs.Writes.{Write, all_written}
use Rattle.x25_pad.specs.Pad.{PadState}
use Rattle.x25_pad.specs.Making.{made, IsConfig}
use Rattle.x25_pad.specs.declared.config.PadConfig.{PadConfig}
use Rattle.node_laws.specs.Pads.Standing.{drained}
use Rattle.node_laws.specs.Pads.Occasions.{Occasion}
use Rattle.node_laws.specs.Pads.Sending.{HasSaid}
use Rattle.record_laws.specs.Words.{HasTyped}
use Rattle.node_laws.specs.Pads.Holds.{node_at, PadTypes, HaveSaid}
use Rattle.node_laws.specs.Pads.Happening.{PadEvent, after_event, writes_after, grown}

-- ---- courses

-- an event at the PAD, whose notes are then read and whose frames go, or what is written at the other end
pub data Happening : Type 0 where
  Here : PadEvent → Happening
  There : List Write → Happening

pub record Course : Type 0 where
  pub pad : PadState
  pub book : Book
  pub occasions : ℕ → List Occasion

abbrev pub happened : Role → Happening → Course → Course
happened role (Here event) s = record {
  pad = drained (after_event event s.pad);
  book = all_written role (writes_after event s.pad) s.book;
  occasions = λ n. grown s.occasions event s.pad role s.book n;
}
happened role (There writes) s = record s { book = all_written (other_of role) writes s.book }

-- a PAD as it is made, on a line between two nodes
abbrev pub beginning : PadConfig → (dte_node dce_node channels : ℕ) → Course
beginning c dte_node dce_node channels = record {
  pad = drained (made c);
  book = made_book dte_node dce_node channels c.line.standing;
  occasions = λ n. [];
}

-- from the making on, whatever happens at either end
pub data IsCourse (role : Role) : Course → Type 0 where
  begins : (c : PadConfig) (dte_node dce_node channels : ℕ) → (dte_node ≡ dce_node → ⊥) → IsConfig c
      → IsCourse role (beginning c dte_node dce_node channels)
  goes_on : {s : Course} → IsCourse role s → (h : Happening) → IsCourse role (happened role h s)

-- in every course each record of the PAD has sent what was typed, and of itself what its occasions ask for
abbrev pub CourseLaw : Type 0
CourseLaw = (role : Role) (s : Course) → IsCourse role s
    → (n : ℕ) (r : RecordValue) → slice_get s.book.records n ≡ Some r → r.node ≡ node_at role s.book
    → HasTyped r × HasSaid (s.occasions n) r

-- ---- what a PAD of a network sent

-- a record of a register is this one of a line's book, but for its number, its own address, its caller's number and its
-- path
abbrev pub IsSeenAs : (own seen : RecordValue) → Type 0
IsSeenAs own r = r ≡ record own { number = r.number; own = r.own; caller = r.caller; path = r.path }

-- it is one of the PAD's node in this book
pub record IsRecordOf (role : Role) (b : Book) (r : RecordValue) : Type 0 where
  pub number : ℕ
  pub own : RecordValue
  pub there : slice_get b.records number ≡ Some own
  pub node : own.node ≡ node_at role b
  pub same : IsSeenAs own r

-- and it sent what was typed, and of itself what its occasions in this course ask for
pub record HasSentIn (role : Role) (s : Course) (r : RecordValue) : Type 0 where
  pub of_pad : IsRecordOf role s.book r
  pub typed : HasTyped r
  pub said : HasSaid (s.occasions of_pad.number) r

-- one course leads to the PAD, once no frame and no note of its last event is left, and all records of its node among
-- these are as this course has it
pub record PadSends (role : Role) (p : PadState) (place : ℕ) (records : List RecordValue) : Type 0 where
  pub course : Course
  pub led : IsCourse role course
  pub pad : course.pad ≡ drained p
  pub sent : (i : ℕ) (r : RecordValue) → slice_get records i ≡ Some r → r.node ≡ place → HasSentIn role course r

-- ---- what always holds of a PAD and of its book

pub record PadHolds (role : Role) (p : PadState) (b : Book) : Type 0 where
  pub typed : PadTypes role p b
  pub occasions : ℕ → List Occasion
  pub led : IsCourse role (record { pad = drained p; book = b; occasions = occasions })
  pub said : HaveSaid occasions role b
