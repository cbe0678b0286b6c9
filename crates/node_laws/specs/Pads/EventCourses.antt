-- The course of a PAD that a list of events makes: the events at the PAD, in order, and nothing else of the PAD.
use Rattle.std.specs.Prelude.{◌≡◌, ℕ, List, [], ◌∷◌, ◌++◌, slice_get, Some, None}
use Rattle.link_timers.specs.declared.role.Role.{Role}
use Rattle.link_timers.specs.Role.{other_of}
use Rattle.call_records.specs.Records.{RecordValue}
use Rattle.call_records.specs.Book.{Book, slot_at}
use Rattle.x25_pad.specs.Making.{IsConfig}
use Rattle.x25_pad.specs.declared.config.PadConfig.{PadConfig}
use Rattle.node_laws.specs.Pads.Sending.{HasSaid}
use Rattle.record_laws.specs.Words.{HasTyped}
use Rattle.node_laws.specs.Pads.Holds.{node_at, HasItsRecords}
use Rattle.node_laws.specs.Pads.Happening.{PadEvent}
use Rattle.node_laws.specs.Pads.Courses.{Here, Course, happened, beginning, IsSeenAs}

-- two books of a line differ in nothing of the PAD at the end of this role: both have the same nodes at the ends, and
-- the same present calls at the PAD's end; but for number, own address, caller and path they have the same records of
-- the PAD's node; no record has gone; and the present calls of the other end have their records
pub record IsElsewhere (role : Role) (before after : Book) : Type 0 where
  pub nodes : (side : Role) → node_at side after ≡ node_at side before
  pub present : (channel : ℕ) → (slot_at role channel after).present ≡ (slot_at role channel before).present
  pub kept : (n : ℕ) (r : RecordValue) → slice_get before.records n ≡ Some r → r.node ≡ node_at role before
      → (now : RecordValue) × (slice_get after.records n ≡ Some now) × IsSeenAs r now
  pub was : (n : ℕ) (now : RecordValue) → slice_get after.records n ≡ Some now → now.node ≡ node_at role after
      → (r : RecordValue) × (slice_get before.records n ≡ Some r) × IsSeenAs r now
  pub none_gone : (n : ℕ) → slice_get after.records n ≡ None → slice_get before.records n ≡ None
  pub far : HasItsRecords (other_of role) after

-- a PAD that is made so; then the events at it, each once and in order; between them the book may come to differ
-- elsewhere
pub data CourseOf (role : Role) (c : PadConfig) : List PadEvent → Course → Type 0 where
  starts : (dte_node dce_node channels : ℕ) → (dte_node ≡ dce_node → ⊥) → IsConfig c
      → CourseOf role c [] (beginning c dte_node dce_node channels)
  continues : {events : List PadEvent} {s : Course} → CourseOf role c events s → (event : PadEvent)
      → CourseOf role c (events ++ event ∷ []) (happened role (Here event) s)
  elsewhere : {events : List PadEvent} {s : Course} → CourseOf role c events s → (b : Book)
      → IsElsewhere role s.book b → CourseOf role c events (record s { book = b })

-- in each course of events each record of the PAD has sent what was typed, and of itself what its occasions ask for
abbrev pub EventCourseLaw : Type 0
EventCourseLaw = (role : Role) (c : PadConfig) (events : List PadEvent) (s : Course) → CourseOf role c events s
    → (n : ℕ) (r : RecordValue) → slice_get s.book.records n ≡ Some r → r.node ≡ node_at role s.book
    → HasTyped r × HasSaid (s.occasions n) r
