-- In the course that a list of events makes, what holds of a PAD and of its book holds.
use Rattle.std.specs.Prelude.{◌≡◌, ℕ, List, slice_get, Some}
use Rattle.std.proofs.Common.{sym, ap, subst, ◌∙◌}
use Rattle.std.proofs.lemmas.Option.{same_Some}
use Rattle.link_timers.specs.declared.role.Role.{Role}
use Rattle.link_timers.specs.Role.{other_of}
use Rattle.pad_editing.specs.Edited.{edit_of}
use Rattle.call_records.specs.Records.{RecordValue}
use Rattle.call_records.specs.Book.{Book}
use Rattle.x25_pad.specs.declared.config.PadConfig.{PadConfig}
use Rattle.node_laws.specs.Pads.Occasions.{Occasion}
use Rattle.node_laws.specs.Pads.Sending.{HasSaid}
use Rattle.record_laws.specs.Words.{HasTyped}
use Rattle.node_laws.specs.Pads.Holds.{node_at, TextOf, BookHolds, HasItsRecords, HaveSaid}
use Rattle.node_laws.specs.Pads.Happening.{PadEvent}
use Rattle.node_laws.specs.Pads.Courses.{Here, Course, IsSeenAs}
use Rattle.node_laws.specs.Pads.EventCourses.{IsElsewhere, CourseOf, starts, continues, elsewhere, EventCourseLaw}
use Rattle.node_laws.proofs.Pads.Holding.{Stands, stands_first, stands_after}

-- ---- a book that differs elsewhere

module _ (role : Role) (b b' : Book) (w : IsElsewhere role b b') where
  record_before : (n : ℕ) (now : RecordValue) → slice_get b'.records n ≡ Some now → now.node ≡ node_at role b'
      → (r : RecordValue) × (slice_get b.records n ≡ Some r) × IsSeenAs r now × (r.node ≡ node_at role b)
  record_before n now e own =
      let r = w.was n now e own in
      (r.0, r.1, r.2, sym (ap (λ (z : RecordValue). z.node) r.2) ∙ own ∙ w.nodes role)

  present_kept : HasItsRecords role b → HasItsRecords role b'
  present_kept own channel n e =
      let r = own channel n (sym (w.present channel) ∙ e) in
      let now = w.kept n r.0 r.1 r.2 in
      (now.0, now.1, ap (λ (z : RecordValue). z.node) now.2 ∙ r.2 ∙ sym (w.nodes role))

  book_kept : (X : ℕ → List ℕ → Type 0) → BookHolds role X b → BookHolds role X b'
  book_kept X h = record {
    apart = λ e. h.apart (sym (w.nodes role) ∙ e ∙ w.nodes (other_of role));
    own = present_kept h.own;
    far = w.far;
    once = λ c d n e f. h.once c d n (sym (w.present c) ∙ e) (sym (w.present d) ∙ f);
    sent = λ n now e own.
        let r = record_before n now e own in
        subst (λ (z : RecordValue). HasTyped z) (sym r.2) (h.sent n r.0 r.1 r.3);
    left = λ c text x n now e f.
        let there = present_kept h.own c n e in
        let r = record_before n there.0 there.1 there.2 in
        ap (λ (z : RecordValue). (edit_of z.steps).held) (same_Some now there.0 (sym f ∙ there.1) ∙ r.2)
        ∙ h.left c text x n r.0 (sym (w.present c) ∙ e) r.1;
  }

  said_kept : (os : ℕ → List Occasion) → HaveSaid os role b → HaveSaid os role b'
  said_kept os h = record {
    said = λ n now e own.
        let r = record_before n now e own in
        let said = h.said n r.0 r.1 r.3 in
        subst (λ (z : RecordValue). HasSaid (os n) z) (sym r.2)
        (record { messages = said.messages; told = said.told; interrupts = said.interrupts });
    none = λ n e. h.none n (w.none_gone n e);
  }

-- ---- every list of events

stands_elsewhere : (role : Role) (s : Course) (b : Book) → IsElsewhere role s.book b → Stands role s → Stands role (record s { book = b })
stands_elsewhere role s b w h = record {
  nothing = h.nothing;
  types = record {
    size = h.types.size;
    book = book_kept role s.book b w (TextOf s.pad.ports) h.types.book;
    read = h.types.read;
    unread = h.types.unread;
    ports = h.types.ports;
    alone = h.types.alone;
    calls = h.types.calls;
  };
  said = said_kept role s.book b w s.occasions h.said;
}

pub all_stand : (role : Role) (c : PadConfig) (events : List PadEvent) (s : Course) → CourseOf role c events s → Stands role s
all_stand role c _ _ (starts dte_node dce_node channels differ config) = stands_first role c dte_node dce_node channels differ config
all_stand role c _ _ (continues {events = events} {s = s} led event) = stands_after role (Here event) s (all_stand role c events s led)
all_stand role c _ _ (elsewhere {events = events} {s = s} led b w) = stands_elsewhere role s b w (all_stand role c events s led)

pub sent_so : EventCourseLaw
sent_so role c events s led n r e own = (let h = all_stand role c events s led in (h.types.book.sent n r e own, h.said.said n r e own))
