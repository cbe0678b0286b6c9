-- Over an event at a switch no course of a PAD goes on: the calls that are joined there are handed on, of which nothing
-- is the PAD's but the path of its record.
use Rattle.std.proofs.Common.{◌≡◌, ℕ, ◌<◌, List, [], ◌∷◌, ◌++◌, length, set, Option, Some, None, refl, sym, ap, ap₂, ◌∙◌, subst, inl, inr, true≢false}
use Rattle.std.specs.Prelude.{slice_get, if◌then◌else◌, Bool, true, false, is_some, nat_le}
use Rattle.std.proofs.lemmas.Option.{same_Some, slice_get_within}
use Rattle.link_timers.specs.declared.role.Role.{Role}
use Rattle.link_timers.specs.declared.role.Role.TheVariants.{Dte, Dce}
use Rattle.call_records.specs.Records.{RecordValue, HopValue, with_hop}
use Rattle.call_records.specs.Book.{Book, Side, Slot, side_of, slot_at, nth_slot, with_slot, with_change}
use Rattle.call_records.specs.Register.{Register, LineEnds, ChannelEnd, found_ends, book_at, with_book, holds, holder_at, goes_on, handed_on}
use Rattle.switch_joins.specs.declared.channels.NewJoin.{NewJoin}
use Rattle.record_laws.proofs.Books.Basics.{number_is, set_elsewhere}
use Rattle.record_laws.proofs.Registers.Seeing.{book_there}
use Rattle.node_laws.specs.Pads.Holds.{node_at, HasItsRecords}
use Rattle.node_laws.specs.Pads.Happening.{PadEvent}
use Rattle.node_laws.specs.Pads.Courses.{Course, IsSeenAs}
use Rattle.node_laws.specs.Pads.EventCourses.{IsElsewhere, CourseOf, elsewhere}
use Rattle.node_laws.proofs.Pads.Books.{side_changed, change_keeps, change_of, slot_cases, slot_records, slot_node}
use Rattle.node_laws.proofs.Pads.EventCourses.{all_stand}
use Rattle.node_laws.proofs.Pads.Lists.{still_none}
use Rattle.x25_pad.specs.declared.config.PadConfig.{PadConfig}
use Rattle.frame_lines.specs.Lines.{LineService}
use Rattle.net_events.specs.AtSwitch.{SwitchHappened, joins_of, all_handed, far_end, own_end}
use Rattle.net_events.specs.Network.{NetNode, User, Network, own_role}
use Rattle.network_laws.specs.Courses.{HasCourse, SwitchCourse}
use Rattle.network_laws.proofs.Switched.SwitchStanding.{user_stays, later_line}

-- ---- a hop

-- it changes the path alone
hop_seen : (hop : HopValue) (r : RecordValue) → IsSeenAs r (with_hop hop r)
hop_seen hop r = by (nat_le 16 (length r.path))
  where
    by : (v : Bool) → IsSeenAs r (if v then r else record r { path = r.path ++ hop ∷ [] })
    by true = refl
    by false = refl

hop_node : (hop : HopValue) (r : RecordValue) → (with_hop hop r).node ≡ r.node
hop_node hop r = ap (λ (z : RecordValue). z.node) (hop_seen hop r)

-- two books have the same nodes and present calls, and the same records but for what a hop changes
record IsHopped (b b' : Book) : Type 0 where
  nodes : (side : Role) → node_at side b' ≡ node_at side b
  present : (side : Role) (channel : ℕ) → (slot_at side channel b').present ≡ (slot_at side channel b).present
  kept : (n : ℕ) (r : RecordValue) → slice_get b.records n ≡ Some r → (now : RecordValue) × (slice_get b'.records n ≡ Some now) × IsSeenAs r now
  was : (n : ℕ) (now : RecordValue) → slice_get b'.records n ≡ Some now → (r : RecordValue) × (slice_get b.records n ≡ Some r) × IsSeenAs r now

hopped_elsewhere : (b b' : Book) → IsHopped b b' → HasItsRecords Dce b → IsElsewhere Dte b b'
hopped_elsewhere b b' w far = record {
  nodes = w.nodes;
  present = w.present Dte;
  kept = λ n r at own. w.kept n r at;
  was = λ n now at own. w.was n now at;
  none_gone = λ n none. still_none b.records b'.records n (λ r at. (let k = w.kept n r at in (k.0, k.1))) none;
  far = λ channel n e.
      let r = far channel n (sym (w.present Dce channel) ∙ e) in
      let k = w.kept n r.0 r.1 in
      (k.0, k.1, ap (λ (z : RecordValue). z.node) k.2 ∙ r.2 ∙ sym (w.nodes Dce));
}

-- ---- a call goes on to a channel

module _ (to : ChannelEnd) (holder : Option ℕ) (b : Book) where
  abbrev slot : Slot
  slot = record (slot_at to.role to.channel b) { placed = holder }

  abbrev held : Book
  held = with_slot to.role to.channel slot b

  abbrev hop : HopValue
  hop = record { switch = (side_of to.role b).node; line = to.line; channel = to.channel }

  same_records : (n : ℕ) → slice_get held.records n ≡ slice_get b.records n
  same_records n = ap (λ (rs : List RecordValue). slice_get rs n) (slot_records to.role to.channel slot b)

  same_present : (side : Role) (channel : ℕ) → (slot_at side channel held).present ≡ (slot_at side channel b).present
  same_present side channel = elim (slot_cases to.role to.channel slot b side channel) [
    | inl q ↦ ap (λ (s : Slot). s.present) q
    | inr q ↦ ap (λ (s : Slot). s.present) q.0 ∙ sym (ap₂ (λ (x : Role) (c : ℕ). (slot_at x c b).present) q.1 q.2)
  ]

  seen_so : (n : ℕ) (now : RecordValue) → slice_get (with_change holder (with_hop hop) held).records n ≡ Some now
      → (r : RecordValue) × (slice_get b.records n ≡ Some r) × IsSeenAs r now
  seen_so n now at =
      let q = change_of holder (with_hop hop) held n now at in (
        q.0,
        sym (same_records n) ∙ q.1,
        elim q.2 [
          | inl k ↦ subst (λ (z : RecordValue). IsSeenAs q.0 z) (sym k.1) (hop_seen hop q.0)
          | inr k ↦ subst (λ (z : RecordValue). IsSeenAs q.0 z) (sym k) refl
        ],
      )

  is_hopped : IsHopped b (with_change holder (with_hop hop) held)
  is_hopped = record {
    nodes = λ side. ap (λ (s : Side). s.node) (side_changed side holder (with_hop hop) held) ∙ slot_node to.role to.channel slot b side;
    present = λ side channel. ap (λ (s : Side). (nth_slot s.slots channel).present) (side_changed side holder (with_hop hop) held) ∙ same_present side channel;
    kept = λ n r at.
        let now = change_keeps holder (with_hop hop) held (hop_node hop) n r (same_records n ∙ at) in
        let was = seen_so n now.0 now.1 in
        (now.0, now.1, subst (λ (z : RecordValue). IsSeenAs z now.0) (same_Some was.0 r (sym was.1 ∙ at)) was.2);
    was = seen_so;
  }

-- what a line's book has when a call went on to a channel of some line
one_handed : (own : ℕ) (to : ChannelEnd) (holder : Option ℕ) (g : Register) → is_some (slice_get g.lines to.line) ≡ true
    → IsHopped (book_at own g) (book_at own (with_book to.line (goes_on to holder (book_at to.line g)) g))
one_handed own to holder g there = elim (number_is own to.line) [
  | inl same ↦
      let now : book_at own (with_book to.line b' g) ≡ b' = ap (λ (k : ℕ). book_at k (with_book to.line b' g)) same ∙ book_there to.line b' g (within (slice_get g.lines to.line) refl there) in
      subst (λ (x : Book). IsHopped (book_at own g) x) (sym now) (subst (λ (k : ℕ). IsHopped (book_at k g) b') (sym same) w)
  | inr apart ↦
      let same : slice_get (set g.lines to.line (record { dte = b'.dte; dce = b'.dce })) own ≡ slice_get g.lines own = set_elsewhere g.lines to.line own (record { dte = b'.dte; dce = b'.dce }) apart in
      record { nodes = λ side. ap (λ (s : Side). s.node) (side_same side same); present = λ side channel. ap (λ (s : Side). (nth_slot s.slots channel).present) (side_same side same); kept = w.kept; was = w.was }
]
  where
    b' : Book
    b' = goes_on to holder (book_at to.line g)

    w : IsHopped (book_at to.line g) b'
    w = is_hopped to holder (book_at to.line g)

    within : (o : Option LineEnds) → slice_get g.lines to.line ≡ o → is_some o ≡ true → to.line < length g.lines
    within None at e = absurd (true≢false (sym e))
    within (Some ends) at e = slice_get_within g.lines to.line ends at

    side_same : (side : Role) → slice_get (set g.lines to.line (record { dte = b'.dte; dce = b'.dce })) own ≡ slice_get g.lines own
        → side_of side (book_at own (with_book to.line b' g)) ≡ side_of side (book_at own g)
    side_same Dte same = ap (λ (o : Option LineEnds). (found_ends o).dte) same
    side_same Dce same = ap (λ (o : Option LineEnds). (found_ends o).dce) same

-- ---- all calls that a switch joins

-- the course of the same events leads to what the register has of the line then
record LeadsOn (c : PadConfig) (events : List PadEvent) (course : Course) (own : ℕ) (g : Register) : Type 0 where
  book : Book
  is : book ≡ book_at own g
  led : CourseOf Dte c events (record course { book = book })

module _ (c : PadConfig) (events : List PadEvent) (own : ℕ) where
  hand_on : (from to : ChannelEnd) (g : Register) (course : Course) → CourseOf Dte c events course → course.book ≡ book_at own g
      → LeadsOn c events course own (handed_on from to g)
  hand_on from to g course led is = by (is_some (slice_get g.lines to.line)) refl
    where
      by : (v : Bool) → is_some (slice_get g.lines to.line) ≡ v
          → LeadsOn c events course own (if v then with_book to.line (goes_on to (holder_at from g) (book_at to.line g)) g else g)
      by false none = record { book = course.book; is = is; led = led }
      by true there =
          let after : Book = book_at own (with_book to.line (goes_on to (holder_at from g) (book_at to.line g)) g) in
          let w : IsHopped course.book after = subst (λ (b : Book). IsHopped b after) (sym is) (one_handed own to (holder_at from g) g there) in
          record {
            book = after;
            is = refl;
            led = elsewhere led after (hopped_elsewhere course.book after w (all_stand Dte c events course led).types.book.far);
          }

  hand_all_on : (lines : List ℕ) (roles : ℕ → Role) (joins : List NewJoin) (g : Register) (course : Course) → CourseOf Dte c events course → course.book ≡ book_at own g
      → LeadsOn c events course own (all_handed lines roles joins g)
  hand_all_on lines roles [] g course led is = record { book = course.book; is = is; led = led }
  hand_all_on lines roles (j ∷ joins) g course led is =
      let from : ChannelEnd = far_end lines roles j.came_in in
      let to : ChannelEnd = own_end lines roles j.placed in
      let first = hand_on from to g course led is in
      let rest = hand_all_on lines roles joins (handed_on from to g) (record course { book = first.book }) first.led first.is in
      record { book = rest.book; is = rest.is; led = rest.led }

pub switch_course : (L : LineService) → SwitchCourse L
switch_course L event at s t d c own place events h =
    let joins : List NewJoin = joins_of event d.node.switch in
    let on = hand_all_on c events own d.node.lines (own_role d.node.switch) joins s.register h.course h.led h.book in
    let line = later_line L event d.node s.lines t.lines d.lines own h.line_is h.line_there in
    record {
      node = h.node;
      node_there = ap (λ (nodes : List NetNode). slice_get nodes place) d.nodes ∙ user_stays event s.nodes at place d.node h.node d.node_there h.node_there;
      node_line = h.node_line;
      pad = h.pad;
      is_pad = h.is_pad;
      has_terminals = h.has_terminals;
      line_is = line.l';
      line_there = line.there;
      is_dte = line.dte ∙ h.is_dte;
      course = record h.course { book = on.book };
      led = on.led;
      same = h.same;
      book = on.is ∙ ap (λ (g : Register). book_at own g) (sym d.register);
    }
