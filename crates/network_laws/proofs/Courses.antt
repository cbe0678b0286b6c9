-- The courses of the PADs of a network go on by what happens at the PADs, and by nothing else.
use Rattle.std.proofs.Common.{◌≡◌, ◌≢◌, ℕ, ◌<◌, List, ◌++◌, length, set, Option, Some, refl, sym, ap, ap₂, ◌∙◌, subst, inl, inr}
use Rattle.std.specs.Prelude.{slice_get, if◌then◌else◌, Bool, true, false, option_map}
use Rattle.std.proofs.lemmas.List.{length-map}
use Rattle.std.proofs.lemmas.Option.{same_Some, slice_get_within, slice_get-map}
use Rattle.link_timers.specs.declared.role.Role.{Role}
use Rattle.link_timers.specs.declared.role.Role.TheVariants.{Dte, Dce}
use Rattle.link_timers.specs.declared.timers.TimerId.{TimerId}
use Rattle.link_timers.specs.declared.timers.TimerId.TheVariants.{Idle as idle_timer}
use Rattle.packet_end.specs.PacketEnd.{runs_at}
use Rattle.pad_ports.specs.Ports as port
use Rattle.x25_pad.specs.Pad as pad
use Rattle.x25_pad.specs.Pad.{PadState}
use Rattle.x25_pad.specs.declared.config.PadConfig.{PadConfig}
use Rattle.call_records.specs.Records.{RecordValue}
use Rattle.call_records.specs.Book.{Book, Side, nth_slot}
use Rattle.call_records.specs.Writes.{all_written}
use Rattle.call_records.specs.Register.{Register, LineEnds, found_ends, book_at, with_book}
use Rattle.record_laws.proofs.Books.Basics.{number_is, set_here, set_elsewhere}
use Rattle.record_laws.proofs.Registers.Seeing.{book_there}
use Rattle.node_laws.specs.Quiet.{IsQuiet}
use Rattle.node_laws.specs.Pads.Holds.{node_at, HasItsRecords}
use Rattle.node_laws.specs.Pads.Standing.{drained}
use Rattle.node_laws.specs.Pads.Happening.{PadEvent, HasKey, HasBreak, HasIdleTime, HasPrinting, HasLeaving, HasArrival, HasFrame, HasExpiry, HasRelink, HasRestart, HasTicks, after_event, writes_after}
use Rattle.node_laws.specs.Pads.Courses.{Here, happened}
use Rattle.node_laws.specs.Pads.EventCourses.{IsElsewhere, CourseOf, continues, elsewhere}
use Rattle.node_laws.specs.Pads.Typed.{AreTyped}
use Rattle.node_laws.proofs.Pads.EventCourses.{all_stand, sent_so}
use Rattle.node_laws.proofs.Pads.TypedSteps.{typed_so}
use Rattle.node_laws.proofs.Pads.Lists.{still_none}
use Rattle.user_nodes.specs.Node as node
use Rattle.user_nodes.specs.Node.{NodeState, Pad}
use Rattle.user_nodes.specs.Turn.{Turn}
use Rattle.frame_lines.specs.Lines.{Flights, LineService}
use Rattle.net_events.specs.NodeEvents.{NodeEvent, IsFor, turn_of}
use Rattle.net_events.specs.Network.{PlacedNode, NetNode, User, NetLine, Network, place_at, with_turn_at, net_turn, HappenedAt, elapsed_node}
use Rattle.network_laws.specs.Courses.{HasCourse, one_or_none, brought_by, OwnCourse, OtherCourse, LossCourse, TimeCourse, SentCourse, TypedCourse}
use Rattle.network_laws.specs.LinesPromise.{EndHolds}
use Rattle.network_laws.specs.Switched.IsSwitched.{IsAny}
use Rattle.network_laws.specs.Switched.InnerPromise.{InnerPromise}
use Rattle.network_laws.proofs.Elsewhere.{IsAway, all_away}
use Rattle.network_laws.proofs.LineCourses.{IsPadTurn, pad_turn}
use Rattle.network_laws.proofs.PadTerminals.{count, count_terminal_event, count_idle, count_line}
use Rattle.network_laws.proofs.Switched.PromiseAny.{promise_any}
use Rattle.network_laws.proofs.Uniform.{IsUniform, uniform}

-- ---- a PAD keeps its terminals

expiry_count : (runs : Bool) (id : TimerId) (p : PadState) → count (if runs then pad.line_event (pad.with_expiry p id) else p) ≡ count p
expiry_count true id p = count_line (pad.with_expiry p id)
expiry_count false id p = refl

event_count : (event : PadEvent) (p : PadState) → count (after_event event p) ≡ count p
event_count (HasKey number octet) p = count_terminal_event number (port.after_key octet) p
event_count (HasBreak number) p = count_terminal_event number port.after_break p
event_count (HasIdleTime number) p = count_idle (pad.runs_idle_timer number p) number p
event_count (HasPrinting number) p = count_terminal_event number port.after_print p
event_count (HasLeaving number) p = count_terminal_event number port.after_leaving p
event_count (HasArrival number) p = count_terminal_event number port.after_arrival p
event_count (HasFrame octets) p = count_line (pad.with_frame p octets)
event_count (HasExpiry (idle_timer number)) p = count_idle (pad.runs_idle_timer number p) number p
event_count (HasExpiry id) p = expiry_count (runs_at p.line.end id) id p
event_count HasRelink p = count_line (pad.with_relink p)
event_count HasRestart p = length-map p.ports port.restarted
event_count (HasTicks ticks) p = length-map p.ports (port.elapsed ticks)

-- ---- what is elsewhere

module _ (place : ℕ) where
  -- at the other end of the PAD's line
  at_far_end : (b b' : Book) → IsAway place Dce b b' → node_at Dte b ≡ place → IsElsewhere Dte b b'
  at_far_end b b' w is = record {
    nodes = w.nodes;
    present = λ channel. ap (λ (s : Side). (nth_slot s.slots channel).present) w.other;
    kept = λ n r at own. (let k = w.kept n r at in (k.0, k.1, subst (λ (z : RecordValue). z ≡ record r { number = z.number; own = z.own; caller = z.caller; path = z.path }) (sym (k.3 (own ∙ is))) refl));
    was = λ n now at own. (now, w.was n now at (own ∙ w.nodes Dte ∙ is), refl);
    none_gone = λ n none. still_none b.records b'.records n (λ r at. (let k = w.kept n r at in (k.0, k.1))) none;
    far = w.own;
  }

  -- on another line
  on_other_line : (own line : ℕ) (role : Role) (b' : Book) (g : Register) → own ≢ line → IsAway place role (book_at line g) b' → node_at Dte (book_at own g) ≡ place
      → HasItsRecords Dce (book_at own g) → IsElsewhere Dte (book_at own g) (book_at own (with_book line b' g))
  on_other_line own line role b' g apart w is far = record {
    nodes = nodes;
    present = λ channel. ap (λ (o : Option LineEnds). (nth_slot (found_ends o).dte.slots channel).present) same;
    kept = λ n r at mine. (let k = w.kept n r at in (k.0, k.1, subst (λ (z : RecordValue). z ≡ record r { number = z.number; own = z.own; caller = z.caller; path = z.path }) (sym (k.3 (mine ∙ is))) refl));
    was = λ n now at mine. (now, w.was n now at (mine ∙ nodes Dte ∙ is), refl);
    none_gone = λ n none. still_none g.records b'.records n (λ r at. (let k = w.kept n r at in (k.0, k.1))) none;
    far = λ channel n e.
        let r = far channel n (sym (ap (λ (o : Option LineEnds). (nth_slot (found_ends o).dce.slots channel).present) same) ∙ e) in
        let k = w.kept n r.0 r.1 in
        (k.0, k.1, k.2 ∙ r.2 ∙ sym (nodes Dce));
  }
    where
      same : slice_get (set g.lines line (record { dte = b'.dte; dce = b'.dce })) own ≡ slice_get g.lines own
      same = set_elsewhere g.lines line own (record { dte = b'.dte; dce = b'.dce }) apart

      nodes : (side : Role) → node_at side (book_at own (with_book line b' g)) ≡ node_at side (book_at own g)
      nodes Dte = ap (λ (o : Option LineEnds). (found_ends o).dte.node) same
      nodes Dce = ap (λ (o : Option LineEnds). (found_ends o).dce.node) same

-- ---- a PAD's own place

user_is : (nodes : List NetNode) (place : ℕ) (m n : PlacedNode) → slice_get nodes place ≡ Some (User m) → slice_get nodes place ≡ Some (User n) → m ≡ n
user_is nodes place m n a b = (let e : ◌≡◌ {A = Option NetNode} (Some (User m)) (Some (User n)) = sym a ∙ b in cc)

-- a line keeps its places when its frames change
line_after : (lines : List NetLine) (line : ℕ) (l : NetLine) (flights : Flights) → slice_get lines line ≡ Some l → (k : ℕ) (m : NetLine) → slice_get lines k ≡ Some m
    → (m' : NetLine) × (slice_get (set lines line (record l { flights = flights })) k ≡ Some m') × (m'.dte ≡ m.dte)
line_after lines line l flights there k m at = elim (number_is k line) [
  | inl same ↦
      let one : m ≡ l = same_Some m l (sym at ∙ ap (λ (j : ℕ). slice_get lines j) same ∙ there) in
      let new : NetLine = record l { flights = flights } in
      (new, ap (λ (j : ℕ). slice_get (set lines line new) j) same ∙ set_here lines line new l there, ap (λ (x : NetLine). x.dte) (sym one))
  | inr apart ↦ (m, set_elsewhere lines line k (record l { flights = flights }) apart ∙ at, refl)
]

module _ (s : Network) (promise : InnerPromise s) (c : PadConfig) (own place : ℕ) (events : List PadEvent) (h : HasCourse c own place events s) where
  at_dte : slice_get s.nodes h.line_is.dte ≡ Some (User h.node)
  at_dte = ap (λ (k : ℕ). slice_get s.nodes k) h.is_dte ∙ h.node_there

  own_end : EndHolds s own h.line_is Dte
  own_end = promise.ends own h.line_is Dte h.line_there (h.node, at_dte)

  -- the register has the PAD's end of the line as its own
  own_node : node_at Dte (book_at own s.register) ≡ place
  own_node = own_end.own ∙ h.is_dte

  records_of : (line : ℕ) (role : Role) → HasItsRecords role (book_at line s.register)
  records_of line role channel n e = (let r = promise.records.present line role channel n e in (r.value, r.there, r.node))

pub sent_course : SentCourse
sent_course s promise c own place events h i r at is =
    sent_so Dte c events h.course h.led i r (ap (λ (b : Book). slice_get b.records i) h.book ∙ at)
    (is ∙ sym (own_node s promise c own place events h) ∙ sym (ap (λ (b : Book). node_at Dte b) h.book))

pub typed_course : TypedCourse
typed_course s promise c own place events h =
    subst (λ (node : ℕ). AreTyped Dte c events h.course h.led s.register.records node) (own_node s promise c own place events h)
    (subst (λ (b : Book). AreTyped Dte c events h.course h.led b.records (node_at Dte b)) h.book (typed_so Dte c events h.course h.led))

-- ---- an event at a node with users

module _ (L : LineService) (faithful : L.faithful) (event : NodeEvent) (line : ℕ) (role : Role) (s t : Network) (any : IsAny L s) (d : HappenedAt L event line role s t) where
  promise : InnerPromise s
  promise = (promise_any L s any faithful).inner

  end : EndHolds s line d.line_is role
  end = promise.ends line d.line_is role d.line_there (d.node, d.node_there)

  end_node : end.node ≡ d.node
  end_node = user_is s.nodes (place_at role d.line_is) end.node d.node end.node_there d.node_there

  node_line : d.node.line ≡ line
  node_line = sym (ap (λ (n : PlacedNode). n.line) end_node) ∙ end.node_line

  quiet : IsQuiet d.node.node
  quiet = subst (λ (n : PlacedNode). IsQuiet n.node) end_node end.quiet

  less : line < length s.register.lines
  less = subst (λ (n : ℕ). line < n) (sym any.addressed.registered) (slice_get_within s.lines line d.line_is d.line_there)

  module _ (c : PadConfig) (own place : ℕ) (events : List PadEvent) (h : HasCourse c own place events s) where
    -- the two lines are one if their numbers are
    one_line : own ≡ line → d.line_is ≡ h.line_is
    one_line same = same_Some d.line_is h.line_is (sym d.line_there ∙ ap (λ (k : ℕ). slice_get s.lines k) (sym same) ∙ h.line_there)

    -- ---- at another place

    other_book : own ≡ line → role ≡ Dce → IsAway place role (book_at line s.register) (net_turn event line role d.node s).book
        → IsElsewhere Dte (book_at own s.register) (book_at own (with_book line (net_turn event line role d.node s).book s.register))
    other_book same is_dce w =
        let b' : Book = (net_turn event line role d.node s).book in
        let now : book_at own (with_book line b' s.register) ≡ b' = ap (λ (k : ℕ). book_at k (with_book line b' s.register)) same ∙ book_there line b' s.register less in
        let far : IsAway place Dce (book_at own s.register) b' =
        subst (λ (k : ℕ). IsAway place Dce (book_at k s.register) b') (sym same) (subst (λ (x : Role). IsAway place x (book_at line s.register) b') is_dce w) in
        subst (λ (b : Book). IsElsewhere Dte (book_at own s.register) b) (sym now)
        (at_far_end place (book_at own s.register) b' far (own_node s promise c own place events h))

    away : place_at role d.line_is ≢ place → IsAway place role (book_at line s.register) (net_turn event line role d.node s).book
    away apart =
        let u : IsUniform role (λ b. turn_of event role d.node.node b) = uniform event role d.node.node in
        subst (λ (b : Book). IsAway place role (book_at line s.register) b) (sym (u.written (book_at line s.register)))
        (all_away place role u.writes (book_at line s.register) (λ e. apart (sym end.own ∙ e)) (records_of s promise c own place events h line role))

    -- an event at another place of the PAD's line is one of the DCE
    far_role : own ≡ line → place_at role d.line_is ≢ place → role ≡ Dce
    far_role same apart = by role apart
      where
        by : (x : Role) → place_at x d.line_is ≢ place → x ≡ Dce
        by Dte differs = absurd (differs (ap (λ (x : NetLine). x.dte) (one_line same) ∙ h.is_dte))
        by Dce differs = refl

    is_elsewhere : place_at role d.line_is ≢ place
        → IsElsewhere Dte (book_at own s.register) (book_at own (with_book line (net_turn event line role d.node s).book s.register))
    is_elsewhere apart = elim (number_is own line) [
      | inl same ↦ other_book same (far_role same apart) (away apart)
      | inr differs ↦
          on_other_line place own line role (net_turn event line role d.node s).book s.register differs (away apart)
          (own_node s promise c own place events h) (records_of s promise c own place events h own Dce)
    ]

    pub goes_on_elsewhere : place_at role d.line_is ≢ place → HasCourse c own place events t
    goes_on_elsewhere apart =
        let turn : Turn = net_turn event line role d.node s in
        let b' : Book = book_at own (with_book line turn.book s.register) in
        let there = line_after s.lines line d.line_is d.flights d.line_there own h.line_is h.line_there in
        let after : HasCourse c own place events (with_turn_at line d.line_is (place_at role d.line_is) d.node turn d.flights s) = record {
          node = h.node;
          node_there = set_elsewhere s.nodes (place_at role d.line_is) place _ (λ e. apart (sym e)) ∙ h.node_there;
          node_line = h.node_line;
          pad = h.pad;
          is_pad = h.is_pad;
          has_terminals = h.has_terminals;
          line_is = there.0;
          line_there = there.1;
          is_dte = there.2 ∙ h.is_dte;
          course = record h.course { book = b' };
          led = elsewhere h.led b' (subst (λ (b : Book). IsElsewhere Dte b b') (sym h.book) (is_elsewhere apart));
          same = h.same;
          book = refl;
        } in
        subst (λ (x : Network). HasCourse c own place events x) (sym d.others) after

    -- ---- at the PAD

    own_place : place_at role d.line_is ≡ place → d.node ≡ h.node
    own_place here = user_is s.nodes place d.node h.node (ap (λ (k : ℕ). slice_get s.nodes k) (sym here) ∙ d.node_there) h.node_there

    own_line : place_at role d.line_is ≡ place → own ≡ line
    own_line here = sym h.node_line ∙ sym (ap (λ (n : PlacedNode). n.line) (own_place here)) ∙ node_line

    own_role : place_at role d.line_is ≡ place → role ≡ Dte
    own_role here = by role here end.own
      where
        by : (x : Role) → place_at x d.line_is ≡ place → node_at x (book_at line s.register) ≡ place_at x d.line_is → x ≡ Dte
        by Dte is at_end = refl
        by Dce is at_end =
            let apart = (all_stand Dte c events h.course h.led).types.book.apart in
            let dte : node_at Dte h.course.book ≡ place = ap (λ (b : Book). node_at Dte b) h.book ∙ own_node s promise c own place events h in
            let dce : node_at Dce h.course.book ≡ place =
            ap (λ (b : Book). node_at Dce b) h.book ∙ ap (λ (k : ℕ). node_at Dce (book_at k s.register)) (own_line here) ∙ at_end ∙ is in
            absurd (apart (dte ∙ sym dce))

-- the PAD is the DTE of the line
at_own_end : (L : LineService) → L.faithful → (event : NodeEvent) (line : ℕ) (s t : Network) → IsAny L s → (d : HappenedAt L event line Dte s t)
    → (c : PadConfig) (own place : ℕ) (events : List PadEvent) → d.line_is.dte ≡ place → HasCourse c own place events s → HasCourse c own place (events ++ brought_by event) t
at_own_end L f event line s t any d c own place events here h =
    let b : Book = book_at line s.register in
    let node_is : d.node ≡ h.node = own_place L f event line Dte s t any d c own place events h here in
    let same : own ≡ line = own_line L f event line Dte s t any d c own place events h here in
    let is_pad : d.node.node ≡ Pad h.pad = ap (λ (n : PlacedNode). n.node) node_is ∙ h.is_pad in
    let k : IsPadTurn event h.pad b =
    pad_turn event h.pad b (subst (λ (n : NodeState). IsFor event n) is_pad d.is_for) (subst (λ (n : NodeState). IsQuiet n) is_pad (quiet L f event line Dte s t any d)) in
    let turn : Turn = net_turn event line Dte d.node s in
    let placed : PlacedNode = record d.node { node = node.drained turn.node } in
    let there = line_after s.lines line d.line_is d.flights d.line_there own h.line_is h.line_there in
    let after : HasCourse c own place (events ++ brought_by event) (with_turn_at line d.line_is d.line_is.dte d.node turn d.flights s) = record {
      node = placed;
      node_there = ap (λ (j : ℕ). slice_get (set s.nodes d.line_is.dte (User placed)) j) (sym here) ∙ set_here s.nodes d.line_is.dte (User placed) (User d.node) d.node_there;
      node_line = ap (λ (n : PlacedNode). n.line) node_is ∙ h.node_line;
      pad = k.turn.then;
      is_pad = ap (λ (n : NodeState). node.drained (turn_of event Dte n b).node) is_pad ∙ k.turn.there;
      has_terminals = ap (λ (p : PadState). count p) (sym k.turn.same) ∙ event_count k.event_is (drained h.pad) ∙ h.has_terminals;
      line_is = there.0;
      line_there = there.1;
      is_dte = there.2 ∙ h.is_dte;
      course = happened Dte (Here k.event_is) h.course;
      led = subst (λ (o : Option PadEvent). CourseOf Dte c (events ++ one_or_none o) (happened Dte (Here k.event_is) h.course)) (sym k.is) (continues h.led k.event_is);
      same = ap (λ (p : PadState). drained (after_event k.event_is p)) h.same ∙ k.turn.same;
      book = ap₂ (λ (p : PadState) (x : Book). all_written Dte (writes_after k.event_is p) x) h.same (h.book ∙ ap (λ (j : ℕ). book_at j s.register) same)
          ∙ k.turn.book ∙ sym (ap (λ (n : NodeState). (turn_of event Dte n b).book) is_pad)
          ∙ sym (ap (λ (j : ℕ). book_at j (with_book line turn.book s.register)) same ∙ book_there line turn.book s.register (less L f event line Dte s t any d));
    } in
    subst (λ (x : Network). HasCourse c own place (events ++ brought_by event) x) (sym d.others) after

pub own_course : (L : LineService) → OwnCourse L
own_course L f event line Dte s t any d c own place events here h = at_own_end L f event line s t any d c own place events here h
own_course L f event line Dce s t any d c own place events here h = absurd (let no = own_role L f event line Dce s t any d c own place events h here in cc)

pub other_course : (L : LineService) → OtherCourse L
other_course L f event line role s t any d c own place events apart h = goes_on_elsewhere L f event line role s t any d c own place events h apart

-- ---- a loss, and time

pub loss_course : (L : LineService) → LossCourse L
loss_course L line d s t w c own place events h =
    let there = line_after s.lines line w.line_is w.flights w.line_there own h.line_is h.line_there in
    let after : HasCourse c own place events (record s { lines = set s.lines line (record w.line_is { flights = w.flights }) }) =
    record {
      node = h.node;
      node_there = h.node_there;
      node_line = h.node_line;
      pad = h.pad;
      is_pad = h.is_pad;
      has_terminals = h.has_terminals;
      line_is = there.0;
      line_there = there.1;
      is_dte = there.2 ∙ h.is_dte;
      course = h.course;
      led = h.led;
      same = h.same;
      book = h.book;
    } in
    subst (λ (x : Network). HasCourse c own place events x) (sym w.others) after

pub time_course : TimeCourse
time_course s ticks c own place events h = record {
  node = record h.node { node = node.node_elapsed ticks h.node.node };
  node_there = slice_get-map (elapsed_node ticks) s.nodes place ∙ ap (λ (o : Option NetNode). option_map (elapsed_node ticks) o) h.node_there;
  pad = pad.elapsed ticks h.pad;
  is_pad = ap (λ (n : NodeState). node.node_elapsed ticks n) h.is_pad;
  node_line = h.node_line;
  has_terminals = length-map h.pad.ports (port.elapsed ticks) ∙ h.has_terminals;
  line_is = h.line_is;
  line_there = h.line_there;
  is_dte = h.is_dte;
  course = happened Dte (Here (HasTicks ticks)) h.course;
  led = continues h.led (HasTicks ticks);
  same = ap (λ (p : PadState). drained (pad.elapsed ticks p)) h.same;
  book = ap (λ (p : PadState). all_written Dte (writes_after (HasTicks ticks) p) h.course.book) h.same ∙ h.book;
}
