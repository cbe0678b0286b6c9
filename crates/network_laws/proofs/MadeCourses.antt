-- A PAD of a network that is made has the course of no event.
use Rattle.std.proofs.Common.{◌≡◌, ℕ, zero, suc, ◌≤◌, ◌-◌, List, [], ◌∷◌, ◌++◌, length, map, replicate, Option, Some, None, refl, sym, ap, ◌∙◌, subst, inl, inr, arith, true≢false, append_assoc, append-nil}
use Rattle.std.specs.Prelude.{slice_get, if◌then◌else◌, Bool, true, false, option_map, ◌⊎◌}
use Rattle.std.proofs.lemmas.List.{length-replicate}
use Rattle.std.proofs.lemmas.Option.{none-some, same_Some, slice_get-map}
use Rattle.link_timers.specs.declared.role.Role.{Role}
use Rattle.link_timers.specs.declared.role.Role.TheVariants.{Dte, Dce}
use Rattle.packet_end.specs.Params.{AreParams}
use Rattle.packet_end.specs.declared.params.EndParams.{EndParams}
use Rattle.pad_ports.specs.Ports.{PortState, new_port}
use Rattle.x25_pad.specs.Pad as pad
use Rattle.x25_pad.specs.Pad.{PadState}
use Rattle.x25_pad.specs.Making.{made, standing_channel, IsConfig}
use Rattle.x25_pad.specs.declared.config.PadConfig.{PadConfig}
use Rattle.call_records.specs.Book.{Book, free_slot, found_slot, nth_slot, made_book}
use Rattle.call_records.specs.Register.{Register, LineEnds, LinePlan, found_ends, book_at, free_ends, with_standing_call, with_free_line, with_lines, empty_register, made_register}
use Rattle.call_records.proofs.Opening.{alone, stands_alone}
use Rattle.node_laws.specs.Pads.Holds.{node_at, HasItsRecords}
use Rattle.node_laws.specs.Pads.Courses.{Course, beginning}
use Rattle.node_laws.specs.Pads.EventCourses.{IsElsewhere, CourseOf, starts, elsewhere}
use Rattle.user_nodes.specs.Node as node
use Rattle.user_nodes.specs.Node.{NodeState, Pad, sent_out}
use Rattle.frame_lines.specs.Lines.{LineService}
use Rattle.net_config.specs.NetPlan.{NewDte, NewPad, NewNode, NewLine, NetPlan, Planned, PlannedUser, PlannedSwitch, IsNewDte, IsEndPlan, IsKindOfLine, IsLinePlan, HasEndAt, IsPlan}
use Rattle.net_config.specs.Plan.{StandsAlone}
use Rattle.net_events.specs.Network.{Network}
use Rattle.net_events.specs.Opening.{new_end, placed_new, line_plan, IsMade}
use Rattle.network_laws.specs.Courses.{HasCourse, IsPlannedPad, MadeCourse}

-- ---- the one line of a plan

only_one : {X : Type 0} (xs : List X) (n : ℕ) (x : X) → slice_get xs n ≡ Some x → length xs ≡ 1 → (n ≡ 0) × (xs ≡ x ∷ [])
only_one [] n x at one = absurd (none-some x at)
only_one {X} (y ∷ []) zero x at one = (refl, ap (λ (z : X). z ∷ []) (same_Some y x at))
only_one (y ∷ []) (suc n) x at one = absurd (none-some x at)
only_one (y ∷ z ∷ xs) n x at one = absurd (omega arith)

-- ---- the register of lines on which no call stands

free_lines : (lines : List NewLine) (g : Register) → ((k : ℕ) (l : NewLine) → slice_get lines k ≡ Some l → l.params.standing ≡ false)
    → with_lines (map line_plan lines) g ≡ record g { lines = g.lines ++ map free_ends (map line_plan lines) }
free_lines [] g free = ap (λ (lines : List LineEnds). record g { lines = lines }) (sym (append-nil g.lines))
free_lines (l ∷ lines) g free =
    ap (λ (v : Bool). with_lines (map line_plan lines) (if v then with_standing_call (length g.lines) (with_free_line (line_plan l) g) else with_free_line (line_plan l) g)) (free 0 l refl)
    ∙ free_lines lines (with_free_line (line_plan l) g) (λ k m at. free (suc k) m at)
    ∙ ap (λ (lines : List LineEnds). record g { lines = lines }) (append_assoc g.lines (free_ends (line_plan l) ∷ []) (map free_ends (map line_plan lines)))

abbrev free_book : NewLine → Book
free_book l = record { records = []; pairs = []; dte = (free_ends (line_plan l)).dte; dce = (free_ends (line_plan l)).dce }

free_at : (lines : List NewLine) (n : ℕ) (l : NewLine) → slice_get lines n ≡ Some l → ((k : ℕ) (m : NewLine) → slice_get lines k ≡ Some m → m.params.standing ≡ false)
    → book_at n (made_register (map line_plan lines)) ≡ free_book l
free_at lines n l at free =
    let there : slice_get (map free_ends (map line_plan lines)) n ≡ Some (free_ends (line_plan l)) =
    slice_get-map free_ends (map line_plan lines) n
    ∙ ap (λ (o : Option LinePlan). option_map free_ends o) (slice_get-map line_plan lines n ∙ ap (λ (o : Option NewLine). option_map line_plan o) at) in
    ap (λ (g : Register). book_at n g) (free_lines lines empty_register free)
    ∙ ap (λ (o : Option LineEnds). record { records = []; pairs = []; dte = (found_ends o).dte; dce = (found_ends o).dce }) there

no_present : (count channel : ℕ) → (nth_slot (replicate count free_slot) channel).present ≡ None
no_present count zero = refl
no_present count (suc i) = by count i
  where
    by : (count i : ℕ) → (found_slot (slice_get (replicate count free_slot) i)).present ≡ None
    by zero i = refl
    by (suc count) zero = refl
    by (suc count) (suc i) = by count i

-- it differs from that of a line as it is made in the address alone
made_free : (l : NewLine) → IsElsewhere Dte (made_book l.dte l.dce l.params.channels false) (free_book l)
made_free l = record {
  nodes = nodes;
  present = λ channel. refl;
  kept = λ n r at own. absurd (none-some r at);
  was = λ n now at own. absurd (none-some now at);
  none_gone = λ n none. refl;
  far = λ channel n e. absurd (none-some n (sym (no_present l.params.channels channel) ∙ e));
}
  where
    nodes : (side : Role) → node_at side (free_book l) ≡ node_at side (made_book l.dte l.dce l.params.channels false)
    nodes Dte = refl
    nodes Dce = refl

-- ---- the PAD

module _ (L : LineService) (plan : NetPlan) (s : Network) (c : PadConfig) (own place : ℕ) (is : IsPlan plan) (stands : StandsAlone plan) (m : IsMade L plan s) (p : IsPlannedPad c plan own place) where
  abbrev user : NewNode
  user = record { line = own; role = Dte; as_dte = NewPad c.params c.terminals }

  line_is : IsLinePlan plan.nodes own p.line_is
  line_is = is.lines own p.line_is p.line_there

  at_dte : p.line_is.dte ≡ place
  at_dte = by (is.nodes place (PlannedUser user) p.there)
    where
      by : HasEndAt plan.lines place own → p.line_is.dte ≡ place
      by h =
          let one : h.line_is ≡ p.line_is = same_Some h.line_is p.line_is (sym h.there ∙ p.line_there) in
          elim h.at_end [
            | inl e ↦ ap (λ (l : NewLine). l.dte) (sym one) ∙ e
            | inr e ↦
                let dce : line_is.dce ≡ PlannedUser user = same_Some line_is.dce (PlannedUser user)
                (sym line_is.dce_there ∙ ap (λ (k : ℕ). slice_get plan.nodes k) (ap (λ (l : NewLine). l.dce) (sym one) ∙ e) ∙ p.there) in
                let role : user.role ≡ Dce = (subst (λ (x : Planned). IsEndPlan own Dce x) dce line_is.dce_stands).1 in
                absurd (let no : ◌≡◌ {A = Role} Dte Dce = role in cc)
          ]

  kind : IsKindOfLine p.line_is (PlannedUser user) line_is.dce
  kind =
      subst (λ (x : Planned). IsKindOfLine p.line_is x line_is.dce)
      (same_Some line_is.dte (PlannedUser user) (sym line_is.dte_there ∙ ap (λ (k : ℕ). slice_get plan.nodes k) at_dte ∙ p.there)) line_is.kind

  is_new : IsNewDte user.as_dte p.line_is.params
  is_new = by line_is.dce kind
    where
      by : (dce : Planned) → IsKindOfLine p.line_is (PlannedUser user) dce → IsNewDte user.as_dte p.line_is.params
      by (PlannedUser n) k = k.0
      by (PlannedSwitch n) k = k.0

  -- a call stands between users alone, on a line without an address
  bare : p.line_is.params.standing ≡ true → p.line_is.address ≡ []
  bare standing = by line_is.dce kind
    where
      by : (dce : Planned) → IsKindOfLine p.line_is (PlannedUser user) dce → p.line_is.address ≡ []
      by (PlannedUser n) k = k.1
      by (PlannedSwitch n) k = absurd (true≢false (sym standing ∙ k.2))

  is_config : IsConfig c
  is_config =
      record {
        line = subst AreParams p.params line_is.params;
        least = is_new.0;
        most = is_new.1;
        size = ap (λ (x : EndParams). x.flow.size) (sym p.params) ∙ is_new.2;
      }

  abbrev now : Book
  now = book_at own s.register

  abbrev first : Course
  first = record (beginning c p.line_is.dte p.line_is.dce p.line_is.params.channels) { book = now }

  led : CourseOf Dte c [] first
  led = by p.line_is.params.standing refl
    where
      start : CourseOf Dte c [] (beginning c p.line_is.dte p.line_is.dce p.line_is.params.channels)
      start = starts p.line_is.dte p.line_is.dce p.line_is.params.channels line_is.apart is_config

      same_standing : p.line_is.params.standing ≡ c.line.standing
      same_standing = ap (λ (x : EndParams). x.standing) p.params

      by : (v : Bool) → p.line_is.params.standing ≡ v → CourseOf Dte c [] first
      by true standing =
          let one = only_one plan.lines own p.line_is p.line_there (stands own p.line_is p.line_there standing) in
          let plan_is : map line_plan plan.lines ≡ record { dte_node = p.line_is.dte; dce_node = p.line_is.dce; address = []; channels = p.line_is.params.channels; standing = true } ∷ [] =
          ap (λ (ls : List NewLine). map line_plan ls) one.1
          ∙ ap (λ (a : List ℕ). record { dte_node = p.line_is.dte; dce_node = p.line_is.dce; address = a; channels = p.line_is.params.channels; standing = p.line_is.params.standing } ∷ []) (bare standing)
          ∙ ap (λ (v : Bool). record { dte_node = p.line_is.dte; dce_node = p.line_is.dce; address = []; channels = p.line_is.params.channels; standing = v } ∷ []) standing in
          let book : now ≡ made_book p.line_is.dte p.line_is.dce p.line_is.params.channels true =
          ap (λ (k : ℕ). book_at k s.register) one.0
          ∙ ap (λ (g : Register). book_at 0 g)
          (m.register ∙ ap made_register plan_is ∙ sym (stands_alone p.line_is.dte p.line_is.dce p.line_is.params.channels line_is.params.layer.channels_least)) in
          subst (λ (b : Book). CourseOf Dte c [] (record (beginning c p.line_is.dte p.line_is.dce p.line_is.params.channels) { book = b }))
          (ap (λ (v : Bool). made_book p.line_is.dte p.line_is.dce p.line_is.params.channels v) (sym same_standing ∙ standing) ∙ sym book) start
      by false standing =
          let free : (k : ℕ) (l : NewLine) → slice_get plan.lines k ≡ Some l → l.params.standing ≡ false = λ k l at. none_stands k l at l.params.standing refl in
          let book : now ≡ free_book p.line_is = ap (λ (g : Register). book_at own g) m.register ∙ free_at plan.lines own p.line_is p.line_there free in
          elsewhere start now
          (subst (λ (b : Book). IsElsewhere Dte (made_book p.line_is.dte p.line_is.dce p.line_is.params.channels c.line.standing) b) (sym book)
          (subst (λ (v : Bool). IsElsewhere Dte (made_book p.line_is.dte p.line_is.dce p.line_is.params.channels v) (free_book p.line_is)) (sym standing ∙ same_standing) (made_free p.line_is)))
        where
          -- if one stood, its line would be the only one, and that of the PAD
          none_stands : (k : ℕ) (l : NewLine) → slice_get plan.lines k ≡ Some l → (v : Bool) → l.params.standing ≡ v → l.params.standing ≡ false
          none_stands k l at false e = e
          none_stands k l at true e =
              let one = stands k l at e in
              let here = only_one plan.lines own p.line_is p.line_there one in
              let there = only_one plan.lines k l at one in
              let same : l ≡ p.line_is = same_Some l p.line_is (sym at ∙ ap (λ (j : ℕ). slice_get plan.lines j) (there.0 ∙ sym here.0) ∙ p.line_there) in
              ap (λ (x : NewLine). x.params.standing) same ∙ standing

  new_is : new_end Dte user.as_dte p.line_is.params ≡ Pad (made c)
  new_is = ap (λ (x : EndParams). new_end Dte user.as_dte x) p.params

  port_count : length (made c).ports ≡ c.terminals
  port_count = (let rest = length-replicate (c.terminals - 1) (new_port c.params None) in let least = is_config.least in omega arith)

  pub has_course : HasCourse c own place [] s
  has_course =
      let line = m.lines own p.line_is p.line_there in
      record {
        node = placed_new user p.line_is.params;
        node_there = m.nodes place (PlannedUser user) p.there p.line_is p.line_there;
        node_line = refl;
        pad = pad.with_end (sent_out (made c).line.end) (made c);
        is_pad = ap (λ (n : NodeState). node.drained n) new_is;
        has_terminals = port_count;
        line_is = record { dte = p.line_is.dte; dce = p.line_is.dce; channels = p.line_is.params.channels; flights = line.flights };
        line_there = line.there;
        is_dte = at_dte;
        course = first;
        led = led;
        same = refl;
        book = refl;
      }

pub made_course : (L : LineService) → MadeCourse L
made_course L plan s c own place is stands m p = has_course L plan s c own place is stands m p
