-- What holds of a network of switches holds at the making.
use Rattle.std.proofs.Common.{◌≡◌, ℕ, ◌+◌, ◌<◌, ◌≤◌, Bool, true, false, List, [], length, map, Option, Some, None, refl, sym, ap, ◌∙◌, subst, arith, true≢false}
use Rattle.std.specs.Prelude.{slice_get, option_and_then}
use Rattle.std.proofs.lemmas.Option.{same_Some, none-some, slice_get_within, slice_get_past}
use Rattle.std.proofs.lemmas.List.{length-map}
use Rattle.link_timers.specs.declared.role.Role.{Role}
use Rattle.link_timers.specs.declared.role.Role.TheVariants.{Dte, Dce}
use Rattle.packet_end.specs.PacketEnd.{PacketEnd}
use Rattle.packet_end.specs.PacketEnd as end
use Rattle.data_transfer.specs.Flow.{modulo_8}
use Rattle.packet_end.specs.declared.params.EndParams.{EndParams}
use Rattle.address_routes.specs.Routes.{line_for}
use Rattle.call_records.specs.Book.{Book, side_of, made_book, address_of}
use Rattle.call_records.specs.Register.{Register, LinePlan, planned_book, empty_register, book_at}
use Rattle.record_laws.proofs.Books.Basics.{get_there}
use Rattle.node_laws.specs.Lines.NodeLine.{Line, made as made_ends}
use Rattle.node_laws.specs.LineRecords.Kept.{Setting, Kept, end_at}
use Rattle.node_laws.specs.LineRecords.Happens.{sent}
use Rattle.user_nodes.specs.Node.{NodeState}
use Rattle.frame_lines.specs.Lines.{Flights, LineService}
use Rattle.switched_call_laws.specs.SwitchPaths.Sight.{Switched, Switches, OwnLines, Lines, Standing, network_line}
use Rattle.switched_call_laws.specs.SwitchPaths.Network.{IsAtSwitch, IsNetwork}
use Rattle.switched_call_laws.specs.SwitchPaths.SwitchPathLaws.{IsMadeAt, IsMade as ArePathsMade}
use Rattle.switched_call_laws.proofs.SwitchPaths.Begins.{network_holds}
use Rattle.record_laws.specs.CallPaths.World.{made_world}
use Rattle.record_laws.specs.CallPaths.Lines.{free_book}
use Rattle.net_events.specs.Network.{PlacedSwitch, NetNode, Switching, NetLine, Network, place_at}
use Rattle.net_events.proofs.Users.{not_both, same_switch}
use Rattle.net_config.specs.NetPlan.{NewSwitch, Planned, PlannedUser, PlannedSwitch, NewLine, NetPlan, IsEndPlan, IsKindOfLine, IsLinePlan, HasEndAt, IsPlan, switch_places}
use Rattle.net_events.specs.Opening.{AreSent, IsMade, role_on_line, line_plan, placed_new, placed_switch, new_at, new_dte, new_dce}
use Rattle.network_laws.specs.IsLine.{IsLine, line_of}
use Rattle.network_laws.specs.LineLaw as one_line
use Rattle.network_laws.proofs.Channels.{channels_made}
use Rattle.network_laws.proofs.Fitting.{end-drained}
use Rattle.network_laws.proofs.Made.{made-end, setting-of, kept_made, made_lines}
use Rattle.network_laws.proofs.Mapped.{mapped, unmapped}
use Rattle.network_laws.specs.Switched.Plans.{IsPlanOf, has_users, goes_on_at}
use Rattle.network_laws.specs.Switched.IsSwitched.{ends_state, line_between, LineStands, IsHeld, IsSwitched}
use Rattle.network_laws.specs.Switched.Laws.{MadeLaw}
use Rattle.network_laws.proofs.Switched.Addressed.{made_addressed}
use Rattle.network_laws.proofs.Switched.NodesAtEnds.{AreApart, same_at, are_apart}
use Rattle.network_laws.proofs.Switched.MadePlan.{end_place, is_user, end_is_user, line_there, switch_there, goes_on, digits_of, plan_of, are_addressed, is_tree, dce_role, dte_role, are_between}
use Rattle.network_laws.proofs.Switched.MadeStanding.{MayStand, Stood, all_stand, made_stood}
use Rattle.network_laws.proofs.Switched.MadeStands.{net_line, line_planned, as_dte, at_dte, at_dce, is_new_dte, stands_made, nodes_made}
use Rattle.network_laws.proofs.Switched.MadeSwitches.{standing_made, WentOut, role_there, plans_of, made_histories, made_at}
use Rattle.network_laws.proofs.Switched.OwnLines.{line_named}

-- ---- each line, with its two ends and the frames in flight

abbrev some_params : EndParams
some_params = record { k = 1; n2 = 1; channels = 1; flow = modulo_8 1; standing = false }

abbrev between : Setting → Option NetLine → Standing
between setting None = record { setting = setting; line = made_ends some_params some_params }
between setting (Some l) = record {
  setting = setting;
  line = record { dte = sent (end.made Dte setting.dte); dce = sent (end.made Dce setting.dce); up = l.flights.from_dte; down = l.flights.from_dce };
}

abbrev standing_at : Option NewLine → Option NetLine → Standing
standing_at None l = between (setting-of 0 0 some_params) l
standing_at (Some v) l = between (setting-of v.dte v.dce v.params) l

-- as the lines are made, and when the first frames went
abbrev first_standing : Option NewLine → Standing
first_standing None = standing_at None None
first_standing (Some v) = standing_made v

abbrev lines_first : NetPlan → Lines
lines_first plan = λ line. first_standing (slice_get plan.lines line)

abbrev lines_made : NetPlan → Network → Lines
lines_made plan s = λ line. standing_at (slice_get plan.lines line) (slice_get s.lines line)

-- ---- the first frames of a line

module _ (L : LineService) (plan : NetPlan) (s : Network) (is : IsPlan plan) (m : IsMade L plan s) where
  abbrev flights_of : (line : ℕ) (v : NewLine) → slice_get plan.lines line ≡ Some v → Flights
  flights_of line v at = (m.lines line v at).flights

  -- whatever the nodes are
  are_sent : L.faithful → (line : ℕ) (v : NewLine) (at : slice_get plan.lines line ≡ Some v)
      → AreSent L (new_dte (as_dte (is.lines line v at).dte) v.params) (new_dce v.params) (flights_of line v at)
  are_sent f line v at =
      let p : IsLinePlan plan.nodes line v = is.lines line v at in
      subst (λ (x : NodeState). AreSent L (new_dte (as_dte p.dte) v.params) x (flights_of line v at)) (at_dce p.dce v.params)
      (subst (λ (x : NodeState). AreSent L x (new_at p.dce Dce v.params) (flights_of line v at)) (at_dte p.dte v.params)
      ((m.lines line v at).sent f p.dte p.dce p.dte_there p.dce_there))

  line_holds : (line : ℕ) (v : NewLine) (at : slice_get plan.lines line ≡ Some v)
      → IsLine L (one_line.made_line v.dte v.dce (as_dte (is.lines line v at).dte) v.params (flights_of line v at))
  line_holds line v at =
      let p : IsLinePlan plan.nodes line v = is.lines line v at in
      made_lines L v.dte v.dce (as_dte p.dte) v.params (flights_of line v at) p.apart p.params (is_new_dte v p.dte p.dce p.kind) (λ f. are_sent f line v at)

  lines_are_made : (line : ℕ) (v : NewLine) (at : slice_get plan.lines line ≡ Some v) → lines_made plan s line ≡ standing_at (Some v) (Some (net_line v (flights_of line v at)))
  lines_are_made line v at =
      ap (λ (o : Option NewLine). standing_at o (slice_get s.lines line)) at ∙ ap (λ (o : Option NetLine). standing_at (Some v) o) (m.lines line v at).there

  ghost_line : (line : ℕ) (v : NewLine) (at : slice_get plan.lines line ≡ Some v)
      → line_of (one_line.made_line v.dte v.dce (as_dte (is.lines line v at).dte) v.params (flights_of line v at)) ≡ (standing_at (Some v) (Some (net_line v (flights_of line v at)))).line
  ghost_line line v at =
      let d = as_dte (is.lines line v at).dte in
      let flights : Flights = flights_of line v at in
      ap (λ (e : PacketEnd). record { dte = e; dce = sent (end.made Dce v.params); up = flights.from_dte; down = flights.from_dce })
      (end-drained (new_dte d v.params) ∙ ap (λ (e : PacketEnd). sent e) (made-end d v.params))

  ends_sent : (v : NewLine) (l : NetLine) (role : Role) → end_at role (standing_at (Some v) (Some l)).line ≡ sent (end.made role v.params)
  ends_sent v l Dte = refl
  ends_sent v l Dce = refl

  went : L.faithful → (line : ℕ) (v : NewLine) → slice_get plan.lines line ≡ Some v → WentOut v (lines_made plan s line)
  went f line v at =
      let p : IsLinePlan plan.nodes line v = is.lines line v at in
      let x : Standing = standing_at (Some v) (Some (net_line v (flights_of line v at))) in
      subst (WentOut v) (sym (lines_are_made line v at)) (record {
        ends = ends_sent v (net_line v (flights_of line v at));
        kept = λ free.
            subst (λ (b : Book). Kept x.setting b x.line) (ap (λ (b : Bool). made_book v.dte v.dce v.params.channels b) free)
            (subst (λ (y : Line). Kept x.setting (made_book v.dte v.dce v.params.channels v.params.standing) y) (ghost_line line v at)
            (kept_made L v.dte v.dce (as_dte p.dte) v.params (flights_of line v at) p.params (are_sent f line v at)));
      })

-- ---- the switches by place

abbrev switched_at : NetPlan → Lines → (place : ℕ) → Option Planned → Option Switched
switched_at plan lines place None = None
switched_at plan lines place (Some (PlannedUser n)) = None
switched_at plan lines place (Some (PlannedSwitch n)) =
    Some (record { switch = (placed_switch place n plan.lines).switch; histories = made_histories plan place n lines })

abbrev switches_made : NetPlan → Lines → Switches
switches_made plan lines = λ place. switched_at plan lines place (slice_get plan.nodes place)

abbrev lines_at : Option Planned → List ℕ
lines_at None = []
lines_at (Some (PlannedUser n)) = []
lines_at (Some (PlannedSwitch n)) = n.lines

abbrev own_lines_made : NetPlan → OwnLines
own_lines_made plan = λ place. lines_at (slice_get plan.nodes place)

-- ---- the laws of paths

module _ (L : LineService) (plan : NetPlan) (s : Network) (is : IsPlan plan) (m : IsMade L plan s) where
  abbrev lines : Lines
  lines = lines_made plan s

  abbrev xs : Switches
  xs = switches_made plan lines

  abbrev ats : OwnLines
  ats = own_lines_made plan

  abbrev free : List Book
  free = map free_book (plans_of plan)

  first_lines : (line : ℕ) (v : NewLine) → slice_get plan.lines line ≡ Some v → lines_first plan line ≡ standing_made v
  first_lines line v at = ap (λ (o : Option NewLine). first_standing o) at

  each_made : L.faithful → (place : ℕ) (x : Switched) (o : Option Planned) → slice_get plan.nodes place ≡ o → switched_at plan lines place o ≡ Some x
      → IsMadeAt (plan_of plan) place (ats place) x lines free
  each_made f place x None there e = absurd (none-some x e)
  each_made f place x (Some (PlannedUser n)) there e = absurd (none-some x e)
  each_made f place x (Some (PlannedSwitch n)) there e =
      let made : Switched = record { switch = (placed_switch place n plan.lines).switch; histories = made_histories plan place n lines } in
      subst (λ (own : List ℕ). IsMadeAt (plan_of plan) place own x lines free) (sym (ap (λ (o : Option Planned). lines_at o) there))
      (subst (λ (y : Switched). IsMadeAt (plan_of plan) place n.lines y lines free) (same_Some made x e)
      (made_at plan is place n there lines (went L plan s is m f) (lines_first plan) first_lines))

  at_switch : (line : ℕ) (v : NewLine) → slice_get plan.lines line ≡ Some v → (role : Role) (place : ℕ) (n : NewSwitch) → role_on_line place v ≡ role → slice_get plan.nodes place ≡ Some (PlannedSwitch n)
      → IsEndPlan line role (PlannedSwitch n) → IsAtSwitch ats xs place line role
  at_switch line v at role place n on there stands =
      let own : ℕ = stands.0 in
      let named = line_named n.lines own line stands.1 in
      let here : lines_at (slice_get plan.nodes place) ≡ n.lines = ap (λ (o : Option Planned). lines_at o) there in
      record {
        it = record { switch = (placed_switch place n plan.lines).switch; histories = made_histories plan place n lines };
        there = ap (λ (o : Option Planned). switched_at plan lines place o) there;
        own = own;
        within = subst (λ (ks : List ℕ). own < length ks) (sym here) (slice_get_within n.lines own line stands.1);
        line_is = ap (λ (ks : List ℕ). network_line ks own) here ∙ named;
        role_is = ap (λ (o : Option NewLine). role_there place o) (ap (λ (k : ℕ). slice_get plan.lines k) named ∙ at) ∙ on;
      }

  ends_by : (line : ℕ) (v : NewLine) → slice_get plan.lines line ≡ Some v → (role : Role) → end_is_user plan.nodes (Some v) role ≡ false → IsAtSwitch ats xs (end_place (length plan.nodes) (Some v) role) line role
  ends_by line v at Dte off =
      let p : IsLinePlan plan.nodes line v = is.lines line v at in
      let n = switch_there plan.nodes v.dte off in
      at_switch line v at Dte v.dte n.0 (dte_role v.dte v p.apart refl) n.1
      (subst (λ (d : Planned). IsEndPlan line Dte d) (same_Some p.dte (PlannedSwitch n.0) (sym p.dte_there ∙ n.1)) p.dte_stands)
  ends_by line v at Dce off =
      let p : IsLinePlan plan.nodes line v = is.lines line v at in
      let n = switch_there plan.nodes v.dce off in
      at_switch line v at Dce v.dce n.0 (dce_role v.dce v refl) n.1
      (subst (λ (d : Planned). IsEndPlan line Dce d) (same_Some p.dce (PlannedSwitch n.0) (sym p.dce_there ∙ n.1)) p.dce_stands)

  paths_made : L.faithful → ArePathsMade (plan_of plan) ats xs lines (plans_of plan)
  paths_made f = record {
    alike = are_addressed plan is;
    switches = switch_places 0 plan.nodes;
    tree = is_tree plan is;
    between = are_between plan 0 plan.lines (λ j l there. let same : 0 + j ≡ j = omega arith in ap (λ k. slice_get plan.lines k) same ∙ there);
    each = λ place x e. each_made f place x (slice_get plan.nodes place) refl e;
    ends = λ line role less e.
        let v = line_there plan line role e in
        subst (λ (o : Option NewLine). IsAtSwitch ats xs (end_place (length plan.nodes) o role) line role) (sym v.1)
        (ends_by line v.0 v.1 role (sym (ap (λ (o : Option NewLine). end_is_user plan.nodes o role) v.1) ∙ e));
  }

  -- ---- free lines, and calls that stand on those between users

  both_users : (line : ℕ) (v : NewLine) (at : slice_get plan.lines line ≡ Some v) → v.params.standing ≡ true → (role : Role) → end_is_user plan.nodes (Some v) role ≡ true
  both_users line v at standing role = let p : IsLinePlan plan.nodes line v = is.lines line v at in by p.dte p.dce p.dte_there p.dce_there p.kind role
    where
      by : (dte dce : Planned) → slice_get plan.nodes v.dte ≡ Some dte → slice_get plan.nodes v.dce ≡ Some dce → IsKindOfLine v dte dce → (end : Role) → end_is_user plan.nodes (Some v) end ≡ true
      by (PlannedUser dte) (PlannedUser dce) at_dte at_dce kind Dte = ap is_user at_dte
      by (PlannedUser dte) (PlannedUser dce) at_dte at_dce kind Dce = ap is_user at_dce
      by (PlannedUser dte) (PlannedSwitch dce) at_dte at_dce kind end = absurd (true≢false (sym standing ∙ kind.2))
      by (PlannedSwitch dte) (PlannedSwitch dce) at_dte at_dce kind end = absurd (true≢false (sym standing ∙ kind.2))
      by (PlannedSwitch dte) (PlannedUser dce) at_dte at_dce kind end = absurd kind

  may_stand : MayStand (plan_of plan) 0 (plans_of plan) free
  may_stand = record {
    free = λ j p there. let same : 0 + j ≡ j = omega arith in ap (λ k. slice_get free k) same ∙ mapped free_book (plans_of plan) j p there;
    users = λ j p there standing role.
        let same : 0 + j ≡ j = omega arith in
        let u = unmapped line_plan plan.lines j p there in
        ap (λ k. end_is_user plan.nodes (slice_get plan.lines k) role) same ∙ ap (λ (o : Option NewLine). end_is_user plan.nodes o role) u.1
        ∙ both_users j u.0 u.1 (ap (λ (q : LinePlan). q.standing) (sym u.2) ∙ standing) role;
    channels = λ j p there.
        let u = unmapped line_plan plan.lines j p there in
        let least : 1 ≤ u.0.params.channels = (is.lines j u.0 u.1).params.layer.channels_least in
        subst (λ (q : LinePlan). 1 ≤ q.channels) (sym u.2) least;
  }

  begun : L.faithful → IsNetwork (plan_of plan) ats xs [] lines free (made_world (plans_of plan)) (map (λ line. []) (plans_of plan))
  begun f = network_holds.begins (plan_of plan) ats xs lines (plans_of plan) (paths_made f)

  stood : L.faithful → Stood (plan_of plan) ats xs [] lines 0 (plans_of plan) free (made_world (plans_of plan)).register
  stood f = all_stand (plan_of plan) ats xs [] lines free (made_world (plans_of plan)) (map (λ line. []) (plans_of plan)) 0 (plans_of plan) may_stand (begun f)

  -- ---- the plan

  -- a switch is one of the plan
  record SwitchMade (place : ℕ) (n : PlacedSwitch) : Type 0 where
    planned : NewSwitch
    there : slice_get plan.nodes place ≡ Some (PlannedSwitch planned)
    so : n ≡ placed_switch place planned plan.lines

  switch_made : (place : ℕ) (n : PlacedSwitch) → slice_get s.nodes place ≡ Some (Switching n) → SwitchMade place n
  switch_made place n at =
      let p = get_there plan.nodes place (let within = slice_get_within s.nodes place (Switching n) at in let many = m.node_count in omega arith) in by p.0 p.1
    where
      by : (p : Planned) → slice_get plan.nodes place ≡ Some p → SwitchMade place n
      by (PlannedUser u) got =
          let w : HasEndAt plan.lines place u.line = is.nodes place (PlannedUser u) got in
          absurd (not_both (placed_new u w.line_is.params) n (sym (m.nodes place (PlannedUser u) got w.line_is w.there) ∙ at))
      by (PlannedSwitch u) got = record { planned = u; there = got; so = same_switch n (placed_switch place u plan.lines) (sym at ∙ m.nodes place (PlannedSwitch u) got) }

  user_made : (line : ℕ) (v : NewLine) → slice_get plan.lines line ≡ Some v → (role : Role) (place : ℕ) (d : Planned) → slice_get plan.nodes place ≡ Some d → IsEndPlan line role d → (x : NetNode) → slice_get s.nodes place ≡ Some x
      → is_user (slice_get plan.nodes place) ≡ has_users x
  user_made line v there role place (PlannedUser d) got stands x at_x =
      ap is_user got ∙ ap has_users (same_Some _ x (sym (m.nodes place (PlannedUser d) got v (ap (λ k. slice_get plan.lines k) stands.0 ∙ there)) ∙ at_x))
  user_made line v there role place (PlannedSwitch d) got stands x at_x = ap is_user got ∙ ap has_users (same_Some _ x (sym (m.nodes place (PlannedSwitch d) got) ∙ at_x))

  user_is : (role : Role) (line : ℕ) (v : NewLine) → slice_get plan.lines line ≡ Some v → (flights : Flights) (x : NetNode) → slice_get s.nodes (place_at role (net_line v flights)) ≡ Some x
      → end_is_user plan.nodes (Some v) role ≡ has_users x
  user_is Dte line v at flights x at_x = let p : IsLinePlan plan.nodes line v = is.lines line v at in user_made line v at Dte v.dte p.dte p.dte_there p.dte_stands x at_x
  user_is Dce line v at flights x at_x = let p : IsLinePlan plan.nodes line v = is.lines line v at in user_made line v at Dce v.dce p.dce p.dce_there p.dce_stands x at_x

  place_is : (role : Role) (v : NewLine) (flights : Flights) → end_place (length plan.nodes) (Some v) role ≡ place_at role (net_line v flights)
  place_is Dte v flights = refl
  place_is Dce v flights = refl

  plan_made : ((k : ℕ) (l : NetLine) → slice_get s.lines k ≡ Some l → (plan_of plan).address k ≡ (book_at k s.register).dte.address) → IsPlanOf s (plan_of plan)
  plan_made address = record {
    node = λ line l role there.
        let v = line_planned L plan s m line l there in
        ap (λ (o : Option NewLine). end_place (length plan.nodes) o role) v.1 ∙ place_is role v.0 (m.lines line v.0 v.1).flights
        ∙ ap (λ (x : NetLine). place_at role x) (sym v.2);
    nowhere = λ line role more.
        let beyond : slice_get plan.lines line ≡ None = slice_get_past plan.lines line (let same = m.line_count in omega arith) in
        let place : (plan_of plan).node line role ≡ length plan.nodes = ap (λ (o : Option NewLine). end_place (length plan.nodes) o role) beyond in
        let same = m.node_count in omega arith;
    user = λ line l role x there at_x.
        let v = line_planned L plan s m line l there in
        ap (λ (o : Option NewLine). end_is_user plan.nodes o role) v.1
        ∙ user_is role line v.0 v.1 (m.lines line v.0 v.1).flights x (ap (λ (y : NetLine). slice_get s.nodes (place_at role y)) (sym v.2) ∙ at_x);
    address = address;
    route = λ place n called there.
        let w = switch_made place n there in
        ap (λ (o : Option Planned). goes_on o (address_of called)) w.there
        ∙ ap (λ (ks : List ℕ). option_and_then (λ (k : ℕ). slice_get w.planned.lines k) (line_for w.planned.routes ks)) (digits_of called)
        ∙ ap (λ (y : PlacedSwitch). goes_on_at y called) (sym w.so);
  }

  -- ---- on faithful lines

  same_at_line : (line : ℕ) (l x : NetLine) → l ≡ x → AreApart s.nodes → (g : LineStands s.nodes line l) (h : LineStands s.nodes line x) → g.at ≡ h.at
  same_at_line line l x e apart g h = subst (λ (y : NetLine). (k : LineStands s.nodes line y) → g.at ≡ k.at) e (λ k. same_at s.nodes line l apart g k) h

  held : L.faithful → AreApart s.nodes → IsHeld L s
  held f apart =
      let a = stood f in
      let count : length a.books ≡ length s.lines = a.count ∙ length-map (plans_of plan) free_book ∙ length-map plan.lines line_plan ∙ sym m.line_count in
      let register : a.world.register ≡ s.register = a.register ∙ sym (made_stood (plans_of plan) empty_register) ∙ sym m.register in
      record {
        books = a.books;
        count = count;
        ends = λ line l book at_l at_b g.
            let v = line_planned L plan s m line l at_l in
            let there : LineStands s.nodes line (net_line v.0 (m.lines line v.0 v.1).flights) = stands_made L plan s is m line v.0 v.1 (m.lines line v.0 v.1).flights in
            let at_is : g.at ≡ there.at = same_at_line line l (net_line v.0 (m.lines line v.0 v.1).flights) v.2 apart g there in
            let is_book : book ≡ planned_book (line_plan v.0) = book_is a.books a.here line book v.0 v.1 at_b in
            subst (IsLine L) (sym (λ k. ends_state (v.2 k) (at_is k) (is_book k))) (line_holds L plan s is m line v.0 v.1);
        channels = λ line l book role at_l at_b.
            let v = line_planned L plan s m line l at_l in
            ap (λ (y : Book). length (side_of role y).slots) (book_is a.books a.here line book v.0 v.1 at_b) ∙ channels_made v.0.dte v.0.dce v.0.params.channels v.0.params.standing role
            ∙ ap (λ (y : NetLine). y.channels) (sym v.2);
        lines = a.lines;
        lines_are = λ line l at_l g.
            let v = line_planned L plan s m line l at_l in
            let there : LineStands s.nodes line (net_line v.0 (m.lines line v.0 v.1).flights) = stands_made L plan s is m line v.0 v.1 (m.lines line v.0 v.1).flights in
            let at_is : g.at ≡ there.at = same_at_line line l (net_line v.0 (m.lines line v.0 v.1).flights) v.2 apart g there in
            ap (λ (x : Standing). x.line) (a.same_lines line ∙ lines_are_made L plan s is m line v.0 v.1) ∙ sym (ghost_line L plan s is m line v.0 v.1)
            ∙ sym (λ k. line_between (v.2 k) (at_is k));
        plan = plan_of plan;
        plan_is = plan_made (λ k l there.
            sym (a.network.seen.seen.sides k Dte (let within = slice_get_within s.lines k l there in let many = count in let lines = a.network.seen.lines.seen.lines in omega arith)).seen_address
            ∙ ap (λ (x : Register). (book_at k x).dte.address) register);
        own_lines = ats;
        switches = a.switches;
        switches_are = λ place n there.
            let w = switch_made place n there in
            let x : Switched = record { switch = (placed_switch place w.planned plan.lines).switch; histories = made_histories plan place w.planned lines } in
            let same = a.same_switches place x (ap (λ (o : Option Planned). switched_at plan lines place o) w.there) in
            record {
              histories = same.histories;
              is = same.is ∙ ap (λ (y : PlacedSwitch). Some (record { switch = y.switch; histories = same.histories })) (sym w.so);
              lines = ap (λ (o : Option Planned). lines_at o) w.there ∙ ap (λ (y : PlacedSwitch). y.lines) (sym w.so);
            };
        calls = [];
        world = a.world;
        traces = a.traces;
        network = a.network;
        register = register;
      }
    where
      book_is : (books : List Book) → ((j : ℕ) (p : LinePlan) → slice_get (plans_of plan) j ≡ Some p → slice_get books (0 + j) ≡ Some (planned_book p))
          → (line : ℕ) (book : Book) (v : NewLine) → slice_get plan.lines line ≡ Some v → slice_get books line ≡ Some book → book ≡ planned_book (line_plan v)
      book_is books here line book v at at_b =
          let same : 0 + line ≡ line = omega arith in
          same_Some book (planned_book (line_plan v)) (sym at_b ∙ ap (λ k. slice_get books k) (sym same) ∙ here line (line_plan v) (mapped line_plan plan.lines line v at))

  -- ---- on any lines

  made_switched : IsSwitched L s
  made_switched = record {
    lines = λ line l there.
        let v = line_planned L plan s m line l there in
        subst (λ (x : NetLine). LineStands s.nodes line x) (sym v.2) (stands_made L plan s is m line v.0 v.1 (m.lines line v.0 v.1).flights);
    nodes = nodes_made L plan s is m;
    holds = λ f. held f (are_apart s.lines s.nodes (nodes_made L plan s is m));
  }

pub made_any : (L : LineService) → MadeLaw L
made_any L plan s is m = record { network = made_switched L plan s is m; addressed = made_addressed L plan s m }
