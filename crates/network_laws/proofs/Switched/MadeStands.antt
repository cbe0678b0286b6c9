-- Which node stands where in a network of switches as it is made.
use Rattle.std.proofs.Common.{◌≡◌, ℕ, length, map, Some, refl, sym, ap, ◌∙◌, subst, arith}
use Rattle.std.specs.Prelude.{slice_get, unwrap_or, Option}
use Rattle.std.proofs.lemmas.Option.{same_Some, slice_get_within}
use Rattle.std.proofs.lemmas.List.{length-map}
use Rattle.link_timers.specs.declared.role.Role.{Role}
use Rattle.link_timers.specs.declared.role.Role.TheVariants.{Dte, Dce}
use Rattle.packet_end.specs.PacketEnd.{PacketEnd}
use Rattle.packet_end.specs.PacketEnd as end
use Rattle.packet_end.specs.declared.params.EndParams.{EndParams}
use Rattle.record_laws.proofs.Books.Basics.{get_there}
use Rattle.node_laws.specs.LineRecords.Happens.{sent}
use Rattle.node_laws.proofs.QuietTurns as quiet_law
use Rattle.node_laws.specs.Quiet.{IsQuiet}
use Rattle.user_nodes.specs.Node.{NodeState, Host, drained}
use Rattle.frame_lines.specs.Lines.{Flights, LineService}
use Rattle.switch_lines.specs.Making.{made_line}
use Rattle.switch_lines.specs.Lines.{SwitchLine, role_on}
use Rattle.net_events.specs.AtSwitch.{line_drained}
use Rattle.net_events.specs.Network.{NetNode, User, Switching, NetLine, Network, Stands, place_at, own_role}
use Rattle.net_config.specs.NetPlan.{NewDte, NewHost, NewSwitch, Planned, PlannedUser, PlannedSwitch, NewLine, NetPlan, IsNewDte, IsEndPlan, IsKindOfLine, IsLinePlan, IsSwitchPlan, HasEndAt, IsPlan}
use Rattle.net_events.specs.Opening.{new_dte, new_dce, new_end, new_at, role_on_line, line_config, own_configs, placed_new, placed_switch, IsMade}
use Rattle.net_events.proofs.Users.{not_both}
use Rattle.network_laws.proofs.Made.{made-quiet}
use Rattle.network_laws.proofs.Mapped.{mapped}
use Rattle.network_laws.specs.Switched.IsSwitched.{EndStands, IsUserThere, LineStands}
use Rattle.network_laws.proofs.Switched.MadePlan.{end_place, dce_role, dte_role, OwnLine, Configs, configs}

-- a line as it is made
abbrev pub net_line : NewLine → Flights → NetLine
net_line l flights = record { dte = l.dte; dce = l.dce; channels = l.params.channels; flights = flights }

pub line_planned : (L : LineService) (plan : NetPlan) (s : Network) (m : IsMade L plan s) (line : ℕ) (l : NetLine) → slice_get s.lines line ≡ Some l
    → (v : NewLine) × (at : slice_get plan.lines line ≡ Some v) × (l ≡ net_line v (m.lines line v at).flights)
line_planned L plan s m line l at =
    let v = get_there plan.lines line (let within = slice_get_within s.lines line l at in let many = m.line_count in omega arith) in
    (v.0, v.1, same_Some l (net_line v.0 (m.lines line v.0 v.1).flights) (sym at ∙ (m.lines line v.0 v.1).there))

-- ---- the two ends of a line

-- what a node is made as at the end of the DTE; a switch has there what a host has
abbrev pub as_dte : Planned → NewDte
as_dte (PlannedUser n) = n.as_dte
as_dte (PlannedSwitch n) = NewHost

pub at_dte : (d : Planned) (params : EndParams) → new_at d Dte params ≡ new_dte (as_dte d) params
at_dte (PlannedUser n) params = refl
at_dte (PlannedSwitch n) params = refl

pub at_dce : (d : Planned) (params : EndParams) → new_at d Dce params ≡ new_dce params
at_dce (PlannedUser n) params = refl
at_dce (PlannedSwitch n) params = refl

pub is_new_dte : (l : NewLine) (dte dce : Planned) → IsKindOfLine l dte dce → IsNewDte (as_dte dte) l.params
is_new_dte l (PlannedUser dte) (PlannedUser dce) kind = kind.0
is_new_dte l (PlannedUser dte) (PlannedSwitch dce) kind = kind.0
is_new_dte l (PlannedSwitch dte) dce kind = tt

end_made : (L : LineService) (plan : NetPlan) (s : Network) (is : IsPlan plan) (m : IsMade L plan s) (line : ℕ) (l : NewLine) → slice_get plan.lines line ≡ Some l
    → (role : Role) (place : ℕ) (d : Planned) → role_on_line place l ≡ role → slice_get plan.nodes place ≡ Some d → IsEndPlan line role d
    → EndStands s.nodes line place (drained (new_at d role l.params))
end_made L plan s is m line l at role place (PlannedUser d) on there stands = record {
  node = User (placed_new d l.params);
  there = m.nodes place (PlannedUser d) there l (ap (λ k. slice_get plan.lines k) stands.0 ∙ at);
  end = (stands.0, ap (λ (r : Role). drained (new_end r d.as_dte l.params)) (sym stands.1));
}
end_made L plan s is m line l at role place (PlannedSwitch d) on there stands =
    let own : ℕ = stands.0 in
    let c : Configs plan place d = configs plan place d is there in
    let e = c.each own line stands.1 in
    let same : e.0.l ≡ l = same_Some e.0.l l (sym e.0.there ∙ at) in
    let got : slice_get (own_configs place d.lines plan.lines) own ≡ Some (line_config place l) = e.1 ∙ ap (λ (x : NewLine). Some (line_config place x)) same in
    record {
      node = Switching (placed_switch place d plan.lines);
      there = m.nodes place (PlannedSwitch d) there;
      end = (
        own,
        line_drained (made_line (line_config place l)),
        stands.1,
        mapped line_drained (map made_line (own_configs place d.lines plan.lines)) own (made_line (line_config place l))
            (mapped made_line (own_configs place d.lines plan.lines) own (line_config place l) got),
        ap (λ (r : Role). Host (sent (end.made r l.params))) (sym on),
      );
    }

-- what is at both ends
abbrev pub ends_made : NewLine → (dte : Planned) → Role → NodeState
ends_made l dte Dte = drained (new_dte (as_dte dte) l.params)
ends_made l dte Dce = drained (new_dce l.params)

pub ends_stand : (L : LineService) (plan : NetPlan) (s : Network) (is : IsPlan plan) (m : IsMade L plan s) (line : ℕ) (l : NewLine) (at : slice_get plan.lines line ≡ Some l) (flights : Flights)
    → (role : Role) → EndStands s.nodes line (place_at role (net_line l flights)) (ends_made l (is.lines line l at).dte role)
ends_stand L plan s is m line l at flights Dte =
    let p : IsLinePlan plan.nodes line l = is.lines line l at in
    subst (λ (x : NodeState). EndStands s.nodes line l.dte (drained x)) (at_dte p.dte l.params)
    (end_made L plan s is m line l at Dte l.dte p.dte (dte_role l.dte l p.apart refl) p.dte_there p.dte_stands)
ends_stand L plan s is m line l at flights Dce =
    let p : IsLinePlan plan.nodes line l = is.lines line l at in
    subst (λ (x : NodeState). EndStands s.nodes line l.dce (drained x)) (at_dce p.dce l.params)
    (end_made L plan s is m line l at Dce l.dce p.dce (dce_role l.dce l refl) p.dce_there p.dce_stands)

pub ends_quiet : (l : NewLine) (dte : Planned) (role : Role) → IsQuiet (ends_made l dte role)
ends_quiet l dte Dte = made-quiet (as_dte dte) l.params
ends_quiet l dte Dce = quiet_law.quiet-made-host (record { role = Dce; line = l.params })

-- where the DCE has users, the DTE has
pub users_made : (L : LineService) (plan : NetPlan) (s : Network) (is : IsPlan plan) (m : IsMade L plan s) (line : ℕ) (l : NewLine) → slice_get plan.lines line ≡ Some l
    → IsUserThere s.nodes l.dce → IsUserThere s.nodes l.dte
users_made L plan s is m line l at user = let p : IsLinePlan plan.nodes line l = is.lines line l at in by p.dte p.dce p.dte_there p.dce_there p.dte_stands p.kind
  where
    by : (dte dce : Planned) → slice_get plan.nodes l.dte ≡ Some dte → slice_get plan.nodes l.dce ≡ Some dce → IsEndPlan line Dte dte → IsKindOfLine l dte dce → IsUserThere s.nodes l.dte
    by (PlannedUser dte) dce at_dte at_dce stands kind = (placed_new dte l.params, m.nodes l.dte (PlannedUser dte) at_dte l (ap (λ k. slice_get plan.lines k) stands.0 ∙ at))
    by (PlannedSwitch dte) (PlannedUser dce) at_dte at_dce stands kind = absurd kind
    by (PlannedSwitch dte) (PlannedSwitch dce) at_dte at_dce stands kind =
        absurd (not_both user.0 (placed_switch l.dce dce plan.lines) (sym user.1 ∙ m.nodes l.dce (PlannedSwitch dce) at_dce))

abbrev pub stands_made : (L : LineService) (plan : NetPlan) (s : Network) (is : IsPlan plan) (m : IsMade L plan s) (line : ℕ) (l : NewLine) (at : slice_get plan.lines line ≡ Some l) (flights : Flights)
    → LineStands s.nodes line (net_line l flights)
stands_made L plan s is m line l at flights = record {
  at = λ role. ends_made l (is.lines line l at).dte role;
  there = ends_stand L plan s is m line l at flights;
  quiet = ends_quiet l (is.lines line l at).dte;
  apart = (is.lines line l at).apart;
  host = refl;
  users = users_made L plan s is m line l at;
}

-- ---- the nodes

-- the role of a switch on an own line is that of its end there
pub made_role : (plan : NetPlan) (place : ℕ) (n : NewSwitch) (is : IsPlan plan) (at : slice_get plan.nodes place ≡ Some (PlannedSwitch n)) (own line : ℕ) (own_at : slice_get n.lines own ≡ Some line)
    → own_role (placed_switch place n plan.lines).switch own ≡ role_on_line place ((configs plan place n is at).each own line own_at).0.l
made_role plan place n is at own line own_at =
    let e = (configs plan place n is at).each own line own_at in
    ap (λ (o : Option SwitchLine). unwrap_or (role_on o) Dce)
    (mapped line_drained (map made_line (own_configs place n.lines plan.lines)) own (made_line (line_config place e.0.l))
    (mapped made_line (own_configs place n.lines plan.lines) own (line_config place e.0.l) e.1))

pub nodes_made : (L : LineService) (plan : NetPlan) (s : Network) → IsPlan plan → IsMade L plan s → (place : ℕ) (n : NetNode) → slice_get s.nodes place ≡ Some n → Stands s.lines place n
nodes_made L plan s is m place n at =
    let p = get_there plan.nodes place (let within = slice_get_within s.nodes place n at in let many = m.node_count in omega arith) in by p.0 p.1
  where
    place_is : (role : Role) (l : NewLine) (flights : Flights) → place_at role (net_line l flights) ≡ end_place (length plan.nodes) (Some l) role
    place_is Dte l flights = refl
    place_is Dce l flights = refl

    by : (p : Planned) → slice_get plan.nodes place ≡ Some p → Stands s.lines place n
    by (PlannedUser u) there =
        let w : HasEndAt plan.lines place u.line = is.nodes place (PlannedUser u) there in
        let same : n ≡ User (placed_new u w.line_is.params) = same_Some n (User (placed_new u w.line_is.params)) (sym at ∙ m.nodes place (PlannedUser u) there w.line_is w.there) in
        subst (λ (x : NetNode). Stands s.lines place x) (sym same) (record {
          line = net_line w.line_is (m.lines u.line w.line_is w.there).flights;
          there = (m.lines u.line w.line_is w.there).there;
          at_end = w.at_end;
        })
    by (PlannedSwitch u) there =
        let w : IsSwitchPlan plan.lines place u = is.nodes place (PlannedSwitch u) there in
        let c : Configs plan place u = configs plan place u is there in
        let same : n ≡ Switching (placed_switch place u plan.lines) = same_Some n (Switching (placed_switch place u plan.lines)) (sym at ∙ m.nodes place (PlannedSwitch u) there) in
        subst (λ (x : NetNode). Stands s.lines place x) (sym same) (record {
          count = sym c.count ∙ sym (length-map (own_configs place u.lines plan.lines) made_line)
              ∙ sym (length-map (map made_line (own_configs place u.lines plan.lines)) line_drained);
          apart = w.apart;
          each = λ own line own_at.
              let o : OwnLine plan place line = (c.each own line own_at).0 in
              let flights : Flights = (m.lines line o.l o.there).flights in
              record {
                line_is = net_line o.l flights;
                there = (m.lines line o.l o.there).there;
                at_end = ap (λ (r : Role). place_at r (net_line o.l flights)) (made_role plan place u is there own line own_at)
                    ∙ place_is (role_on_line place o.l) o.l flights ∙ o.at_end;
              };
        })
