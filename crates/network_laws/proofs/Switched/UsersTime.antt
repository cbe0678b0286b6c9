-- What holds of a network of switches holds when ticks pass at all nodes, at each by a number of its own.
use Rattle.std.proofs.Common.{◌≡◌, ◌≢◌, ℕ, zero, suc, ◌<◌, ◌≤◌, List, length, map, Option, Some, None, refl, sym, ap, ap₂, ◌∙◌, subst, arith, inl, inr}
use Rattle.std.specs.Prelude.{[], ◌∷◌, slice_get, option_and_then, unwrap_or}
use Rattle.std.proofs.lemmas.Option.{none-some, same_Some, slice_get_within}
use Rattle.std.proofs.lemmas.List.{length-map}
use Rattle.link_timers.specs.declared.role.Role.{Role}
use Rattle.link_timers.specs.declared.role.Role.TheVariants.{Dte, Dce}
use Rattle.link_timers.specs.Role.{other_of}
use Rattle.address_routes.specs.Routes.{RouteMap, line_for}
use Rattle.packet_end.specs.PacketEnd as end
use Rattle.packet_end.specs.PacketEnd.{PacketEnd}
use Rattle.record_laws.proofs.Books.Basics.{get_there, number_is}
use Rattle.node_laws.specs.Lines.NodeLine.{Line}
use Rattle.node_laws.specs.LineRecords.Kept.{end_at}
use Rattle.node_laws.proofs.QuietTurns as quiet_law
use Rattle.user_nodes.specs.Node.{NodeState, Pad, Host, end_of, is_pad, node_elapsed}
use Rattle.frame_lines.specs.Lines.{LineService}
use Rattle.switch_lines.specs.Lines.{SwitchLine, role_on}
use Rattle.switch_lines.specs.Switch.{elapse, with_end}
use Rattle.switched_call_laws.specs.SwitchRecords.Kept.{Partner}
use Rattle.switched_call_laws.specs.SwitchPaths.Sight.{Switched, Switches, Lines, Standing, network_line, standing_with, all_seen, all_after}
use Rattle.switched_call_laws.specs.SwitchPaths.Network.{IsOther}
use Rattle.switched_call_laws.specs.SwitchPaths.Network as paths
use Rattle.switched_call_laws.specs.SwitchPaths.SwitchPathLaws.{NetworkStays, with_line}
use Rattle.switched_call_laws.proofs.SwitchPaths.Begins.{network_holds}
use Rattle.switched_call_laws.proofs.SwitchPaths.Listing.{if_same, if_else}
use Rattle.switched_call_laws.proofs.SwitchPaths.Elsewhere.{own_end, other_end}
use Rattle.record_laws.specs.CallPaths.World.{Plan}
use Rattle.net_events.specs.Network.{PlacedSwitch, NetNode, User, Switching, NetLine, Network, Stands, place_at, own_role, StandsAtLines, elapsed_node}
use Rattle.net_events.proofs.Users.{not_switch, not_both, same_switch}
use Rattle.network_laws.specs.IsLine.{IsLine, IsKept}
use Rattle.network_laws.proofs.Lines.{elapsed_lines}
use Rattle.network_laws.specs.PlacedTime.{nodes_elapsed, elapsed_by}
use Rattle.network_laws.proofs.PlacedTime.{elapsed_there, was_there, length-nodes_elapsed}
use Rattle.network_laws.proofs.Mapped.{mapped}
use Rattle.network_laws.specs.Switched.Plans.{IsPlanOf, has_users}
use Rattle.network_laws.specs.Switched.IsSwitched.{ends_state, line_between, IsEndOf, EndStands, IsUserThere, LineStands, IsSwitchAt, IsHeld, IsSwitched}
use Rattle.network_laws.proofs.Switched.NodesAtEnds.{AreApart, same_end, same_at, are_apart}
use Rattle.network_laws.proofs.Switched.UsersHeld.{sighted}
use Rattle.network_laws.proofs.Switched.UsersEvents.{book_of}
use Rattle.network_laws.proofs.Switched.OwnLines.{line_named, none_other, own_or_none, same_role, other_role_is, own_of_switch, role_of_own, switch_there, if_here, if_there}

-- ---- the two ends of a line

elapsed_end : (ticks : ℕ) (n : NodeState) → end_of (node_elapsed ticks n) ≡ end.elapsed (end_of n) ticks
elapsed_end ticks (Pad p) = refl
elapsed_end ticks (Host e) = refl

elapsed_kind : (ticks : ℕ) (n : NodeState) → is_pad (node_elapsed ticks n) ≡ is_pad n
elapsed_kind ticks (Pad p) = refl
elapsed_kind ticks (Host e) = refl

pub elapsed_end_stands : (nodes : List NetNode) (line place : ℕ) (x : NodeState) (ticks : ℕ → ℕ) → EndStands nodes line place x → EndStands (nodes_elapsed ticks nodes) line place (node_elapsed (ticks place) x)
elapsed_end_stands nodes line place x ticks h = by h.node h.there h.end
  where
    by : (n : NetNode) → slice_get nodes place ≡ Some n → IsEndOf n line x → EndStands (nodes_elapsed ticks nodes) line place (node_elapsed (ticks place) x)
    by (User n) there is = record {
      node = elapsed_node (ticks place) (User n);
      there = elapsed_there ticks nodes place (User n) there;
      end = (is.0, ap (λ (y : NodeState). node_elapsed (ticks place) y) is.1);
    }
    by (Switching n) there is = record {
      node = elapsed_node (ticks place) (Switching n);
      there = elapsed_there ticks nodes place (Switching n) there;
      end = (
        is.0,
        with_end (λ e. end.elapsed e (ticks place)) is.1,
        is.2,
        mapped (with_end (λ e. end.elapsed e (ticks place))) n.switch.lines is.0 is.1 is.3,
        ap (λ (y : NodeState). node_elapsed (ticks place) y) is.4,
      );
    }

-- where the DCE has users the DTE has users
pub users_elapsed : (nodes : List NetNode) (line : ℕ) (l : NetLine) (ticks : ℕ → ℕ) → LineStands nodes line l → IsUserThere (nodes_elapsed ticks nodes) l.dce → IsUserThere (nodes_elapsed ticks nodes) l.dte
users_elapsed nodes line l ticks h u = let o = was_there ticks nodes l.dce (User u.0) u.1 in by o.0 o.1 o.2
  where
    by : (n : NetNode) → slice_get nodes l.dce ≡ Some n → User u.0 ≡ elapsed_node (ticks l.dce) n → IsUserThere (nodes_elapsed ticks nodes) l.dte
    by (User n) there e = let v = h.users (n, there) in (record v.0 { node = node_elapsed (ticks l.dte) v.0.node }, elapsed_there ticks nodes l.dte (User v.0) v.1)
    by (Switching n) there e = absurd (not_switch u.0 (record n { switch = elapse (ticks l.dce) n.switch }) e)

abbrev elapsed_stands : (nodes : List NetNode) (line : ℕ) (l : NetLine) (ticks : ℕ → ℕ) → LineStands nodes line l → LineStands (nodes_elapsed ticks nodes) line l
elapsed_stands nodes line l ticks h = record {
  at = λ role. node_elapsed (ticks (place_at role l)) (h.at role);
  there = λ role. elapsed_end_stands nodes line (place_at role l) (h.at role) ticks (h.there role);
  quiet = λ role. quiet_law.quiet-elapses (h.at role) (ticks (place_at role l)) (h.quiet role);
  apart = h.apart;
  host = elapsed_kind (ticks l.dce) (h.at Dce) ∙ h.host;
  users = users_elapsed nodes line l ticks h;
}

-- ---- the nodes

elapsed_role : (ticks : ℕ) (ls : List SwitchLine) (own : ℕ) → role_on (slice_get (map (with_end (λ e. end.elapsed e ticks)) ls) own) ≡ role_on (slice_get ls own)
elapsed_role ticks [] own = refl
elapsed_role ticks (l ∷ ls) zero = refl
elapsed_role ticks (l ∷ ls) (suc own) = elapsed_role ticks ls own

nodes_stand : (lines : List NetLine) (nodes : List NetNode) (ticks : ℕ → ℕ) (place : ℕ) (m : NetNode)
    → ((k : ℕ) (n : NetNode) → slice_get nodes k ≡ Some n → Stands lines k n) → slice_get (nodes_elapsed ticks nodes) place ≡ Some m → Stands lines place m
nodes_stand lines nodes ticks place m old at =
    let u = was_there ticks nodes place m at in
    subst (λ (x : NetNode). Stands lines place x) (sym u.2) (by u.0 (old place u.0 u.1))
  where
    role_stays : (n : PlacedSwitch) (own : ℕ) → own_role (elapse (ticks place) n.switch) own ≡ own_role n.switch own
    role_stays n own = ap (λ (r : Option Role). unwrap_or r Dce) (elapsed_role (ticks place) n.switch.lines own)

    by : (n : NetNode) → Stands lines place n → Stands lines place (elapsed_node (ticks place) n)
    by (User n) st = record { line = st.line; there = st.there; at_end = st.at_end }
    by (Switching n) st = record {
      count = st.count ∙ sym (length-map n.switch.lines (with_end (λ e. end.elapsed e (ticks place))));
      apart = st.apart;
      each = λ own line there.
          let e = st.each own line there in
          record { line_is = e.line_is; there = e.there; at_end = ap (λ (r : Role). place_at r e.line_is) (role_stays n own) ∙ e.at_end };
    }

-- a switch then was one before, with the same lines and routes
was_switch : (nodes : List NetNode) (ticks : ℕ → ℕ) (place : ℕ) (m : PlacedSwitch) → slice_get (nodes_elapsed ticks nodes) place ≡ Some (Switching m)
    → (o : PlacedSwitch) × (slice_get nodes place ≡ Some (Switching o)) × (m.lines ≡ o.lines) × (m.switch.routes ≡ o.switch.routes)
was_switch nodes ticks place m at = let u = was_there ticks nodes place (Switching m) at in by u.0 u.1 u.2
  where
    by : (n : NetNode) → slice_get nodes place ≡ Some n → Switching m ≡ elapsed_node (ticks place) n
        → (o : PlacedSwitch) × (slice_get nodes place ≡ Some (Switching o)) × (m.lines ≡ o.lines) × (m.switch.routes ≡ o.switch.routes)
    by (User n) there e = absurd (not_switch (record n { node = node_elapsed (ticks place) n.node }) m (sym e))
    by (Switching n) there e =
        let same : m ≡ record n { switch = elapse (ticks place) n.switch } = same_switch m (record n { switch = elapse (ticks place) n.switch }) (ap Some e) in
        (n, there, ap (λ (x : PlacedSwitch). x.lines) same, ap (λ (x : PlacedSwitch). x.switch.routes) same)

plan_elapsed : (s : Network) (ticks : ℕ → ℕ) (plan : Plan) → IsPlanOf s plan → IsPlanOf (elapsed_by ticks s) plan
plan_elapsed s ticks plan is = record {
  node = is.node;
  nowhere = λ line role more.
      let few = is.nowhere line role more in
      let same = length-nodes_elapsed ticks s.nodes in omega arith;
  user = λ k m role n there at_n.
      let u = was_there ticks s.nodes (place_at role m) n at_n in
      is.user k m role u.0 there u.1 ∙ users (ticks (place_at role m)) u.0 ∙ ap has_users (sym u.2);
  address = is.address;
  route = λ place n called there.
      let o = was_switch s.nodes ticks place n there in
      is.route place o.0 called o.1
      ∙ ap₂ (λ (xs : List ℕ) (r : RouteMap). option_and_then (λ own. slice_get xs own) (line_for r called)) (sym o.2) (sym o.3);
}
  where
    users : (passed : ℕ) (n : NetNode) → has_users n ≡ has_users (elapsed_node passed n)
    users passed (User n) = refl
    users passed (Switching n) = refl

-- ---- on faithful lines: ticks pass at the switches, one after the other

abbrev elapsed_switch : (ticks : ℕ) → PlacedSwitch → PlacedSwitch
elapsed_switch ticks n = record n { switch = elapse ticks n.switch }

abbrev IsSwitchOf : List NetNode → (place : ℕ) → Type 0
IsSwitchOf nodes place = (n : PlacedSwitch) × (slice_get nodes place ≡ Some (Switching n))

module _ (L : LineService) (s : Network) (ticks : ℕ → ℕ) (n : IsSwitched L s) (f : L.faithful) (held : IsHeld L s) where
  -- a line when ticks passed at the switches of the places before this one
  record IsPassed (k : ℕ) (l : NetLine) (old new : Line) : Type 0 where
    up : new.up ≡ old.up
    down : new.down ≡ old.down
    gone : (role : Role) → place_at role l < k → IsSwitchOf s.nodes (place_at role l) → end_at role new ≡ end.elapsed (end_at role old) (ticks (place_at role l))
    still : (role : Role) → (place_at role l < k → IsSwitchOf s.nodes (place_at role l) → ⊥) → end_at role new ≡ end_at role old

  record ArePassed (k : ℕ) : Type 0 where
    lines : Lines
    switches : Switches
    network : paths.IsNetwork held.plan held.own_lines switches held.calls lines held.books held.world held.traces
    passed : (line : ℕ) (l : NetLine) → slice_get s.lines line ≡ Some l → IsPassed k l (held.lines line).line (lines line).line
    before : (place : ℕ) (m : PlacedSwitch) → slice_get s.nodes place ≡ Some (Switching m) → place < k → IsSwitchAt (elapsed_switch (ticks place) m) (held.own_lines place) (switches place)
    behind : (place : ℕ) (m : PlacedSwitch) → slice_get s.nodes place ≡ Some (Switching m) → k ≤ place → IsSwitchAt m (held.own_lines place) (switches place)

  none_passed : ArePassed 0
  none_passed = record {
    lines = held.lines;
    switches = held.switches;
    network = held.network;
    passed = λ line l at. record {
      up = refl;
      down = refl;
      gone = λ role less it. absurd (omega (arith, less));
      still = λ role none. refl;
    };
    before = λ place m there less. absurd (omega (arith, less));
    behind = λ place m there least. held.switches_are place m there;
  }

  -- no switch is there
  one_without : (k : ℕ) → (IsSwitchOf s.nodes k → ⊥) → ArePassed k → ArePassed (suc k)
  one_without k none a = record {
    lines = a.lines;
    switches = a.switches;
    network = a.network;
    passed = λ line l at.
        let p = a.passed line l at in
        record {
          up = p.up;
          down = p.down;
          gone = λ role less it. p.gone role (earlier (place_at role l) less it) it;
          still = λ role other. p.still role (λ less it. other (omega (arith, less)) it);
        };
    before = λ place m there less. a.before place m there (earlier place less (m, there));
    behind = λ place m there least. a.behind place m there (omega (arith, least));
  }
    where
      earlier : (place : ℕ) → place < suc k → IsSwitchOf s.nodes place → place < k
      earlier place less it = elim (number_is place k) [
        | inl e ↦ absurd (none (it.0, ap (λ (i : ℕ). slice_get s.nodes i) (sym e) ∙ it.1))
        | inr ne ↦ omega (arith, less, ne)
      ]

  -- ticks pass at a switch
  at_own : (r : Role) (p : Partner) (e : PacketEnd) → p.role ≡ r → end_at r (standing_with p e).line ≡ e
  at_own r p e same = subst (λ (x : Role). end_at x (standing_with p e).line ≡ e) same (own_end p.role e p.other p.up p.down)

  at_other : (r : Role) (p : Partner) (e : PacketEnd) → p.role ≡ r → end_at (other_of r) (standing_with p e).line ≡ p.other
  at_other r p e same = subst (λ (x : Role). end_at (other_of x) (standing_with p e).line ≡ p.other) same (other_end p.role e p.other p.up p.down)

  same_up : (p : Partner) (d e : PacketEnd) → (standing_with p d).line.up ≡ (standing_with p e).line.up
  same_up p d e = by p.role
    where
      by : (r : Role) → (standing_with (record p { role = r }) d).line.up ≡ (standing_with (record p { role = r }) e).line.up
      by Dte = refl
      by Dce = refl

  same_down : (p : Partner) (d e : PacketEnd) → (standing_with p d).line.down ≡ (standing_with p e).line.down
  same_down p d e = by p.role
    where
      by : (r : Role) → (standing_with (record p { role = r }) d).line.down ≡ (standing_with (record p { role = r }) e).line.down
      by Dte = refl
      by Dce = refl

  module _ (k : ℕ) (m : PlacedSwitch) (there : slice_get s.nodes k ≡ Some (Switching m)) (a : ArePassed k) where
    its_place : IsSwitchAt m (held.own_lines k) (a.switches k)
    its_place = a.behind k m there (omega arith)

    abbrev x : Switched
    x = record { switch = m.switch; histories = its_place.histories }

    abbrev y : Switched
    y = record { switch = elapse (ticks k) m.switch; histories = its_place.histories }

    after : NetworkStays held.plan held.own_lines a.switches k y held.calls a.lines held.books held.world held.traces
    after = network_holds.elapses held.plan held.own_lines a.switches held.calls a.lines held.books held.world held.traces k x (ticks k) its_place.is a.network

    -- the line of an own line, before and after
    record OwnPassed (line : ℕ) (l : NetLine) : Type 0 where
      role : Role
      at_end : place_at role l ≡ k
      up : (after.lines line).line.up ≡ (a.lines line).line.up
      down : (after.lines line).line.down ≡ (a.lines line).line.down
      own : end_at role (after.lines line).line ≡ end.elapsed (end_at role (a.lines line).line) (ticks k)
      other : end_at (other_of role) (after.lines line).line ≡ end_at (other_of role) (a.lines line).line

    own_passed : (line own : ℕ) (l : NetLine) → slice_get s.lines line ≡ Some l → slice_get m.lines own ≡ Some line → OwnPassed line l
    own_passed line own l at own_is =
        let st : StandsAtLines s.lines k m = n.nodes k (Switching m) there in
        let within = slice_get_within m.lines own line own_is in
        let z = get_there m.switch.lines own (let c = st.count in omega arith) in
        let less : own < length (held.own_lines k) = subst (λ (ls : List ℕ). own < length ls) (sym its_place.lines) within in
        let named : network_line (held.own_lines k) own ≡ line = ap (λ (ls : List ℕ). network_line ls own) its_place.lines ∙ line_named m.lines own line own_is in
        let p : Partner = its_place.histories.partners own in
        let sight = (a.network.stays k x its_place.is).sight own less in
        let was : standing_with p z.0.end ≡ a.lines line = sight.line_is z.0 z.1 ∙ ap (λ (i : ℕ). a.lines i) named in
        let now : after.lines line ≡ standing_with p (end.elapsed z.0.end (ticks k)) =
        ap (λ (i : ℕ). after.lines i) (sym named) ∙ after.own own (with_end (λ e. end.elapsed e (ticks k)) z.0) less (mapped (with_end (λ e. end.elapsed e (ticks k))) m.switch.lines own z.0 z.1) in
        let role_is : p.role ≡ own_role m.switch own =
        role_of_own s held.plan held.plan_is k m x (held.own_lines k) (a.network.planned k x its_place.is) its_place.lines st (λ line l at. (n.lines line l at).apart) own line l own_is at in
        let e = st.each own line own_is in
        let r : Role = own_role m.switch own in
        record {
          role = r;
          at_end = ap (λ (v : NetLine). place_at r v) (same_Some l e.line_is (sym at ∙ e.there)) ∙ e.at_end;
          up = ap (λ (v : Standing). v.line.up) now ∙ same_up p (end.elapsed z.0.end (ticks k)) z.0.end ∙ ap (λ (v : Standing). v.line.up) was;
          down = ap (λ (v : Standing). v.line.down) now ∙ same_down p (end.elapsed z.0.end (ticks k)) z.0.end ∙ ap (λ (v : Standing). v.line.down) was;
          own = ap (λ (v : Standing). end_at r v.line) now ∙ at_own r p (end.elapsed z.0.end (ticks k)) role_is
              ∙ ap (λ (e : PacketEnd). end.elapsed e (ticks k)) (sym (at_own r p z.0.end role_is) ∙ ap (λ (v : Standing). end_at r v.line) was);
          other = ap (λ (v : Standing). end_at (other_of r) v.line) now ∙ at_other r p (end.elapsed z.0.end (ticks k)) role_is
              ∙ sym (at_other r p z.0.end role_is) ∙ ap (λ (v : Standing). end_at (other_of r) v.line) was;
        }

    passed_own : (line own : ℕ) (l : NetLine) → slice_get s.lines line ≡ Some l → slice_get m.lines own ≡ Some line → IsPassed (suc k) l (held.lines line).line (after.lines line).line
    passed_own line own l at own_is =
        let o = own_passed line own l at own_is in
        let p = a.passed line l at in
        let apart = (n.lines line l at).apart in
        record {
          up = o.up ∙ p.up;
          down = o.down ∙ p.down;
          gone = λ role less it. elim (number_is (place_at role l) k) [
            | inl e ↦
                let same : o.role ≡ role = same_role l apart o.role role (o.at_end ∙ sym e) in
                subst (λ (r : Role). end_at r (after.lines line).line ≡ end.elapsed (end_at r (held.lines line).line) (ticks (place_at r l))) same
                (o.own
                ∙ ap₂ (λ (e : PacketEnd) (passed : ℕ). end.elapsed e passed) (p.still o.role (λ less it. absurd (let at_k = o.at_end in omega (arith, less, at_k)))) (ap ticks (sym o.at_end)))
            | inr ne ↦
                let other : other_of o.role ≡ role = other_role_is o.role role (λ e. ne (ap (λ (r : Role). place_at r l) (sym e) ∙ o.at_end)) in
                subst (λ (r : Role). end_at r (after.lines line).line ≡ end_at r (a.lines line).line) other o.other ∙ p.gone role (omega (arith, less, ne)) it
          ];
          still = λ role none. elim (number_is (place_at role l) k) [
            | inl e ↦ absurd (none (omega (arith, e)) (m, ap (λ (i : ℕ). slice_get s.nodes i) e ∙ there))
            | inr ne ↦
                let other : other_of o.role ≡ role = other_role_is o.role role (λ e. ne (ap (λ (r : Role). place_at r l) (sym e) ∙ o.at_end)) in
                subst (λ (r : Role). end_at r (after.lines line).line ≡ end_at r (a.lines line).line) other o.other ∙ p.still role (λ less it. none (omega (arith, less)) it)
          ];
        }

    passed_other : (line : ℕ) (l : NetLine) → slice_get s.lines line ≡ Some l → ((own : ℕ) → slice_get m.lines own ≡ Some line → ⊥) → IsPassed (suc k) l (held.lines line).line (after.lines line).line
    passed_other line l at none =
        let p = a.passed line l at in
        let same : after.lines line ≡ a.lines line = after.same_line line (subst (λ (ls : List ℕ). IsOther ls line) (sym its_place.lines) (none_other m.lines line none)) in
        let not_here : (role : Role) → place_at role l ≢ k = λ role e.
        let own = own_of_switch s.nodes line (place_at role l) ((n.lines line l at).at role) m ((n.lines line l at).there role) (ap (λ (i : ℕ). slice_get s.nodes i) e ∙ there) in none own.0 own.1 in
        record {
          up = ap (λ (v : Standing). v.line.up) same ∙ p.up;
          down = ap (λ (v : Standing). v.line.down) same ∙ p.down;
          gone = λ role less it. ap (λ (v : Standing). end_at role v.line) same ∙ p.gone role (let ne = not_here role in omega (arith, less, ne)) it;
          still = λ role other. ap (λ (v : Standing). end_at role v.line) same ∙ p.still role (λ less it. other (omega (arith, less)) it);
        }

    one_switch : ArePassed (suc k)
    one_switch = record {
      lines = after.lines;
      switches = all_after k y held.own_lines after.lines held.books a.switches;
      network = after.network;
      passed = λ line l at. elim (own_or_none m.lines line) [
        | inl own ↦ passed_own line own.0 l at own.1
        | inr none ↦ passed_other line l at none
      ];
      before = λ place o o_there less. elim (number_is place k) [
        | inl e ↦
            let is : o ≡ m = same_switch o m (sym o_there ∙ ap (λ (i : ℕ). slice_get s.nodes i) e ∙ there) in
            record {
              histories = its_place.histories;
              is = if_here place k y (all_seen held.own_lines after.lines held.books a.switches) e ∙ ap (λ (q : PlacedSwitch). Some (record { switch = elapse (ticks k) q.switch; histories = its_place.histories })) (sym is)
                  ∙ ap (λ (i : ℕ). Some (record { switch = elapse (ticks i) o.switch; histories = its_place.histories })) (sym e);
              lines = ap (λ (i : ℕ). held.own_lines i) e ∙ its_place.lines ∙ ap (λ (q : PlacedSwitch). q.lines) (sym is);
            }
        | inr ne ↦ elsewhere_at (elapsed_switch (ticks place) o) place ne (a.before place o o_there (omega (arith, less, ne)))
      ];
      behind = λ place o o_there least. elsewhere_at o place (λ e. absurd (omega (arith, e, least))) (a.behind place o o_there (omega (arith, least)));
    }
      where
        elsewhere_at : (q : PlacedSwitch) (place : ℕ) → place ≢ k → IsSwitchAt q (held.own_lines place) (a.switches place)
            → IsSwitchAt q (held.own_lines place) (all_after k y held.own_lines after.lines held.books a.switches place)
        elsewhere_at q place ne h =
            let v = sighted q (held.own_lines place) after.lines held.books (a.switches place) h in
            record { histories = v.histories; is = if_there place k y (all_seen held.own_lines after.lines held.books a.switches) ne ∙ v.is; lines = v.lines }

  all_passed : (k : ℕ) → ArePassed k
  all_passed zero = none_passed
  all_passed (suc k) = by (slice_get s.nodes k) refl (all_passed k)
    where
      by : (o : Option NetNode) → slice_get s.nodes k ≡ o → ArePassed k → ArePassed (suc k)
      by (Some (Switching m)) e a = one_switch k m e a
      by (Some (User u)) e a = one_without k (λ it. not_both u it.0 (sym e ∙ it.1)) a
      by None e a = one_without k (λ it. none-some (Switching it.0) (sym e ∙ it.1)) a

  -- ---- and at all users, line by line

  abbrev all_switches : ArePassed (length s.nodes)
  all_switches = all_passed (length s.nodes)

  abbrev elapsed_ends : (line : ℕ) (l : NetLine) → LineStands s.nodes line l → Line
  elapsed_ends line l h = line_between l (λ role. node_elapsed (ticks (place_at role l)) (h.at role))

  end_elapsed : (role : Role) (l : NetLine) (at : Role → NodeState)
      → end_at role (line_between l (λ side. node_elapsed (ticks (place_at side l)) (at side))) ≡ end.elapsed (end_at role (line_between l at)) (ticks (place_at role l))
  end_elapsed Dte l at = elapsed_end (ticks l.dte) (at Dte)
  end_elapsed Dce l at = elapsed_end (ticks l.dce) (at Dce)

  record AreLater (m : ℕ) : Type 0 where
    lines : Lines
    switches : Switches
    network : paths.IsNetwork held.plan held.own_lines switches held.calls lines held.books held.world held.traces
    before : (line : ℕ) (l : NetLine) → slice_get s.lines line ≡ Some l → line < m → (h : LineStands s.nodes line l) → (lines line).line ≡ elapsed_ends line l h
    behind : (line : ℕ) → m ≤ line → lines line ≡ all_switches.lines line
    are : (place : ℕ) (o : PlacedSwitch) → slice_get s.nodes place ≡ Some (Switching o) → IsSwitchAt (elapsed_switch (ticks place) o) (held.own_lines place) (switches place)

  none_later : AreLater 0
  none_later = record {
    lines = all_switches.lines;
    switches = all_switches.switches;
    network = all_switches.network;
    before = λ line l at less h. absurd (omega (arith, less));
    behind = λ line least. refl;
    are = λ place o there. all_switches.before place o there (slice_get_within s.nodes place (Switching o) there);
  }

  one_later : (m : ℕ) (l : NetLine) → slice_get s.lines m ≡ Some l → AreLater m → AreLater (suc m)
  one_later m l at a =
      let h = n.lines m l at in
      let b = book_of L s held m l at in
      let passed : Role → ℕ = λ role. ticks (place_at role l) in
      let later : IsLine L (ends_state l (λ role. node_elapsed (passed role) (h.at role)) b.0) = elapsed_lines L (ends_state l h.at b.0) passed (held.ends m l b.0 at b.1 h) in
      let k : IsKept (ends_state l (λ role. node_elapsed (passed role) (h.at role)) b.0) = later.kept f in
      let x : Standing = record { setting = k.setting; line = elapsed_ends m l h } in
      record {
        lines = with_line m x a.lines;
        switches = all_seen held.own_lines (with_line m x a.lines) held.books a.switches;
        network = network_holds.changes held.plan held.own_lines a.switches held.calls a.lines held.books held.world held.traces m b.0 x b.1
            (λ role switch.
            let it = switch_there held.plan s held.plan_is m l role at (h.there role) switch in
            record {
              end = end_elapsed role l h.at ∙ ap (λ (v : Line). end.elapsed (end_at role v) (passed role)) (sym (held.lines_are m l at h))
                  ∙ sym ((all_switches.passed m l at).gone role (slice_get_within s.nodes (place_at role l) (Switching it.0) it.1) it)
                  ∙ ap (λ (v : Standing). end_at role v.line) (sym (a.behind m (omega arith)));
              kept = k.kept;
            }) a.network;
        before = λ line o o_at less g. elim (number_is line m) [
          | inl e ↦
              let same : o ≡ l = same_Some o l (sym o_at ∙ ap (λ (i : ℕ). slice_get s.lines i) e ∙ at) in
              ap (λ (v : Standing). v.line) (if_same line m x (a.lines line) e)
              ∙ sym (λ i. line_between (same i) (λ role. node_elapsed (ticks (place_at role (same i))) (ends line o g e same i role)))
          | inr ne ↦ ap (λ (v : Standing). v.line) (if_else line m x (a.lines line) ne) ∙ a.before line o o_at (omega (arith, less, ne)) g
        ];
        behind = λ line least. if_else line m x (a.lines line) (λ e. absurd (omega (arith, e, least))) ∙ a.behind line (omega (arith, least));
        are = λ place o there. sighted (elapsed_switch (ticks place) o) (held.own_lines place) (with_line m x a.lines) held.books (a.switches place) (a.are place o there);
      }
    where
      ends : (line : ℕ) (o : NetLine) (g : LineStands s.nodes line o) → line ≡ m → o ≡ l → g.at ≡ (n.lines m l at).at
      ends line o g e same = λ i role.
          same_end s.nodes m (place_at role l) (g.at role) ((n.lines m l at).at role) (are_apart s.lines s.nodes n.nodes)
          (subst (λ (j : ℕ). EndStands s.nodes j (place_at role l) (g.at role)) e (subst (λ (v : NetLine). EndStands s.nodes line (place_at role v) (g.at role)) same (g.there role)))
          ((n.lines m l at).there role) i

  all_later : (m : ℕ) → m ≤ length s.lines → AreLater m
  all_later zero most = none_later
  all_later (suc m) most =
      let l = get_there s.lines m (omega (arith, most)) in
      one_later m l.0 l.1 (all_later m (omega (arith, most)))

  pub held_elapsed : AreApart (nodes_elapsed ticks s.nodes) → IsHeld L (elapsed_by ticks s)
  held_elapsed apart =
      let a = all_later (length s.lines) (omega arith) in
      let new : List NetNode = nodes_elapsed ticks s.nodes in
      record {
        books = held.books;
        count = held.count;
        ends = λ k m c at_m at_c h.
            let old = n.lines k m at_m in
            subst (IsLine L) (sym (λ i. ends_state m (same_at new k m apart h (elapsed_stands s.nodes k m ticks old) i) c))
            (elapsed_lines L (ends_state m old.at c) (λ role. ticks (place_at role m)) (held.ends k m c at_m at_c old));
        channels = held.channels;
        lines = a.lines;
        lines_are = λ k m at_m h.
            let old = n.lines k m at_m in
            a.before k m at_m (slice_get_within s.lines k m at_m) old
            ∙ sym (λ i. line_between m (same_at new k m apart h (elapsed_stands s.nodes k m ticks old) i));
        plan = held.plan;
        plan_is = plan_elapsed s ticks held.plan held.plan_is;
        own_lines = held.own_lines;
        switches = a.switches;
        switches_are = λ place o there.
            let was = was_there ticks s.nodes place (Switching o) there in
            are_then a place o was.0 was.1 was.2;
        calls = held.calls;
        world = held.world;
        traces = held.traces;
        network = a.network;
        register = held.register;
      }
    where
      are_then : (a : AreLater (length s.lines)) (place : ℕ) (o : PlacedSwitch) (q : NetNode) → slice_get s.nodes place ≡ Some q → Switching o ≡ elapsed_node (ticks place) q → IsSwitchAt o (held.own_lines place) (a.switches place)
      are_then a place o (User u) there e = absurd (not_switch (record u { node = node_elapsed (ticks place) u.node }) o (sym e))
      are_then a place o (Switching m) there e =
          let same : o ≡ elapsed_switch (ticks place) m = same_switch o (elapsed_switch (ticks place) m) (ap Some e) in
          subst (λ (q : PlacedSwitch). IsSwitchAt q (held.own_lines place) (a.switches place)) (sym same) (a.are place m there)

-- ---- on any lines

pub elapsed_switched : (L : LineService) (s : Network) (ticks : ℕ → ℕ) → IsSwitched L s → IsSwitched L (elapsed_by ticks s)
elapsed_switched L s ticks n =
    let stand : (place : ℕ) (m : NetNode) → slice_get (nodes_elapsed ticks s.nodes) place ≡ Some m → Stands s.lines place m =
    λ place m at. nodes_stand s.lines s.nodes ticks place m n.nodes at in
    record {
      lines = λ k m at. elapsed_stands s.nodes k m ticks (n.lines k m at);
      nodes = stand;
      holds = λ f. held_elapsed L s ticks n f (n.holds f) (are_apart s.lines (nodes_elapsed ticks s.nodes) stand);
    }
