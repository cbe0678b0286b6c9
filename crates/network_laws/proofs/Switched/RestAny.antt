-- Where a network is at rest, with switches or without one, nothing is missing.
use Rattle.std.proofs.Common.{◌≡◌, ℕ, ◌<◌, true, false, zero, suc, Bool, List, [], ◌∷◌, Some, sym, ap, ◌∙◌, subst}
use Rattle.std.specs.Prelude.{slice_get}
use Rattle.std.specs.List.{list_all}
use Rattle.std.proofs.lemmas.Option.{same_Some, none-some}
use Rattle.std.proofs.lemmas.Bool.{and_parts}
use Rattle.link_timers.specs.declared.role.Role.{Role}
use Rattle.link_timers.specs.declared.role.Role.TheVariants.{Dte, Dce}
use Rattle.node_laws.specs.Lines.NodeLine.{Line}
use Rattle.node_laws.specs.Lines.LineRest.{AreAtRest}
use Rattle.record_laws.proofs.Books.Basics.{get_there}
use Rattle.call_records.specs.Book.{Book}
use Rattle.call_records.specs.Register.{Register}
use Rattle.record_laws.specs.Books.BookRest.{NothingMissing}
use Rattle.node_laws.proofs.LineRecords.Missing.{rest_kept}
use Rattle.user_nodes.specs.Node.{NodeState, node_rests}
use Rattle.frame_lines.specs.Lines.{LineService}
use Rattle.packet_end.specs.PacketEnd.{at_rest}
use Rattle.switch_joins.specs.Joins.{gathers_nothing}
use Rattle.switch_lines.specs.Switch.{line_rests}
use Rattle.switched_call_laws.specs.SwitchPaths.SwitchPathLaws.{GathersNothing, SwitchesRest}
use Rattle.switched_call_laws.specs.SwitchPaths.Sight.{Switched}
use Rattle.switched_call_laws.proofs.SwitchPaths.Gathering.{none_gathered}
use Rattle.switched_call_laws.proofs.SwitchPaths.Begins.{network_holds}
use Rattle.net_events.specs.OneLine.{LineState}
use Rattle.net_events.specs.Network.{NetNode, User, Switching, NetLine, Network, place_at}
use Rattle.network_laws.specs.IsLine.{line_of}
use Rattle.network_laws.specs.NetworkRest.{MissesNothing}
use Rattle.network_laws.specs.Switched.IsSwitched.{ends_state, line_between, IsEndOf, EndStands, LineStands, IsHeld, IsSwitched}
use Rattle.network_laws.specs.Switched.SwitchedRest.{AreAllAtRest}
use Rattle.network_laws.specs.Switched.Laws.{RestLaw}
use Rattle.network_laws.proofs.Switched.OwnLines.{switch_there}
use Rattle.network_laws.proofs.Switched.PromiseHeld.{held, LineHas, line_has, its_line}

-- ---- lists

all_at : {X : Type 0} (test : X → Bool) (xs : List X) (i : ℕ) (x : X) → list_all test xs ≡ true → slice_get xs i ≡ Some x → test x ≡ true
all_at test [] i x all e = absurd (none-some x e)
all_at test (y ∷ xs) zero x all e = ap test (sym (same_Some y x e)) ∙ (and_parts (test y) (list_all test xs) all).0
all_at test (y ∷ xs) (suc i) x all e = all_at test xs i x (and_parts (test y) (list_all test xs) all).1 e

-- ---- a network of switches

module _ (L : LineService) (s : Network) (p : IsSwitched L s) (f : L.faithful) (rests : AreAllAtRest s.nodes) where
  -- a node at rest is so at its end of a line, and so is a switch
  end_rests : (line place : ℕ) (x : NodeState) → EndStands s.nodes line place x → node_rests x ≡ true
  end_rests line place x e = by e.node e.there e.end
    where
      by : (n : NetNode) → slice_get s.nodes place ≡ Some n → IsEndOf n line x → node_rests x ≡ true
      by (User n) there is = ap node_rests is.1 ∙ rests.users place n there
      by (Switching n) there is =
          ap node_rests is.4 ∙ (and_parts (at_rest is.1.end) (list_all gathers_nothing is.1.joined) (all_at line_rests n.switch.lines is.0 is.1 (rests.switches place n there) is.3)).0

  -- both ends of each line
  ends_rest : (line : ℕ) (l : NetLine) (h : LineStands s.nodes line l) → AreAtRest (line_between l h.at).dte (line_between l h.at).dce
  ends_rest line l h = record {
    at_dte = end_rests line l.dte (h.at Dte) (h.there Dte);
    at_dce = end_rests line l.dce (h.at Dce) (h.there Dce);
    no_relink_at_dte = (h.quiet Dte).settled;
    no_relink_at_dce = (h.quiet Dce).settled;
  }

  -- nothing is gathered at the switch at an end of a line
  switch_gathers : (line : ℕ) (l : NetLine) (role : Role) (x : Switched) → slice_get s.lines line ≡ Some l → (h : LineStands s.nodes line l) → (held L s p f).plan.has_user line role ≡ false
      → (held L s p f).switches ((held L s p f).plan.node line role) ≡ Some x → GathersNothing x.switch.lines
  switch_gathers line l role x at h switch there =
      let own = switch_there (held L s p f).plan s (held L s p f).plan_is line l role at (h.there role) switch in
      let is = (held L s p f).switches_are (place_at role l) own.0 own.1 in
      let same = same_Some _ x (sym is.is ∙ (ap (held L s p f).switches (sym ((held L s p f).plan_is.node line l role at)) ∙ there)) in
      subst (λ (y : Switched). GathersNothing y.switch.lines) same
      (none_gathered line_rests (λ k e. (and_parts (at_rest k.end) (list_all gathers_nothing k.joined) e).1) own.0.switch.lines (rests.switches (place_at role l) own.0 own.1))

  switch_rests : SwitchesRest (held L s p f).plan (held L s p f).switches (held L s p f).lines (held L s p f).books
  switch_rests line role less switch =
      let l = get_there s.lines line (subst (λ (n : ℕ). line < n) (held L s p f).count less) in
      let h : LineStands s.nodes line l.0 = p.lines line l.0 l.1 in
      record {
        ends = subst (λ (x : Line). AreAtRest x.dte x.dce) (sym ((held L s p f).lines_are line l.0 l.1 h)) (ends_rest line l.0 h);
        gathered = λ x there. switch_gathers line l.0 role x l.1 h switch there;
      }

  line_rests_so : (line : ℕ) (b : Book) → slice_get (held L s p f).books line ≡ Some b → NothingMissing b.records b.pairs
  line_rests_so line b there =
      let l = its_line L s p f line b there in
      let h : LineHas L s p f line l.0 b = line_has L s p f line l.0 b l.1 there in
      let own : LineState = ends_state l.0 h.stands.at b in
      rest_kept h.kept.setting b (line_of own) h.kept.kept (ends_rest line l.0 h.stands)

  rest_held : MissesNothing s
  rest_held =
      let h : IsHeld L s = held L s p f in
      subst (λ (g : Register). NothingMissing g.records g.pairs) h.register
      (network_holds.rest h.plan h.own_lines h.switches h.calls h.lines h.books h.world h.traces h.network switch_rests
      (λ line b users there. line_rests_so line b there))

-- ---- any network

pub rest_any : (L : LineService) → RestLaw L
rest_any L s n f rests = rest_held L s n.network f rests
