-- What holds of a network holds after an event of a switch.
use Rattle.std.proofs.Common.{◌≡◌, ◌≢◌, ℕ, Some, sym, subst, inl, inr}
use Rattle.std.specs.Prelude.{◌⊎◌, slice_get}
use Rattle.record_laws.proofs.Books.Basics.{get_set}
use Rattle.frame_lines.specs.Lines.{LineService}
use Rattle.switched_call_laws.specs.QuietSwitches.Quiet.{IsQuietSwitch}
use Rattle.net_events.specs.AtSwitch.{SwitchEvent, switched, switch_drained, SwitchHappened}
use Rattle.net_events.specs.Network.{NetNode, Switching, Network, StandsAtLines, Stands}
use Rattle.network_laws.specs.Switched.IsSwitched.{IsSwitched}
use Rattle.network_laws.specs.Switched.Laws.{SwitchEventLaw}
use Rattle.network_laws.proofs.Switched.Addressed.{switched_addressed}
use Rattle.network_laws.proofs.Switched.SwitchStanding.{switch_after, quiet_after, switch_quiet, was_line, stands_still, switch_stands, stands_then}
use Rattle.network_laws.proofs.Switched.SwitchHolding.{network_then, held_then}

switched_network : (L : LineService) (event : SwitchEvent) (place : ℕ) (s t : Network) → IsSwitched L s → (d : SwitchHappened L event place s t)
    → IsSwitched L (network_then event place d.node t.lines t.register s)
switched_network L event place s t i d = record {
  lines = λ line l at.
      let w = was_line L event d.node s.lines t.lines d.lines line l at in
      stands_then event s.nodes place d.node d.node_there quiet line w.l l w.dte w.dce (i.lines line w.l w.there);
  nodes = λ at m there. stands_by at m (get_set s.nodes place (Switching (switch_after event d.node)) at m there);
  holds = λ f. held_then L event place d.node s t.lines t.register f d.node_there i d.has_line d.lines d.register (i.holds f);
}
  where
    stands : StandsAtLines s.lines place d.node
    stands = i.nodes place (Switching d.node) d.node_there

    quiet : IsQuietSwitch (switch_drained (switched event d.node.switch))
    quiet = quiet_after event d.node.switch (switch_quiet s.lines s.nodes place d.node d.node_there stands i.lines)

    stands_by : (at : ℕ) (m : NetNode)
        → ((at ≡ place) × (m ≡ Switching (switch_after event d.node))) ⊎ ((at ≢ place) × (slice_get s.nodes at ≡ Some m)) → Stands t.lines at m
    stands_by at m (inl e) =
        subst (λ (k : ℕ). Stands t.lines k m) (sym e.0)
        (subst (Stands t.lines place) (sym e.1) (switch_stands L event d.node s.lines t.lines d.lines place stands))
    stands_by at m (inr e) = stands_still L event d.node s.lines t.lines d.lines at m (i.nodes at m e.1)

pub switch_event_holds : (L : LineService) → SwitchEventLaw L
switch_event_holds L event place s t i d = record {
  network = subst (IsSwitched L) (λ k. record { nodes = sym d.nodes k; lines = t.lines; register = t.register }) (switched_network L event place s t i.network d);
  addressed = switched_addressed L event place s t i.addressed d;
}
