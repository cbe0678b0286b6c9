-- Where a timer that is due expires at a node with users or at a switch, fewer are due then.
use Rattle.std.proofs.Common.{◌≡◌, ℕ, ◌<◌, List, Some, sym, subst}
use Rattle.std.specs.Prelude.{slice_get}
use Rattle.link_timers.specs.declared.role.Role.{Role}
use Rattle.call_records.specs.Register.{book_at}
use Rattle.user_nodes.specs.Node.{drained}
use Rattle.node_laws.specs.Quiet.{IsQuiet}
use Rattle.node_laws.proofs.Expiring as expiry_law
use Rattle.frame_lines.specs.Lines.{LineService}
use Rattle.switch_lines.specs.Switch.{on_timer}
use Rattle.switched_call_laws.specs.QuietSwitches.Quiet.{IsQuietSwitch}
use Rattle.switched_call_laws.proofs.QuietSwitches.Fewer as switch_law
use Rattle.net_events.specs.NodeEvents.NodeEvent.{Expires}
use Rattle.net_events.specs.AtSwitch.{switch_drained}
use Rattle.net_events.specs.Network.{PlacedNode, NetNode, User, Switching, NetLine, Network, place_at, net_turn}
use Rattle.network_laws.specs.DueCount.{all_due}
use Rattle.network_laws.proofs.Due.{fewer_of}
use Rattle.network_laws.specs.Switched.IsSwitched.{LineStands}
use Rattle.network_laws.specs.Switched.Laws.{FewerLaw, SwitchFewerLaw}
use Rattle.network_laws.proofs.Switched.NodesAtEnds.{user_end}
use Rattle.network_laws.proofs.Switched.SwitchStanding.{switch_quiet}

-- ---- a node with users is quiet

pub quiet_user : (nodes : List NetNode) (line : ℕ) (l : NetLine) (h : LineStands nodes line l) (role : Role) (n : PlacedNode)
    → slice_get nodes (place_at role l) ≡ Some (User n) → IsQuiet n.node
quiet_user nodes line l h role n there = subst IsQuiet (user_end nodes line l h role n there).node_is (h.quiet role)

-- ---- fewer are due

pub fewer_any : (L : LineService) → FewerLaw L
fewer_any L line role id s t n d due =
    subst (λ (x : Network). all_due x.nodes < all_due s.nodes) (sym d.others)
    (fewer_of s.nodes (place_at role d.line_is) (User d.node) (User (record d.node { node = drained (net_turn (Expires id) line role d.node s).node })) d.node_there
    (expiry_law.fewer-due role d.node.node id (book_at line s.register)
    (quiet_user s.nodes line d.line_is (n.network.lines line d.line_is d.line_there) role d.node d.node_there) due))

-- ---- at a switch

pub fewer_at_switch : (L : LineService) → SwitchFewerLaw L
fewer_at_switch L own id place s t n d due =
    let is_quiet : IsQuietSwitch d.node.switch =
    switch_quiet s.lines s.nodes place d.node d.node_there (n.network.nodes place (Switching d.node) d.node_there) n.network.lines in
    subst (λ (x : List NetNode). all_due x < all_due s.nodes) (sym d.nodes)
    (fewer_of s.nodes place (Switching d.node) (Switching (record d.node { switch = switch_drained (on_timer own id d.node.switch) })) d.node_there
    (switch_law.fewer-due own id d.node.switch is_quiet due))
