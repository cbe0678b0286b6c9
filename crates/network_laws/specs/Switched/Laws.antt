-- The laws of a network: they hold from the making on, whatever happens at its nodes and on its lines.
use Rattle.std.specs.Prelude.{◌≡◌, ℕ, ◌<◌, true, slice_get, Some}
use Rattle.link_timers.specs.declared.role.Role.{Role}
use Rattle.link_timers.specs.declared.timers.TimerId.{TimerId}
use Rattle.packet_layer.specs.Layer.{confirmed}
use Rattle.user_nodes.specs.Node.{end_of, node_due}
use Rattle.frame_lines.specs.declared.line.Direction.{Direction}
use Rattle.frame_lines.specs.Lines.{LineService}
use Rattle.switch_lines.specs.Switch.{due_on}
use Rattle.net_events.specs.NodeEvents.{NodeEvent}
use Rattle.net_events.specs.NodeEvents.NodeEvent.{Expires}
use Rattle.net_events.specs.AtSwitch.{SwitchEvent, SwitchHappened}
use Rattle.net_events.specs.AtSwitch as at_switch
use Rattle.net_events.specs.Network.{PlacedNode, User, Network, HappenedAt, LostAt}
use Rattle.net_config.specs.NetPlan.{NetPlan, IsPlan}
use Rattle.net_events.specs.Opening.{IsMade}
use Rattle.network_laws.specs.DueCount.{all_due}
use Rattle.network_laws.specs.PlacedTime.{elapsed_by}
use Rattle.network_laws.specs.NetworkRest.{MissesNothing, IsDelivered}
use Rattle.network_laws.specs.Switched.SwitchedRest.{AreAllAtRest}
use Rattle.network_laws.specs.Switched.IsSwitched.{IsAny}
use Rattle.network_laws.specs.Switched.InnerPromise.{NetworkPromise}

abbrev pub MadeLaw : LineService → Type 0
MadeLaw L = (plan : NetPlan) (s : Network) → IsPlan plan → IsMade L plan s → IsAny L s

-- at a node with users, and at a switch
abbrev pub EventLaw : LineService → Type 0
EventLaw L = (event : NodeEvent) (line : ℕ) (role : Role) (s t : Network) → IsAny L s
    → HappenedAt L event line role s t → IsAny L t

abbrev pub SwitchEventLaw : LineService → Type 0
SwitchEventLaw L = (event : SwitchEvent) (place : ℕ) (s t : Network) → IsAny L s
    → SwitchHappened L event place s t → IsAny L t

abbrev pub LossLaw : LineService → Type 0
LossLaw L = (line : ℕ) (d : Direction) (s t : Network) → IsAny L s → LostAt L line d s t → IsAny L t

-- ticks pass, at each node by a number of its own
abbrev pub PlacedTimeLaw : LineService → Type 0
PlacedTimeLaw L = (s : Network) (ticks : ℕ → ℕ) → IsAny L s → IsAny L (elapsed_by ticks s)

-- and on faithful lines it is what the network promises
abbrev pub PromiseLaw : LineService → Type 0
PromiseLaw L = (s : Network) → IsAny L s → L.faithful → NetworkPromise s

-- ---- what is due comes to an end

-- where a timer that is due at a node expires there, fewer are due then
abbrev pub FewerLaw : LineService → Type 0
FewerLaw L = (line : ℕ) (role : Role) (id : TimerId) (s t : Network) → IsAny L s
    → (happened : HappenedAt L (Expires id) line role s t) → node_due happened.node.node ≡ Some id
    → all_due t.nodes < all_due s.nodes

abbrev pub SwitchFewerLaw : LineService → Type 0
SwitchFewerLaw L = (own : ℕ) (id : TimerId) (place : ℕ) (s t : Network) → IsAny L s
    → (happened : SwitchHappened L (at_switch.Expires own id) place s t)
    → due_on (slice_get happened.node.switch.lines own) ≡ Some id → all_due t.nodes < all_due s.nodes

-- ---- rest, and confirmed delivery

abbrev pub RestLaw : LineService → Type 0
RestLaw L = (s : Network) → IsAny L s → L.faithful → AreAllAtRest s.nodes → MissesNothing s

abbrev pub DeliveredLaw : LineService → Type 0
DeliveredLaw L = (s : Network) → IsAny L s → L.faithful → (place channel : ℕ) (n : PlacedNode)
    → slice_get s.nodes place ≡ Some (User n) → confirmed (end_of n.node).layer channel ≡ true
    → IsDelivered place channel s
