-- What the questions of a network promise.
use Rattle.std.proofs.Common.{◌≡◌, ℕ, ◌≤◌, Bool, true, false, List, length, refl, sym, ap, ◌∙◌, subst, arith}
use Rattle.std.specs.Prelude.{Option, Some, None, not, if◌then◌else◌}
use Rattle.packet_host.proofs.Sayable.{sayable}
use Rattle.x25_pad.proofs.Nothing.{shows_nothing}
use Rattle.user_nodes.specs.Node.{NodeState, Pad, Host, is_pad}
use Rattle.user_nodes.specs.Questions.{node_shows, node_room_to_say}
use Rattle.net_events.specs.NodeEvents.{Says}
use Rattle.net_events.specs.Network.{PlacedNode, Network}
use Rattle.net_events.specs.declared.event.StepFault.TheVariants.{NoSuchNode, NoSuchCall}
use Rattle.node_events.specs.Outcomes.{event_fault, channel_fault_of}
use Rattle.net_nodes.specs.Faults.{refused, is_channel_at, at_node, on_channel}
use Rattle.net_nodes.specs.Places.{user_at}
use Rattle.net_nodes.specs.Questions.{net_shows, net_room_to_say, room_to_say_at, say_fault, MaySay, PrintsNothing, PrintsNothingOf}
use Rattle.net_node.specs.Node.{is_host}
use Rattle.net_node.specs.Questions.{shows_by}

nothing_of : (terminal : ℕ) (n : NodeState) → node_shows n terminal ≡ false → PrintsNothingOf terminal n
nothing_of terminal (Pad p) nothing = shows_nothing terminal p nothing
nothing_of terminal (Host e) nothing = tt

pub prints_nothing : (node terminal : ℕ) (s : Network) → net_shows node terminal s ≡ false → PrintsNothing node terminal s
prints_nothing node terminal s nothing =
    λ n there. nothing_of terminal n.node (ap (shows_by terminal) (sym there) ∙ nothing)

-- at a node, whose line has the channel or not
said_of : (channel : ℕ) (octets : List ℕ) (delivery here : Bool) (node : NodeState) → 1 ≤ length octets
    → length octets ≤ (if here then node_room_to_say node channel else 0)
    → (if not (is_pad node)
    then (if here then refused (event_fault (Says channel octets false delivery) node) else Some NoSuchCall)
    else Some NoSuchNode) ≡ None
said_of channel octets delivery false node some within = absurd (omega arith)
said_of channel octets delivery true (Pad p) some within = absurd (omega arith)
said_of channel octets delivery true (Host e) some within =
    ap (λ refusal. refused (channel_fault_of refusal)) (sayable e.layer channel octets some within)

said_at : (channel : ℕ) (s : Network) (octets : List ℕ) (delivery : Bool) (o : Option PlacedNode) (node : ℕ)
    → user_at node s ≡ o → 1 ≤ length octets → length octets ≤ room_to_say_at channel s o
    → say_fault node channel octets false delivery s ≡ None
said_at channel s octets delivery None node is some within = absurd (omega arith)
said_at channel s octets delivery (Some n) node is some within =
    subst (λ (o : Option PlacedNode).
    (if is_host o
    then at_node o (λ m. on_channel channel s m (refused (event_fault (Says channel octets false delivery) m.node)))
    else Some NoSuchNode) ≡ None)
    (sym is) (said_of channel octets delivery (is_channel_at n.line channel s) n.node some within)

pub may_say : (node channel room : ℕ) (s : Network) → room ≡ net_room_to_say node channel s → MaySay node channel room s
may_say node channel room s exact = λ octets delivery some within.
    said_at channel s octets delivery (user_at node s) node refl some (omega (arith, exact, within))
