-- What a network that is at rest has, and what confirmed delivery means in a network.
use Rattle.std.proofs.Common.{◌≡◌, ℕ, zero, suc, Bool, true, false, List, [], ◌∷◌, Option, Some, None, refl, sym, ap}
use Rattle.std.proofs.Common.{◌∙◌}
use Rattle.std.specs.Prelude.{◌&&◌, slice_get}
use Rattle.std.specs.List.{list_all}
use Rattle.std.proofs.lemmas.Option.{same_Some, none-some}
use Rattle.packet_layer.specs.Layer.{confirmed}
use Rattle.user_nodes.specs.Node.{NodeState, Pad, Host, end_of, node_confirmed}
use Rattle.frame_lines.specs.Lines.{LineService}
use Rattle.net_events.specs.Network.{NetNode, User, Switching, Network}
use Rattle.net_nodes.specs.Places.{user_in}
use Rattle.net_nodes.specs.Faults.{is_channel_at}
use Rattle.net_node.specs.Node.{rests}
use Rattle.net_nodes.specs.Questions.{confirmed_at, net_confirmed, is_empty, net_rests}
use Rattle.network_laws.specs.Switched.SwitchedRest.{MissesNothing, IsDelivered, AreAllAtRest}
use Rattle.network_laws.specs.Switched.IsSwitched.{IsAny}
use Rattle.network_laws.proofs.Switched.PromiseAny.{delivered_any}
use Rattle.network_laws.proofs.Switched.RestAny.{rest_any}

both : (a b : Bool) → (a && b) ≡ true → (a ≡ true) × (b ≡ true)
both true b h = (refl, h)
both false b h = absurd (cc)

-- ---- rest

each_rests : (nodes : List NetNode) → list_all rests nodes ≡ true → (place : ℕ) (n : NetNode)
    → slice_get nodes place ≡ Some n
    → rests n ≡ true
each_rests [] h place n at = absurd (none-some n at)
each_rests (m ∷ nodes) h zero n at = ap rests (sym (same_Some m n at)) ∙ (both (rests m) (list_all rests nodes) h).0
each_rests (m ∷ nodes) h (suc place) n at = each_rests nodes (both (rests m) (list_all rests nodes) h).1 place n at

all_rest : (nodes : List NetNode) → list_all rests nodes ≡ true → AreAllAtRest nodes
all_rest nodes h = record {
  users = λ place n at. each_rests nodes h place (User n) at;
  switches = λ place n at. each_rests nodes h place (Switching n) at;
}

pub nothing_missing : (L : LineService) (s : Network) → IsAny L s → L.faithful → (result : Bool) → result ≡ net_rests s
    → result ≡ true → MissesNothing s
nothing_missing L s n f result is rests_so =
    rest_any L s n f
    (all_rest s.nodes (both (list_all is_empty s.lines) (list_all rests s.nodes) (sym is ∙ rests_so)).1)

-- ---- confirmed delivery

host_confirms : (n : NodeState) (channel : ℕ) → node_confirmed n channel ≡ true
    → confirmed (end_of n).layer channel ≡ true
host_confirms (Pad p) channel h = absurd (cc)
host_confirms (Host e) channel h = h

pub delivered : (L : LineService) (s : Network) (place channel : ℕ) → IsAny L s → L.faithful → (result : Bool)
    → result ≡ net_confirmed place channel s → result ≡ true → IsDelivered place channel s
delivered L s place channel n f result is says = by (slice_get s.nodes place) refl (sym is ∙ says)
  where
    by : (o : Option NetNode) → slice_get s.nodes place ≡ o → confirmed_at channel s (user_in o) ≡ true
        → IsDelivered place channel s
    by None at h = absurd (cc)
    by (Some (Switching m)) at h = absurd (cc)
    by (Some (User m)) at h =
        delivered_any L s n f place channel m at
        (host_confirms m.node channel (both (is_channel_at m.line channel s) (node_confirmed m.node channel) h).1)
