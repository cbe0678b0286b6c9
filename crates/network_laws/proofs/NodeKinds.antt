-- What each turn of a node leaves as it was: the nodes of the book, and the kind of the node.
use Rattle.std.proofs.Common.{◌≡◌, ℕ, Bool, true, false, Option, Some, None, refl, sym, ap, ◌∙◌}
use Rattle.std.specs.Prelude.{cond}
use Rattle.link_timers.specs.declared.role.Role.{Role}
use Rattle.link_timers.specs.declared.role.Role.TheVariants.{Dte, Dce}
use Rattle.link_timers.specs.declared.timers.TimerId.{TimerId}
use Rattle.data_transfer.specs.Traffic.{Taken}
use Rattle.packet_layer.specs.Layer.{front_on}
use Rattle.packet_end.specs.PacketEnd.{PacketEnd}
use Rattle.call_records.specs.Book.{Book}
use Rattle.user_nodes.specs.Node.{NodeState, Pad, Host, end_of, is_pad}
use Rattle.user_nodes.specs.NodeEvents.{node_runs, expired}
use Rattle.user_nodes.specs.Turn.{told, unchanged}
use Rattle.user_nodes.specs.HostTurns.{host_takes, taken_turn}
use Rattle.user_nodes.specs.LineTurns.{expires}
use Rattle.net_events.specs.NodeEvents.{NodeEvent, IsFor, turn_of}
use Rattle.net_events.specs.NodeEvents.NodeEvent.{Hears, Expires, Relinks, Restarts, Calls, Asks, Refuses, Says}
use Rattle.net_events.specs.NodeEvents.NodeEvent.{Takes, AtTerminal}
use Rattle.network_laws.proofs.Shapes.{EndsStay}

-- the two books have the same nodes
pub record SameNodes (b c : Book) : Type 0 where
  pub dte : c.dte.node ≡ b.dte.node
  pub dce : c.dce.node ≡ b.dce.node

pub same : (b c : Book) → EndsStay b c → SameNodes b c
same b c h = record { dte = ap (λ (p : ℕ × ℕ). p.0) (h Dte); dce = ap (λ (p : ℕ × ℕ). p.0) (h Dce) }

-- ---- the kind of a node

expires-kind : (role : Role) (n : NodeState) (id : TimerId) (b : Book) → is_pad (told role (expired n id) b).node ≡ is_pad n
    → is_pad (expires role n id b).node ≡ is_pad n
expires-kind role n id b h = by (node_runs n id)
  where
    by : (x : Bool) → is_pad (cond x (told role (expired n id) b) (unchanged n b)).node ≡ is_pad n
    by true = h
    by false = refl

takes-kind : (role : Role) (e : PacketEnd) (channel : ℕ) (b : Book) → is_pad (host_takes role e channel b).node ≡ false
takes-kind role e channel b = by (front_on e.layer channel)
  where
    by : (o : Option Taken) → is_pad (taken_turn o role e channel b).node ≡ false
    by None = refl
    by (Some x) = refl

pub kind-after : (event : NodeEvent) (role : Role) (n : NodeState) (b : Book) → IsFor event n
    → is_pad (turn_of event role n b).node ≡ is_pad n
kind-after (Hears octets) role (Pad p) b is = refl
kind-after (Hears octets) role (Host e) b is = refl
kind-after (Expires id) role (Pad p) b is = expires-kind role (Pad p) id b refl
kind-after (Expires id) role (Host e) b is = expires-kind role (Host e) id b refl
kind-after Relinks role (Pad p) b is = refl
kind-after Relinks role (Host e) b is = refl
kind-after Restarts role (Pad p) b is = refl
kind-after Restarts role (Host e) b is = refl
kind-after (Calls address user_data) role n b is = sym is.0
kind-after (Asks channel r) role n b is = sym is
kind-after (Refuses channel) role n b is = sym is
kind-after (Says channel octets q d) role n b is = sym is
kind-after (Takes channel) role n b is = takes-kind role (end_of n) channel b ∙ sym is
kind-after (AtTerminal terminal event) role (Pad p) b is = refl
kind-after (AtTerminal terminal event) role (Host e) b is = refl
