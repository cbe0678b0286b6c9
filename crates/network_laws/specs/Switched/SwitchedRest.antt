-- When a network is at rest, with switches or without one.
use Rattle.std.specs.Prelude.{◌≡◌, ℕ, true, List, slice_get, Some}
use Rattle.switch_lines.specs.Switch.{switch_rests}
use Rattle.net_events.specs.Network.{PlacedSwitch, NetNode, Switching}
pub use Rattle.network_laws.specs.NetworkRest.{AreAtRest, MissesNothing, IsDelivered}

-- each node with users is at rest, and each switch is so on all its lines
pub record AreAllAtRest (nodes : List NetNode) : Type 0 where
  pub users : AreAtRest nodes
  pub switches : (place : ℕ) (n : PlacedSwitch) → slice_get nodes place ≡ Some (Switching n)
      → switch_rests n.switch ≡ true
