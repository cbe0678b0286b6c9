-- An expiry at a switch of a timer that does not run leaves the network as it was.
use Rattle.std.specs.Prelude.{◌≡◌, ℕ, false, slice_get}
use Rattle.link_timers.specs.declared.timers.TimerId.{TimerId}
use Rattle.frame_lines.specs.Lines.{LineService}
use Rattle.switch_lines.specs.Switch.{timer_runs}
use Rattle.net_events.specs.AtSwitch.{SwitchHappened, Expires}
use Rattle.net_events.specs.Network.{Network}
use Rattle.network_laws.specs.Switched.IsSwitched.{IsAny}

-- nodes and register are as before, and on faithful lines all is
pub record IsAsBefore (L : LineService) (s t : Network) : Type 0 where
  pub nodes : t.nodes ≡ s.nodes
  pub register : t.register ≡ s.register
  pub whole : L.faithful → t ≡ s

abbrev pub IdleExpiryLaw : LineService → Type 0
IdleExpiryLaw L = (own : ℕ) (id : TimerId) (place : ℕ) (s t : Network) → IsAny L s
    → (happened : SwitchHappened L (Expires own id) place s t)
    → timer_runs (slice_get happened.node.switch.lines own) id ≡ false → IsAsBefore L s t
