-- What holds of a network between events.
use Rattle.std.specs.Prelude.{◌≡◌, length}
use Rattle.frame_lines.specs.Lines.{LineService}
use Rattle.net_events.specs.Network.{Network}
use Rattle.network_laws.specs.Switched.IsSwitched.{IsAny}

-- all that the laws of networks keep, and the register has each line
pub record IsBetweenEvents (L : LineService) (s : Network) : Type 0 where
  pub any : IsAny L s
  pub registered : length s.register.lines ≡ length s.lines
