-- Which ports the end of an event leaves as they are.
use Rattle.std.specs.Prelude.{◌≡◌, false, is_some}
use Rattle.pad_terminal.specs.Terminal.{idle_time}
use Rattle.pad_ports.specs.Ports.{PortState}

-- a port is settled: its terminal was not told to stop, and its idle timer runs exactly if the terminal wants it
pub record IsSettled (p : PortState) : Type 0 where
  pub going : p.terminal.device_stopped ≡ false
  pub timer : is_some p.idle_left ≡ is_some (idle_time p.terminal)
