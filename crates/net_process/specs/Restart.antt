-- When nothing is on its way on the lines of a node that starts.
use Rattle.std.specs.Prelude.{◌≡◌, ◌≢◌, ℕ, true, false, List, slice_get, Some}
use Rattle.link_timers.specs.declared.role.Role.{Role}
use Rattle.link_timers.specs.Role.{other_of}
use Rattle.frame_lines.specs.Lines.{no_flights}
use Rattle.line_carriers.specs.declared.carrier.Carrier.{Carrier}
use Rattle.line_carriers.specs.Carrier.{stands, is_open}
use Rattle.line_carriers.specs.Laws.{IsHello}
use Rattle.line_carriers.specs.CutOff.{Pair, met, Deed, after_deeds}
use Rattle.net_events.specs.declared.event.Event.TheVariants.{Restart}
use Rattle.net_events.specs.Network.{NetLine, place_at}
use Rattle.net_events.specs.OneLine.{direction_of, direction_to}
use Rattle.parted_laws.specs.Processes.{Processes, flights_at, ends_of}
use Rattle.parted_laws.specs.Events.{MayBe}
use Rattle.remote_lines.specs.Restart.{AreOut, AreBack}

-- the two ends of a connection, what was done at them since it stands, and the frames on the line between two processes
pub record HasConnection (owner : ℕ → ℕ) (p : Processes) (line : ℕ) (role : Role) (l : NetLine) : Type 0 where
  pub here : Carrier
  pub there : Carrier
  pub deeds : List Deed
  pub here_says : IsHello here.hello
  pub there_says : IsHello there.hello
  -- the connection stands at both ends, and the end here has not opened the line
  pub stands_here : stands (after_deeds (met here there) deeds).starter ≡ true
  pub stands_there : stands (after_deeds (met here there) deeds).partner ≡ true
  pub waits : (after_deeds (met here there) deeds).starter.started ≡ false
  -- the frames that the octets on the connection make, either way
  pub out : AreOut (after_deeds (met here there) deeds) here.hello (p.wires line (direction_of role))
  pub back : AreBack (after_deeds (met here there) deeds) there.hello (p.wires line (direction_to role))
  -- on a line that is not open nothing is in flight in the other process
  pub settled : is_open (after_deeds (met here there) deeds).partner ≡ false
      → flights_at line (p.parts (ends_of owner l (other_of role))) ≡ no_flights

-- it is so on each line of the node whose other end is in another process
abbrev pub HasConnections : (owner : ℕ → ℕ) → Processes → (k node : ℕ) → Type 0
HasConnections owner p k node = (line : ℕ) (l : NetLine) (role : Role) → slice_get (p.parts k).lines line ≡ Some l
    → place_at role l ≡ node → ends_of owner l (other_of role) ≢ k → HasConnection owner p line role l

-- then the node may restart
abbrev pub RestartLaw : Type 0
RestartLaw = (owner : ℕ → ℕ) (p : Processes) (k node : ℕ) → owner node ≡ k → HasConnections owner p k node
    → MayBe owner p k (Restart node)
