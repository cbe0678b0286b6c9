-- What is due at a PAD comes to an end.
use Rattle.std.specs.Prelude.{◌≡◌, ℕ, ◌+◌, ◌<◌, if◌then◌else◌, List, [], ◌∷◌, Some}
use Rattle.link_timers.specs.declared.timers.TimerId.{TimerId}
use Rattle.node_laws.specs.LineRecords.Due as end
use Rattle.pad_ports.specs.Ports as port
use Rattle.pad_ports.specs.Ports.{PortState}
use Rattle.x25_pad.specs.Pad.{PadState, due, after_timer}
use Rattle.node_laws.specs.Pads.Standing.{drained}

-- how many idle timers run with no tick left, and how many timers of the PAD
abbrev pub idle_count : List PortState → ℕ
idle_count [] = 0
idle_count (q ∷ ports) = (if port.is_due q then 1 else 0) + idle_count ports

abbrev pub due_count : PadState → ℕ
due_count p = end.due_count p.line.end + idle_count p.ports

-- where the timer that is due expires, fewer are due than before: it is stopped, and what is started has ticks left
abbrev pub ExpiryLaw : Type 0
ExpiryLaw = (p : PadState) (id : TimerId) → due p ≡ Some id → due_count (drained (after_timer p id)) < due_count p
