-- How many timers of an end of a line are due.
use Rattle.std.specs.Prelude.{ℕ, ◌+◌, if◌then◌else◌}
use Rattle.link_timers.specs.Timers.{is_due}
use Rattle.packet_layer.specs.LayerTimers as layer
use Rattle.packet_end.specs.PacketEnd.{PacketEnd}

-- how many timers of an end run with no tick left: T1, and those of the packet layer
abbrev pub due_count : PacketEnd → ℕ
due_count e = (if is_due e.line.t1 then 1 else 0) + layer.due_count e.timers
