-- What a PAD sends in an event: the frames of its steps, all of them, in order.
use Rattle.std.specs.Prelude.{ℕ, List, ◌++◌}
use Rattle.link_timers.specs.declared.timers.TimerId.{TimerId}
use Rattle.link_timers.specs.declared.timers.TimerId.TheVariants.{Idle}
use Rattle.packet_end.specs.PacketEnd.{Octets}
use Rattle.packet_end.specs.Sending.{answer_frames, expiry_frames, relink_frames, ending_frames}
use Rattle.pad_ports.specs.Ports.{AtLine, after_idle}
use Rattle.x25_pad.specs.Pad.{PadState, begun, at_port, heeded, with_frame, with_relink, with_expiry}

-- a frame comes: its answer, and those of the event's end
abbrev pub frames_on_frame : PadState → Octets → List Octets
frames_on_frame p octets = answer_frames p.line.end octets ++ ending_frames (heeded (with_frame p octets)).line.end

-- the link is set up anew
abbrev pub frames_on_relink : PadState → List Octets
frames_on_relink p = relink_frames p.line.end ++ ending_frames (heeded (with_relink p)).line.end

-- something happens at a terminal
abbrev pub frames_at_terminal : (number : ℕ) → (AtLine → AtLine) → PadState → List Octets
frames_at_terminal number act p = ending_frames (at_port number act (begun p)).line.end

-- a timer that runs expires
abbrev pub frames_on_timer : PadState → TimerId → List Octets
frames_on_timer p (Idle number) = frames_at_terminal number after_idle p
frames_on_timer p id = expiry_frames id p.line.end ++ ending_frames (heeded (with_expiry p id)).line.end
