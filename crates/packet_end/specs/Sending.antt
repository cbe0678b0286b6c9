-- What an end of a line sends in an event: the frames of its steps, all of them.
use Rattle.std.specs.Prelude.{◌≡◌, ◌≤◌, if◌then◌else◌, List, [], ◌++◌, map, length}
use Rattle.link_timers.specs.declared.timers.TimerId.{TimerId}
use Rattle.link_timers.specs.declared.timers.TimerId.TheVariants.{T1}
use Rattle.frame_codec.specs.Spelling.{spelling}
use Rattle.lapb.specs.Machine as link
use Rattle.lapb.specs.Machine.{Octets, Link, Step}
use Rattle.lapb.specs.Octets.{on_octets}
use Rattle.packet_end.specs.PacketEnd.{PacketEnd, runs_at, relinked_if_due, all_offered}

-- the octets of the frames that a link sends in a step
abbrev pub sent_by : Link → Step → List Octets
sent_by l step = map (spelling l.role) step.frames

-- where a frame comes, where a timer expires, if it runs, and where the link is set up anew
abbrev pub answer_frames : PacketEnd → Octets → List Octets
answer_frames e octets = sent_by e.line.link (on_octets e.line.link octets)

abbrev pub expiry_frames : TimerId → PacketEnd → List Octets
expiry_frames T1 e = sent_by e.line.link (link.on_t1 e.line.link)
expiry_frames id e = []

abbrev pub timer_frames : PacketEnd → TimerId → List Octets
timer_frames e id = if runs_at e id then expiry_frames id e else []

abbrev pub relink_frames : PacketEnd → List Octets
relink_frames e = sent_by e.line.link (link.relink e.line.link)

-- where the end settles: the I frames that may go, or the acknowledgement that is owed
abbrev pub last_frames : PacketEnd → List Octets
last_frames e = sent_by e.line.link (link.settle e.line.link)

-- where an event of a node with one line ends: a relink, if it is due, and then these
abbrev pub ending_frames : PacketEnd → List Octets
ending_frames e = (if e.layer.relink then relink_frames e else []) ++ last_frames (all_offered (relinked_if_due e))

-- an event with one frame or none so far ends, and none of its frames is lost
abbrev pub EndsWhole : (old new : PacketEnd) → Type 0
EndsWhole old new = length old.line.frames ≤ 1 → new.line.frames ≡ old.line.frames ++ ending_frames old
