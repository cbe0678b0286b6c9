-- A host: one end of a line whose user places, answers and clears calls, and says and takes octets. Each call is one
-- event.
use Rattle.std.specs.Prelude.{ℕ, Bool, cond, not, List, [], Option, Some, None}
use Rattle.link_timers.specs.declared.timers.TimerId.{TimerId}
use Rattle.data_transfer.specs.Cutting.{cut}
use Rattle.data_transfer.specs.Packets.{CallParts}
use Rattle.data_transfer.specs.Traffic.{Taken}
use Rattle.packet_channel.specs.Channel.{Refusal, Request, refused_if}
use Rattle.packet_layer.specs.Layer.{can_accept, request_refusal, call_refusal, front_on}
use Rattle.packet_end.specs.PacketEnd.{Octets, PacketEnd, begun, finished, asked, called, received, runs_at, after_timer}
use Rattle.packet_end.specs.PacketEnd as end
use Rattle.packet_end.specs.Sending.{ending_frames}
use Rattle.packet_host.specs.Saying.{message, queued, say_refusal}

-- an event that has changed the end: it drops what was not taken of the last one, and ends
abbrev pub ended : PacketEnd → PacketEnd
ended e = finished (begun e)

-- the frames of such an event, all of them: those of its end
abbrev pub ended_frames : PacketEnd → List Octets
ended_frames e = ending_frames (begun e)

-- what is refused changes nothing
abbrev pub unless_refused : Option Refusal → (done old : PacketEnd) → PacketEnd
unless_refused None done old = done
unless_refused (Some r) done old = old

-- ---- the user's calls

-- a Call Request has neither a calling address nor facilities
abbrev pub call_parts : (address user_part : List ℕ) → CallParts
call_parts address user_part = record { called = address; calling = []; facilities = []; user_part = user_part }

abbrev pub after_call : PacketEnd → CallParts → PacketEnd
after_call e parts = unless_refused (call_refusal e.layer e.layer.phase) (ended (called e parts)) e

abbrev pub after_request : PacketEnd → (channel : ℕ) → Request → PacketEnd
after_request e channel r = unless_refused (request_refusal e.layer channel r) (ended (asked e channel r)) e

-- only a call that came in and is not answered can be refused
abbrev pub refuse_refusal : PacketEnd → (channel : ℕ) → Option Refusal
refuse_refusal e channel = refused_if (not (can_accept e.layer channel)) Refusal.NoCall None

abbrev pub after_refuse : PacketEnd → (channel : ℕ) → PacketEnd
after_refuse e channel = unless_refused (refuse_refusal e channel) (ended (asked e channel (Request.Clearing 0 0))) e

abbrev pub after_say : PacketEnd → (channel : ℕ) → List ℕ → (qualified delivery : Bool) → PacketEnd
after_say e channel octets qualified delivery =
    unless_refused (say_refusal e.layer channel octets qualified)
    (ended (queued channel (cut e.layer.flow.size (message octets qualified delivery)) e)) e

-- what is taken is released, and an interrupt is confirmed
abbrev pub let_go : Taken → (channel : ℕ) → PacketEnd → PacketEnd
let_go (Taken.TakenInterrupt octets) channel e = asked e channel Request.Confirming
let_go (Taken.TakenPacket d) channel e = asked e channel (Request.Releasing 1)

abbrev pub taken_as : Option Taken → (channel : ℕ) → PacketEnd → PacketEnd
taken_as None channel e = e
taken_as (Some x) channel e = ended (let_go x channel (asked e channel Request.Taking))

abbrev pub after_take : PacketEnd → (channel : ℕ) → PacketEnd
after_take e channel = taken_as (front_on e.layer channel) channel e

-- ---- the line

abbrev pub after_frame : PacketEnd → Octets → PacketEnd
after_frame e octets = finished (received (begun e) octets)

abbrev pub after_expiry : PacketEnd → TimerId → PacketEnd
after_expiry e id = cond (runs_at e id) (finished (after_timer (begun e) id)) e

abbrev pub after_relink : PacketEnd → PacketEnd
after_relink e = finished (end.relinked (begun e))
