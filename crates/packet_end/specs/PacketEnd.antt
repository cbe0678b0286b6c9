-- One end of a line with its packet layer: what each call of a node makes of the link, the layer and the timers
-- together.
use Rattle.std.specs.Prelude.{◌≡◌, ℕ, ◌<◌, zero, suc, Bool, false, cond, ◌&&◌, List, [], ◌++◌, length, drop, Option, Some}
use Rattle.std.specs.Prelude.{None, is_some, if◌then◌else◌}
use Rattle.std.specs.Option.{option_map}
use Rattle.link_timers.specs.declared.role.Role.{Role}
use Rattle.link_timers.specs.declared.timers.TimerId.{TimerId}
use Rattle.link_timers.specs.declared.timers.TimerId.TheVariants.{T1}
use Rattle.link_timers.specs.Timers.{is_due}
use Rattle.lapb.specs.declared.phase.Phase.{Phase}
use Rattle.lapb.specs.declared.note.Note as link_note
use Rattle.lapb.specs.declared.note.Note.TheVariants.{Nothing, Up, Down}
use Rattle.lapb.specs.Machine as link
pub use Rattle.lapb.specs.Machine.{Octets}
use Rattle.lapb.specs.Machine.{can_offer}
use Rattle.lapb.specs.Octets as link_octets
use Rattle.lapb.specs.Unsent.{HasSentAll}
use Rattle.line_end.specs.End.{End}
use Rattle.line_end.specs.End as line
use Rattle.data_transfer.specs.Packets.{CallParts, Note}
use Rattle.packet_channel.specs.Channel.{Request}
use Rattle.packet_layer.specs.Layer.{Layer, Next, unread, next_packet}
use Rattle.packet_layer.specs.Layer as machine
use Rattle.packet_layer.specs.Events.{on_octets, on_named, timer_named, written_packet}
use Rattle.packet_layer.specs.LayerTimers.{LayerTimers, none_running, runs_by_name, stopped_by_name, after_ticks, name_of, brought}
use Rattle.packet_layer.specs.LayerTimers.{TimersAgree}
use Rattle.packet_layer.specs.LayerTimers as timers
use Rattle.packet_layer.specs.Unsent.{LayerHasSaidAll}
use Rattle.packet_end.specs.Params.{link_params}
use Rattle.packet_end.specs.declared.params.EndParams.{EndParams}

-- the link with T1 and the frames that go out; the layer; its timers; the notes of the event, in order
pub record PacketEnd : Type 0 where
  pub line : End
  pub layer : Layer
  pub timers : LayerTimers
  pub notes : List Note

-- a layer tells its notes after those of the event so far
abbrev pub gathered : PacketEnd → PacketEnd
gathered e = record e { layer = unread e.layer; notes = e.notes ++ e.layer.notes }

-- an event begins: the frames and notes of the last one that were not taken are dropped
abbrev pub begun : PacketEnd → PacketEnd
begun e = record e { line = line.without_frames e.line; notes = [] }

-- ---- what comes from the line

-- a session of the link begins or ends: the layer learns it, and its timers stop
abbrev pub heeded : link_note.Note → PacketEnd → PacketEnd
heeded Nothing e = e
heeded Up e = gathered (record e { layer = machine.link_up e.layer; timers = none_running })
heeded Down e = gathered (record e { layer = machine.link_down e.layer; timers = none_running })

-- the packet that a frame brought, if any, comes to the layer
abbrev pub after_packet : Option Octets → PacketEnd → PacketEnd
after_packet None e = e
after_packet (Some octets) e = gathered (record e { layer = on_octets e.layer octets })

-- a frame arrives
abbrev pub received : PacketEnd → Octets → PacketEnd
received e octets =
    after_packet (link_octets.on_octets e.line.link octets).accepted
    (heeded (link_octets.on_octets e.line.link octets).note (record e { line = line.received e.line octets }))

-- ---- timers

-- T1 is the link's, the others are the layer's
abbrev pub runs_at : PacketEnd → TimerId → Bool
runs_at e T1 = is_some e.line.t1
runs_at e id = runs_by_name e.timers (timer_named e.layer.role id)

-- a timer that runs expires
abbrev pub expired : TimerId → PacketEnd → PacketEnd
expired T1 e = heeded (link.on_t1 e.line.link).note (record e { line = line.expired e.line })
expired id e = gathered (record e {
  timers = stopped_by_name e.timers (timer_named e.layer.role id);
  layer = on_named e.layer (timer_named e.layer.role id);
})

-- an expiry changes nothing where the timer does not run
abbrev pub after_timer : PacketEnd → TimerId → PacketEnd
after_timer e id = cond (runs_at e id) (expired id e) e

-- ---- the link is set up anew

-- by what the node is told: the session ends, if there is one
abbrev pub relinked : PacketEnd → PacketEnd
relinked e = gathered (record e {
  line = line.relinked e.line;
  layer = machine.link_down e.layer;
  timers = none_running;
})

-- where the layer asks for it
abbrev pub relinked_if_due : PacketEnd → PacketEnd
relinked_if_due e = cond e.layer.relink (relinked e) e

-- after a restart of the node: link and layer are as on a line that does not stand, and nothing is told
abbrev pub restarted : PacketEnd → PacketEnd
restarted e = record {
  line = line.restarted e.line;
  layer = unread (machine.link_down e.layer);
  timers = none_running;
  notes = [];
}

-- ---- the end of an event

abbrev pub with_next : PacketEnd → Next → PacketEnd
with_next e next = record e {
  line = line.offered e.line (written_packet e.layer.flow next.packet []);
  layer = next.layer;
}

-- packets go from the layer to the link, at most so many, as long as the link takes one and the layer has one
abbrev pub offered : (most : ℕ) → PacketEnd → PacketEnd
offered zero e = e
offered (suc most) e =
    cond (can_offer e.line.link)
    (cond (is_some (next_packet e.layer).packet) (offered most (with_next e (next_packet e.layer))) e)
    e

-- a link takes no more than seven
unfoldable pub all_offered : PacketEnd → PacketEnd
all_offered e = offered 7 e

-- If the link takes a packet, the layer keeps none that may go: a packet waits for the link only if this is not up, or if
-- as many packets as it may have are unacknowledged.
abbrev pub HasOfferedAll : PacketEnd → Type 0
HasOfferedAll e = e.line.link.phase ≡ Phase.Up → length e.line.link.queue < e.line.link.k → LayerHasSaidAll e.layer

-- nothing is kept back: the layer's packets are offered as far as the link takes them, and the link's are sent as far
-- as they may go
pub record KeepsNothingBack (e : PacketEnd) : Type 0 where
  pub offered : HasOfferedAll e
  pub sent : HasSentAll e.line.link

-- the timers run as the layer wants them, and the link sends what may go
abbrev pub settled : PacketEnd → PacketEnd
settled e = record e { timers = brought e.layer e.timers; line = line.settled e.line }

-- the end of an event of a node with one line
unfoldable pub finished : PacketEnd → PacketEnd
finished e = settled (all_offered (relinked_if_due e))

-- a link that settles again stays as it is, whatever frames of it were taken
abbrev pub SettlesOnce : End → Type 0
SettlesOnce e = (frames : List Octets) → line.settled (record e { frames = frames }) ≡ record e { frames = frames }

-- where an event ended and nothing happened since, to end one again changes nothing
pub record IsFinished (e : PacketEnd) : Type 0 where
  pub none_due : e.layer.relink ≡ false
  pub kept : KeepsNothingBack e
  pub timers : TimersAgree e.layer e.timers
  pub settled : SettlesOnce e.line

-- ---- the user's calls

-- what a user asks of a call
abbrev pub asked : PacketEnd → (channel : ℕ) → Request → PacketEnd
asked e channel r = record e { layer = machine.request e.layer channel r }

-- a call is placed
abbrev pub called : PacketEnd → CallParts → PacketEnd
called e parts = record e { layer = machine.call e.layer parts }

-- ---- time, frames and notes

abbrev pub elapsed : PacketEnd → (ticks : ℕ) → PacketEnd
elapsed e ticks = record e { line = line.elapsed e.line ticks; timers = after_ticks e.timers ticks }

abbrev pub either_timer : Option TimerId → Option TimerId → Option TimerId
either_timer (Some id) other = Some id
either_timer None other = other

-- the first timer with no tick left: T1 before the layer's
abbrev pub due : PacketEnd → Option TimerId
due e =
    either_timer (if is_due e.line.t1 then Some T1 else None) (option_map (name_of e.layer.role) (timers.first_due e.timers))

-- the link is at rest, and the layer has nothing to send, to tell or to hand out
abbrev pub at_rest : PacketEnd → Bool
at_rest e = link.at_rest e.line.link && machine.at_rest e.layer

abbrev pub without_first_frame : PacketEnd → PacketEnd
without_first_frame e = record e { line = line.without_first e.line }

abbrev pub without_first_note : PacketEnd → PacketEnd
without_first_note e = record e { notes = drop 1 e.notes }

-- ---- making

abbrev pub made : Role → EndParams → PacketEnd
made role p = record {
  line = line.made role (link_params p);
  layer = machine.made role p.channels p.flow p.standing;
  timers = none_running;
  notes = [];
}
