-- Which events of two packet layers an act at an end of a line is.
use Rattle.std.specs.Prelude.{ℕ, zero, suc, if◌then◌else◌, List, [], ◌∷◌, ◌++◌, Option, Some, None, is_some}
use Rattle.link_timers.specs.declared.timers.TimerId.{TimerId}
use Rattle.link_timers.specs.declared.timers.TimerId.TheVariants.{T1}
use Rattle.lapb.specs.declared.note.Note.{Note}
use Rattle.lapb.specs.declared.note.Note.TheVariants.{Nothing, Up, Down}
use Rattle.lapb.specs.Machine.{Octets, Step, can_offer, on_t1}
use Rattle.lapb.specs.Octets.{on_octets}
use Rattle.data_transfer.specs.Packets as packets
use Rattle.packet_layer.specs.Layer.{Timer, next_packet, unread}
use Rattle.packet_layer.specs.Events.{timer_named}
use Rattle.packet_laws.specs.LayerLine as layers
use Rattle.packet_laws.specs.LayerLine.{Event}
use Rattle.packet_end.specs.PacketEnd.{PacketEnd, runs_at, with_next}
use Rattle.node_laws.specs.Lines.NodeLine.{Act}
use Rattle.node_laws.specs.Lines.NodeLine.Act.{Begins, Hears, Expires, Relinks, RelinksIfDue, Restarts, Calls, Requests, Offers}
use Rattle.node_laws.specs.Lines.NodeLine.Act.{Settles, Elapses, Sends}

-- ---- what a step of the link is, which may begin session s, and accept a packet

abbrev pub note_events : (s : ℕ) → Note → List Event
note_events s Nothing = []
note_events s Up = Event.Up s ∷ []
note_events s Down = Event.Down ∷ []

abbrev pub packet_events : Option Octets → List Event
packet_events None = []
packet_events (Some packet) = Event.Arrives ∷ []

abbrev pub step_events : (s : ℕ) → Step → List Event
step_events s step = note_events s step.note ++ packet_events step.accepted

abbrev pub frame_events : (s : ℕ) → List Octets → PacketEnd → List Event
frame_events s [] e = []
frame_events s (frame ∷ frames) e = step_events s (on_octets e.line.link frame)

-- ---- an expiry of a timer that runs

abbrev pub timer_events : Option Timer → List Event
timer_events None = []
timer_events (Some t) = Event.Expires t ∷ []

abbrev pub expiry_events : (s : ℕ) → TimerId → PacketEnd → List Event
expiry_events s T1 e = note_events s (on_t1 e.line.link).note
expiry_events s id e = timer_events (timer_named e.layer.role id)

-- ---- as many packets as go to the link

abbrev pub offer_events : (most : ℕ) → PacketEnd → List Event
offer_events zero e = []
offer_events (suc most) e =
    if can_offer e.line.link
    then (if is_some (next_packet e.layer).packet
    then Event.Offers ∷ offer_events most (with_next e (next_packet e.layer))
    else [])
    else []

-- ---- an act, by which the link may come up in session s

abbrev pub events_of : (s : ℕ) → Act → (coming : List Octets) → PacketEnd → List Event
events_of s Begins coming e = []
events_of s Hears coming e = frame_events s coming e
events_of s (Expires id) coming e = if runs_at e id then expiry_events s id e else []
events_of s Relinks coming e = Event.Down ∷ []
events_of s RelinksIfDue coming e = if e.layer.relink then Event.Down ∷ [] else []
events_of s Restarts coming e = Event.Down ∷ []
events_of s (Calls parts) coming e = Event.Calls parts ∷ []
events_of s (Requests channel r) coming e = Event.Requests channel r ∷ []
events_of s Offers coming e = offer_events 7 e
events_of s Settles coming e = []
events_of s (Elapses ticks) coming e = []
events_of s (Sends kept) coming e = []

-- ---- what they make of the layers at `me`, and the notes that they give there

abbrev pub after_here : List Event → layers.Line → layers.Line
after_here [] v = v
after_here (event ∷ events) v = after_here events (layers.happens event v)

-- without the notes that were not read at `me`
abbrev pub cleared : layers.Line → layers.Line
cleared v = record v { me = layers.with_layer (unread v.me.layer) v.me }

abbrev pub notes_of : List Event → layers.Line → List packets.Note
notes_of [] v = []
notes_of (event ∷ events) v =
    (layers.happens event (cleared v)).me.layer.notes ++ notes_of events (layers.happens event v)
