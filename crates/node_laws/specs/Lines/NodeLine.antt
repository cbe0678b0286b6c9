-- A line with both its ends: each a link with its packet layer, the octets on the way, and what may happen on it.
use Rattle.std.specs.Prelude.{◌≡◌, ℕ, Bool, List, [], ◌∷◌, ◌++◌, drop}
use Rattle.link_timers.specs.declared.role.Role.{Role}
use Rattle.link_timers.specs.declared.role.Role.TheVariants.{Dte, Dce}
use Rattle.link_timers.specs.declared.timers.TimerId.{TimerId}
use Rattle.lapb.specs.Machine.{Octets}
use Rattle.lapb.specs.LinkLine.{chosen}
use Rattle.line_end.specs.End.{without_frames}
use Rattle.data_transfer.specs.Packets.{CallParts}
use Rattle.packet_channel.specs.Channel.{Request}
use Rattle.packet_end.specs.PacketEnd as end
use Rattle.packet_end.specs.PacketEnd.{PacketEnd}
use Rattle.packet_end.specs.declared.params.EndParams.{EndParams}

pub record Line : Type 0 where
  pub dte : PacketEnd
  pub dce : PacketEnd
  pub up : List Octets  -- the frames on the way to the DCE, the oldest first
  pub down : List Octets  -- on the way to the DTE

-- What an end does, or what comes to it.
pub data Act : Type 0 where
  -- an event of its node begins: the frames and notes of the last one that were not taken are dropped
  Begins : Act
  -- the first frame on the way to it arrives
  Hears : Act
  Expires : TimerId → Act
  -- the link is set up anew: as the node is told, or where the layer asks for it
  Relinks : Act
  RelinksIfDue : Act
  -- the node restarts: all frames on the line are lost
  Restarts : Act
  Calls : CallParts → Act
  Requests : (channel : ℕ) → Request → Act
  -- packets go from the layer to the link; then timers are brought up to date, and the link sends what may go
  Offers : Act
  Settles : Act
  Elapses : (ticks : ℕ) → Act
  -- the frames that wait at the end go onto the line, in order; those that `kept` drops are lost
  Sends : (kept : List Bool) → Act

pub data Event : Type 0 where
  At : Role → Act → Event
  -- the first frame on the way to an end is lost
  Loses : (to : Role) → Event

-- ---- what an act makes of its end, of the other one and of the frames on the way

abbrev pub heard_first : List Octets → PacketEnd → PacketEnd
heard_first [] e = e
heard_first (frame ∷ frames) e = end.received e frame

abbrev pub does : Act → (coming : List Octets) → PacketEnd → PacketEnd
does Begins coming e = end.begun e
does Hears coming e = heard_first coming e
does (Expires id) coming e = end.after_timer e id
does Relinks coming e = end.relinked e
does RelinksIfDue coming e = end.relinked_if_due e
does Restarts coming e = end.restarted e
does (Calls parts) coming e = end.called e parts
does (Requests channel r) coming e = end.asked e channel r
does Offers coming e = end.all_offered e
does Settles coming e = end.settled e
does (Elapses ticks) coming e = end.elapsed e ticks
does (Sends kept) coming e = record e { line = without_frames e.line }

-- a restart loses what waits at the other end, too: it is on the line already
abbrev pub other_after : Act → PacketEnd → PacketEnd
other_after Restarts e = record e { line = without_frames e.line }
other_after act e = e

-- on the way to the end
abbrev pub coming_after : Act → List Octets → List Octets
coming_after Hears frames = drop 1 frames
coming_after Restarts frames = []
coming_after act frames = frames

-- on the way from it
abbrev pub going_after : Act → PacketEnd → List Octets → List Octets
going_after (Sends kept) e frames = frames ++ chosen kept e.line.frames
going_after Restarts e frames = []
going_after act e frames = frames

abbrev pub happens : Event → Line → Line
happens (At Dte act) l = record {
  dte = does act l.down l.dte;
  dce = other_after act l.dce;
  up = going_after act l.dte l.up;
  down = coming_after act l.down;
}
happens (At Dce act) l = record {
  dte = other_after act l.dte;
  dce = does act l.up l.dce;
  up = coming_after act l.up;
  down = going_after act l.dce l.down;
}
happens (Loses Dte) l = record l { down = drop 1 l.down }
happens (Loses Dce) l = record l { up = drop 1 l.up }

abbrev pub after : List Event → Line → Line
after [] l = l
after (event ∷ events) l = after events (happens event l)

-- the ends are made for the same line: with as many channels, the same flow control of each, and standing or not
pub record AreAlike (dte dce : EndParams) : Type 0 where
  pub channels : dce.channels ≡ dte.channels
  pub flow : dce.flow ≡ dte.flow
  pub standing : dce.standing ≡ dte.standing

-- both ends are made, and nothing is on the way
abbrev pub made : (dte dce : EndParams) → Line
made dte dce = record { dte = end.made Dte dte; dce = end.made Dce dce; up = []; down = [] }
