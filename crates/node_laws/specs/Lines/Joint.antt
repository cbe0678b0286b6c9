-- How a line with both its ends is tied to its two models: a world of two links, with the sessions and their lists, and
-- a line of two packet layers.
use Rattle.std.specs.Prelude.{◌≡◌, ℕ, Bool, true, false, List, [], ◌∷◌, ◌++◌, length, Option, Some, None}
use Rattle.link_timers.specs.declared.role.Role.{Role}
use Rattle.link_timers.specs.declared.role.Role.TheVariants.{Dte, Dce}
use Rattle.link_timers.specs.Role.{other_of}
use Rattle.lapb.specs.Machine.{Octets, Link, is_up}
use Rattle.lapb.specs.World.{Sent, World}
use Rattle.lapb.specs.LinkLine.{StandsIn}
use Rattle.data_transfer.specs.declared.flow.Flow.{Flow}
use Rattle.data_transfer.specs.Packets.{Packet}
use Rattle.data_transfer.specs.Packets.Received.{Whole}
use Rattle.data_transfer.specs.Octets.{heard}
use Rattle.packet_layer.specs.Layer.{Layer, unread}
use Rattle.packet_laws.specs.LayerLine.{End, Happening}
use Rattle.packet_laws.specs.LayerLine as layers
use Rattle.packet_end.specs.PacketEnd.{PacketEnd}
use Rattle.packet_end.specs.Params.{info_of}
use Rattle.node_laws.specs.Lines.NodeLine.{Line}
use Rattle.packet_laws.specs.Readable.{IsReadable}

-- ---- one end

-- an end of a link: whether it is up, the session in which it came up last, and by session what was offered at it and
-- what it accepted
pub record Side : Type 0 where
  pub up : Bool
  pub session : ℕ
  pub offered : ℕ → List Octets
  pub accepted : ℕ → List Octets

abbrev pub session_of : Role → World → ℕ
session_of Dte w = w.own
session_of Dce w = w.session

abbrev pub offered_of : Role → World → ℕ → List Octets
offered_of Dte w = w.dte_offered
offered_of Dce w = w.dce_offered

abbrev pub accepted_of : Role → World → ℕ → List Octets
accepted_of Dte w = w.dte_accepted
accepted_of Dce w = w.dce_accepted

abbrev pub side : Role → World → Link → Side
side role w l = record {
  up = is_up l.phase;
  session = session_of role w;
  offered = offered_of role w;
  accepted = accepted_of role w;
}

-- the act in which the first frame was sent
abbrev pub first_act : List Sent → ℕ
first_act [] = 0
first_act (s ∷ rest) = s.act

-- the session in which an end comes up, if it does so by its next act
abbrev pub coming_session : Role → World → ℕ
coming_session Dte w = w.act
coming_session Dce w = first_act w.up

abbrev pub session_now : (up : Bool) → ℕ → Option ℕ
session_now true session = Some session
session_now false session = None

-- the packets are, one by one, heard in the octets, on a line with this flow control
abbrev pub AreHeard : Flow → List Octets → List Packet → Type 0
AreHeard flow [] [] = Unit {0}
AreHeard flow (octets ∷ more) (packet ∷ packets) =
    (heard flow octets ≡ Some (Whole packet)) × AreHeard flow more packets
AreHeard flow _ _ = ⊥

-- an end of two packet layers is that of a link with this layer, but for notes that it has not read, of which this one
-- has none
pub record Follows (x : Side) (l : Layer) (a : End) : Type 0 where
  pub session : a.session ≡ session_now x.up x.session
  pub offered : (s : ℕ) → AreHeard l.flow (x.offered s) (a.offered s)
  pub accepted : (s : ℕ) → a.accepted s ≡ length (x.accepted s)
  pub layer : unread a.layer ≡ l

-- ---- both ends

-- the links and the octets on the way from the end of this role and to it are those of the world
abbrev pub Stands : Role → World → (mine yours : Link) → (going coming : List Octets) → Type 0
Stands Dte w mine yours going coming = StandsIn w mine yours going coming
Stands Dce w mine yours going coming = StandsIn w yours mine coming going

-- what the tie reads of an end: its link, the frames that wait, its layer
pub record Part : Type 0 where
  pub link : Link
  pub waiting : List Octets
  pub layer : Layer

abbrev pub part_of : PacketEnd → Part
part_of e = record { link = e.line.link; waiting = e.line.frames; layer = e.layer }

-- as the end of a role sees it: the frames that wait at an end come after those on the way from it, and both ends have
-- the same flow control, and at either end links that carry the longest packets that it allows
pub record JointOf (role : Role) (w : World) (v : layers.Line) (me you : Part) (going coming : List Octets) : Type 0
  where
    pub stands : Stands role w me.link you.link (going ++ me.waiting) (coming ++ you.waiting)
    pub mine : Follows (side role w me.link) me.layer v.me
    pub yours : Follows (side (other_of role) w you.link) you.layer v.you
    pub readable_here : IsReadable me.layer
    pub readable_there : IsReadable you.layer
    pub same_flow : you.layer.flow ≡ me.layer.flow
    pub info : you.link.info ≡ info_of you.layer.flow

abbrev pub JointAt : Role → World → layers.Line → (me you : PacketEnd) → (going coming : List Octets) → Type 0
JointAt role w v me you going coming = JointOf role w v (part_of me) (part_of you) going coming

-- a line, a world of its links and a line of its layers, the DTE's at `me`
abbrev pub Joint : Line → World → layers.Line → Type 0
Joint l w v = JointAt Dte w v l.dte l.dce l.up l.down

-- from this start of two packet layers some happenings lead to the layers of this line, in step with its links
pub record Leads (start : layers.Line) (l : Line) : Type 0 where
  pub world : World
  pub happenings : List Happening
  pub joint : Joint l world (layers.after happenings start)
