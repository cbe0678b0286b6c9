-- The steps of an act at an end of a line: what it makes of the world of its links and of the line of its layers.
use Rattle.std.specs.Prelude.{◌≡◌, ℕ, ◌≤◌, List, [], ◌∷◌, ◌++◌}
use Rattle.link_timers.specs.declared.role.Role.{Role}
use Rattle.link_timers.specs.Role.{other_of}
use Rattle.lapb.specs.Machine.{Octets}
use Rattle.lapb.specs.World.{World}
use Rattle.data_transfer.specs.Packets.{Note}
use Rattle.packet_laws.specs.LayerLine as layers
use Rattle.packet_laws.specs.LayerLine.{Event}
use Rattle.packet_end.specs.PacketEnd.{PacketEnd}
use Rattle.node_laws.specs.Lines.NodeLine.{Act, Begins, Restarts, does, other_after, going_after, coming_after}
use Rattle.node_laws.specs.Lines.Events.{events_of, after_here, notes_of}
use Rattle.node_laws.specs.Lines.Joint.{JointAt, session_of, coming_session}

-- the session in which an end came up last, after these events
abbrev pub session_after : List Event → ℕ → ℕ
session_after [] s = s
session_after (Event.Up n ∷ events) s = session_after events n
session_after (event ∷ events) s = session_after events s

-- an end that came up last in session `mine` comes up neither in session 0 nor in an earlier one; and a packet arrives
-- at it only where the other one came up last in that session or before
abbrev pub Rise : List Event → (mine yours : ℕ) → Type 0
Rise [] mine yours = Unit {0}
Rise (Event.Up n ∷ events) mine yours = (1 ≤ n) × (mine ≤ n) × Rise events n yours
Rise (Event.Arrives ∷ events) mine yours = (yours ≤ mine) × Rise events mine yours
Rise (event ∷ events) mine yours = Rise events mine yours

-- the notes of the end are those that it had and those that the events give; where an event of the node begins, and
-- after a restart, there are none
abbrev pub AreNotes : Act → (before given after : List Note) → Type 0
AreNotes Begins before given after = after ≡ []
AreNotes Restarts before given after = after ≡ []
AreNotes act before given after = after ≡ before ++ given

-- the events of an act at the end of this role, in this world
abbrev pub events_at : Role → World → Act → (coming : List Octets) → PacketEnd → List Event
events_at role w act coming me = events_of (coming_session role w) act coming me

-- the act of an end of this role, in step with a world of links and a line of layers: both go on in step with it, the
-- layers by the events of the act
pub record Step (role : Role) (act : Act) (w : World) (v : layers.Line) (me you : PacketEnd)
    (going coming : List Octets) : Type 0 where
  pub world : World
  pub joint : JointAt role world (after_here (events_at role w act coming me) v)
      (does act coming me) (other_after act you) (going_after act me going) (coming_after act coming)
  pub notes : AreNotes act me.notes (notes_of (events_at role w act coming me) v) (does act coming me).notes
  pub rises : Rise (events_at role w act coming me) (session_of role w) (session_of (other_of role) w)
  pub mine : session_of role world ≡ session_after (events_at role w act coming me) (session_of role w)
  pub yours : session_of (other_of role) world ≡ session_of (other_of role) w
