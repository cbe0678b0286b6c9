-- The law of a line with both its ends.
use Rattle.std.specs.Prelude.{◌≡◌, ℕ, ◌≤◌, List, drop}
use Rattle.link_timers.specs.declared.role.Role.{Role}
use Rattle.link_timers.specs.Role.{other_of}
use Rattle.lapb.specs.Machine.{Octets}
use Rattle.lapb.specs.World.{World}
use Rattle.packet_laws.specs.LayerLine.{Happening, start_line, turned}
use Rattle.packet_laws.specs.LayerLine as layers
use Rattle.packet_laws.specs.LayerLineLaw.{Holds, NoFault}
use Rattle.packet_end.specs.PacketEnd.{PacketEnd}
use Rattle.packet_end.specs.Params.{AreParams}
use Rattle.packet_end.specs.declared.params.EndParams.{EndParams}
use Rattle.node_laws.specs.Lines.NodeLine.{Line, Act, Event, AreAlike, made, after}
use Rattle.node_laws.specs.Lines.Fit.{IsFit, AreFit}
use Rattle.node_laws.specs.Lines.Joint.{Joint, JointAt, session_of}
use Rattle.node_laws.specs.Lines.Steps.{Step}

-- some happenings at two packet layers, made with the channels and the window of these parameters, lead to the layers
-- of this line, in step with its links, and the law of a line holds there on each channel, in each session
pub record Passes (p : EndParams) (l : Line) : Type 0 where
  pub world : World
  pub happenings : List Happening
  pub joint : Joint l world (layers.after happenings (start_line p.channels p.flow p.standing))
  pub holds : (s c : ℕ) → 1 ≤ c → c ≤ p.channels
      → Holds (layers.after happenings (start_line p.channels p.flow p.standing)) s c
  pub no_fault_at_dte : NoFault (layers.after happenings (start_line p.channels p.flow p.standing))
  pub no_fault_at_dce : NoFault (turned (layers.after happenings (start_line p.channels p.flow p.standing)))

-- whatever happens on a line whose parameters are in range and whose requests are fit
abbrev pub LineEndsLaw : Type 0
LineEndsLaw = (dte dce : EndParams) → AreParams dte → AreParams dce → AreAlike dte dce → (events : List Event)
    → AreFit events →
    Passes dte (after events (made dte dce))

-- whatever an end does, or comes to it, on a line in step with a world of links and a line of layers: these go on in
-- step with it, the layers by the events of that act, which give the notes that the end gains
abbrev pub ActLaw : Type 0
ActLaw = (role : Role) (act : Act) (w : World) (v : layers.Line) (me you : PacketEnd) (going coming : List Octets)
    → IsFit act →
    JointAt role w v me you going coming → Step role act w v me you going coming

-- and a frame that is lost changes nothing else
abbrev pub LossLaw : Type 0
LossLaw = (role : Role) (w : World) (v : layers.Line) (me you : PacketEnd) (going coming : List Octets)
    → JointAt role w v me you going coming →
    (next : World) × JointAt role next v me you going (drop 1 coming) × (session_of role next ≡ session_of role w) ×
    (session_of (other_of role) next ≡ session_of (other_of role) w)
