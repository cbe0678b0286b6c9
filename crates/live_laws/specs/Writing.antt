-- What an event writes into a register, it writes into any other one too, and nothing else depends on the register.
use Rattle.std.specs.Prelude.{◌≡◌, length, Result}
use Rattle.link_timers.specs.declared.role.Role.{Role}
use Rattle.call_records.specs.Book.{Book}
use Rattle.call_records.specs.Register.{Register}
use Rattle.user_nodes.specs.Node.{NodeState}
use Rattle.user_nodes.specs.Turn.{Turn}
use Rattle.frame_lines.specs.Lines.{LineService}
use Rattle.net_events.specs.NodeEvents.{NodeEvent, turn_of}
use Rattle.net_events.specs.Network.{Network}
use Rattle.net_events.specs.declared.answer.Answer.{Answer}
use Rattle.net_events.specs.declared.event.Event.{Event}
use Rattle.net_events.specs.declared.event.StepFault.{StepFault}
use Rattle.net_nodes.specs.Happening.{Happens}
use Rattle.live_laws.specs.Registers.{on}

-- two turns leave the node alike and tell its users the same
pub record AreAlike (x y : Turn) : Type 0 where
  pub node : x.node ≡ y.node
  pub notes : x.notes ≡ y.notes

-- the turns of a node at an event are alike, whatever the book of the line has
abbrev pub TurnsAreAlike : Type 0
TurnsAreAlike = (event : NodeEvent) (role : Role) (n : NodeState) (b c : Book) → AreAlike (turn_of event role n b)
    (turn_of event role n c)

-- what the event writes: with any register in place of the network's own, the same nodes and lines are left and the
-- same is answered or refused, and this is written into that register
pub record WritesSo (L : LineService) (e : Event) (s : Network) (r : Result Answer StepFault) (t : Network)
    : Type 0 where
  pub write : Register → Register
  pub here : t.register ≡ write s.register
  pub lines : (g : Register) → length (write g).lines ≡ length g.lines
  pub happens : (g : Register) → Happens L e (on g s) r (on (write g) t)

abbrev pub HappensWithAnyRegister : LineService → Type 0
HappensWithAnyRegister L = (e : Event) (s : Network) (r : Result Answer StepFault) (t : Network) → Happens L e s r t
    → WritesSo L e s r t
