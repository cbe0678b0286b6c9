-- The courses of the PADs of a network are those of the network's own events: what happens at a PAD makes its course go
-- on, once and in order, and nothing else does.
use Rattle.std.specs.Prelude.{◌≡◌, ◌≢◌, ℕ, List, [], ◌∷◌, ◌++◌, length, slice_get, Option, Some, None}
use Rattle.link_timers.specs.declared.role.Role.{Role}
use Rattle.link_timers.specs.declared.role.Role.TheVariants.{Dte}
use Rattle.call_records.specs.Records.{RecordValue}
use Rattle.call_records.specs.Register.{book_at}
use Rattle.x25_pad.specs.Pad.{PadState}
use Rattle.x25_pad.specs.declared.config.PadConfig.{PadConfig}
use Rattle.user_nodes.specs.Node.{Pad}
use Rattle.frame_lines.specs.declared.line.Direction.{Direction}
use Rattle.frame_lines.specs.Lines.{LineService}
use Rattle.node_laws.specs.Pads.Sending.{HasSaid}
use Rattle.record_laws.specs.Words.{HasTyped}
use Rattle.node_laws.specs.Pads.Happening.{PadEvent, HasTicks}
use Rattle.node_laws.specs.Pads.Standing.{drained}
use Rattle.node_laws.specs.Pads.Courses.{Course}
use Rattle.node_laws.specs.Pads.EventCourses.{CourseOf}
use Rattle.node_laws.specs.Pads.Typed.{AreTyped}
use Rattle.net_config.specs.NetPlan.{NewPad, NewLine, NetPlan, PlannedUser, IsPlan}
use Rattle.net_config.specs.Plan.{StandsAlone}
use Rattle.net_events.specs.NodeEvents.{NodeEvent}
use Rattle.net_events.specs.AtSwitch.{SwitchEvent, SwitchHappened}
use Rattle.net_events.specs.Network.{PlacedNode, User, NetLine, Network, place_at, HappenedAt, LostAt, all_elapsed}
use Rattle.net_events.specs.Opening.{IsMade}
use Rattle.network_laws.specs.LineCourse.{at_pad}
use Rattle.network_laws.specs.Switched.IsSwitched.{IsAny}
use Rattle.network_laws.specs.Switched.InnerPromise.{InnerPromise}

-- the node of a place is a PAD at the DTE's end of this line, which was made so; and the course of these events leads to
-- it, once no frame and no note is left there, and to what the register has of the line
pub record HasCourse (c : PadConfig) (line place : ℕ) (events : List PadEvent) (s : Network) : Type 0 where
  pub node : PlacedNode
  pub node_there : slice_get s.nodes place ≡ Some (User node)
  pub node_line : node.line ≡ line
  pub pad : PadState
  pub is_pad : node.node ≡ Pad pad
  pub has_terminals : length pad.ports ≡ c.terminals
  pub line_is : NetLine
  pub line_there : slice_get s.lines line ≡ Some line_is
  pub is_dte : line_is.dte ≡ place
  pub course : Course
  pub led : CourseOf Dte c events course
  pub same : course.pad ≡ drained pad
  pub book : course.book ≡ book_at line s.register

-- a plan has a PAD that is made so at a place, for this line
pub record IsPlannedPad (c : PadConfig) (plan : NetPlan) (line place : ℕ) : Type 0 where
  pub there : slice_get plan.nodes place
      ≡ Some (PlannedUser (record { line = line; role = Dte; as_dte = NewPad c.params c.terminals }))
  pub line_is : NewLine
  pub line_there : slice_get plan.lines line ≡ Some line_is
  pub params : line_is.params ≡ c.line

-- what an event at a PAD adds to its course
abbrev pub one_or_none : Option PadEvent → List PadEvent
one_or_none (Some event) = event ∷ []
one_or_none None = []

abbrev pub brought_by : NodeEvent → List PadEvent
brought_by event = one_or_none (at_pad event)

-- ---- from the making on

-- a PAD of a network that is made has the course of no event
abbrev pub MadeCourse : LineService → Type 0
MadeCourse L = (plan : NetPlan) (s : Network) (c : PadConfig) (line place : ℕ) → IsPlan plan → StandsAlone plan
    → IsMade L plan s → IsPlannedPad c plan line place → HasCourse c line place [] s

-- each course of the PAD at which an event happened goes on by this event
abbrev pub OwnCourse : LineService → Type 0
OwnCourse L = L.faithful → (event : NodeEvent) (line : ℕ) (role : Role) (s t : Network) → IsAny L s
    → (happened : HappenedAt L event line role s t) → (c : PadConfig) (own place : ℕ) (events : List PadEvent)
    → place_at role happened.line_is ≡ place → HasCourse c own place events s
    → HasCourse c own place (events ++ brought_by event) t

-- each course of another PAD stays
abbrev pub OtherCourse : LineService → Type 0
OtherCourse L = L.faithful → (event : NodeEvent) (line : ℕ) (role : Role) (s t : Network) → IsAny L s
    → (happened : HappenedAt L event line role s t) → (c : PadConfig) (own place : ℕ) (events : List PadEvent)
    → place_at role happened.line_is ≢ place → HasCourse c own place events s → HasCourse c own place events t

-- so does each course over an event at a switch, and over the loss of a frame
abbrev pub SwitchCourse : LineService → Type 0
SwitchCourse L = (event : SwitchEvent) (at : ℕ) (s t : Network) → SwitchHappened L event at s t
    → (c : PadConfig) (own place : ℕ) (events : List PadEvent) → HasCourse c own place events s
    → HasCourse c own place events t

abbrev pub LossCourse : LineService → Type 0
LossCourse L = (line : ℕ) (d : Direction) (s t : Network) → LostAt L line d s t
    → (c : PadConfig) (own place : ℕ) (events : List PadEvent) → HasCourse c own place events s
    → HasCourse c own place events t

-- ticks pass at each PAD
abbrev pub TimeCourse : Type 0
TimeCourse = (s : Network) (ticks : ℕ) (c : PadConfig) (own place : ℕ) (events : List PadEvent)
    → HasCourse c own place events s → HasCourse c own place (events ++ HasTicks ticks ∷ []) (all_elapsed ticks s)

-- ---- what it says

-- each record of the PAD has sent what was typed, and of itself what its occasions in this course ask for
abbrev pub SentCourse : Type 0
SentCourse = (s : Network) → InnerPromise s → (c : PadConfig) (own place : ℕ) (events : List PadEvent)
    → (h : HasCourse c own place events s) → (i : ℕ) (r : RecordValue) → slice_get s.register.records i ≡ Some r
    → r.node ≡ place → HasTyped r × HasSaid (h.course.occasions i) r

-- and its steps are the keys and the ends of idle times that this course typed on its call, all of them and no other, in
-- order and at one terminal
abbrev pub TypedCourse : Type 0
TypedCourse = (s : Network) → InnerPromise s → (c : PadConfig) (own place : ℕ) (events : List PadEvent)
    → (h : HasCourse c own place events s) → AreTyped Dte c events h.course h.led s.register.records place
