-- What events bring to the PADs of a network: each makes the course of one PAD go on at most, and no other.
use Rattle.std.specs.Prelude.{◌≡◌, ◌≢◌, ℕ, ◌<◌, ◌==◌, ◌&&◌, if◌then◌else◌, List, [], ◌∷◌, ◌++◌, slice_get, Option, Some, None}
use Rattle.std.specs.Prelude.{Result, Err}
use Rattle.link_timers.specs.declared.role.Role.{Role}
use Rattle.link_timers.specs.declared.role.Role.TheVariants.{Dte, Dce}
use Rattle.link_timers.specs.declared.timers.TimerId.TheVariants.{Idle as idle_timer}
use Rattle.lapb.specs.Machine.{Octets}
use Rattle.call_records.specs.Records.{RecordValue}
use Rattle.x25_pad.specs.declared.config.PadConfig.{PadConfig}
use Rattle.node_laws.specs.Pads.Sending.{HasSaid}
use Rattle.record_laws.specs.Words.{HasTyped}
use Rattle.node_laws.specs.Pads.Happening.{PadEvent, HasKey, HasBreak, HasIdleTime, HasPrinting, HasFrame, HasExpiry}
use Rattle.node_laws.specs.Pads.Happening.{HasLeaving, HasArrival, HasTicks}
use Rattle.node_laws.specs.Pads.Typed.{AreTyped}
use Rattle.user_nodes.specs.declared.terminal.TerminalEvent.{TerminalEvent}
use Rattle.user_nodes.specs.declared.terminal.TerminalEvent.TheVariants.{Key, Break, Idle, Print, Leaves, Arrives}
use Rattle.frame_lines.specs.declared.line.Direction.{Direction}
use Rattle.frame_lines.specs.Lines.{flying, LineService, memory_service}
use Rattle.net_config.specs.declared.config.Config.{Config}
use Rattle.net_config.specs.Plan.{plan_of}
use Rattle.net_events.specs.NodeEvents.{NodeEvent, Expires, Relinks, Restarts}
use Rattle.net_events.specs.NodeEvents as node_event
use Rattle.net_events.specs.Network.{NetLine, Network, place_at}
use Rattle.net_events.specs.declared.answer.Answer.{Answer}
use Rattle.net_events.specs.declared.event.Event.{Event}
use Rattle.net_events.specs.declared.event.Event.TheVariants.{AtTerminal, Deliver, Expire, Relink, GivesUp, Restart}
use Rattle.net_events.specs.declared.event.StepFault.{StepFault}
use Rattle.net_events.specs.declared.event.StepFault.TheVariants.{OutOfMemory}
use Rattle.net_nodes.specs.Faults.{step_fault}
use Rattle.net_nodes.specs.Steps.{hearer}
use Rattle.network_laws.specs.Courses.{HasCourse, IsPlannedPad, brought_by}
use Rattle.line_sim.specs.Runs.{Ran, HasRun}

-- ---- what an event brings to the PAD of a place

-- what happens at the node of another place is nothing to it
abbrev pub brought_at : (place at : ℕ) → NodeEvent → List PadEvent
brought_at place at event = if at == place then brought_by event else []

-- the first frame in flight, if there is one
abbrev pub first_frame : List Octets → List PadEvent
first_frame [] = []
first_frame (octets ∷ others) = HasFrame octets ∷ []

-- if the node of the place hears what is sent on the line in this direction
abbrev pub brought_on : (place : ℕ) → Direction → Option NetLine → List PadEvent
brought_on place d None = []
brought_on place d (Some l) = if place_at (hearer d) l == place then first_frame (flying d l.flights) else []

-- the node at this end of a line gives its link up
abbrev pub brought_to_end : Role → (place : ℕ) → Option NetLine → List PadEvent
brought_to_end role place None = []
brought_to_end role place (Some l) = brought_at place (place_at role l) Relinks

-- if it is not refused: a key, a break, the end of an idle time and printing at a terminal, a terminal that leaves or
-- arrives, the first frame in flight with its octets, an expiry of a timer, a link that is given up, and a restart. A
-- host is asked, and a frame is lost
abbrev pub reaches : (place : ℕ) → Event → Network → List PadEvent
reaches place (AtTerminal node terminal event) s = brought_at place node (node_event.AtTerminal terminal event)
reaches place (Deliver line direction) s = brought_on place direction (slice_get s.lines line)
reaches place (Expire node line timer) s = brought_at place node (Expires timer)
reaches place (Relink line) s = brought_to_end Dte place (slice_get s.lines line)
reaches place (GivesUp line) s = brought_to_end Dce place (slice_get s.lines line)
reaches place (Restart node) s = brought_at place node Restarts
reaches place _ s = []

-- a refused event brings nothing
abbrev pub unless_fault : Option StepFault → List PadEvent → List PadEvent
unless_fault None events = events
unless_fault (Some fault) events = []

abbrev pub brought : (place : ℕ) → Event → Network → List PadEvent
brought place e s = unless_fault (step_fault e s) (reaches place e s)

-- ---- the courses of a network

-- each PAD has the course of no event
abbrev pub HaveNoEvent : Config → Network → Type 0
HaveNoEvent config s = (c : PadConfig) (line place : ℕ) → IsPlannedPad c (plan_of config) line place
    → HasCourse c line place [] s

-- each course that a PAD has goes on by what the event brings to it
abbrev pub CoursesLead : Event → Network → Network → Type 0
CoursesLead e s t = (c : PadConfig) (line place : ℕ) (events : List PadEvent) → HasCourse c line place events s
    → HasCourse c line place (events ++ brought place e s) t

-- on faithful lines, where memory is not wanting
abbrev pub CoursesGoOn : LineService → Event → Network → Result Answer StepFault → Network → Type 0
CoursesGoOn L e s r t = L.faithful → r ≢ Err OutOfMemory → CoursesLead e s t

-- each goes on by the ticks that pass
abbrev pub CoursesPass : (ticks : ℕ) → Network → Network → Type 0
CoursesPass ticks s t = (c : PadConfig) (line place : ℕ) (events : List PadEvent) → HasCourse c line place events s
    → HasCourse c line place (events ++ HasTicks ticks ∷ []) t

-- ---- a run

-- what each event of a run brings, one after the other
abbrev pub all_brought : (place : ℕ) (L : LineService) (s : Network) (events : List Event) (t : Network)
    → Ran L s events t → List PadEvent
all_brought place L s [] t ran = []
all_brought place L s (e ∷ es) t ran = brought place e s ++ all_brought place L ran.0 es t ran.2

-- the keys, breaks, ends of an idle time, printing, leaving and arriving that a course has at a terminal, in order
abbrev pub had_in : (terminal : ℕ) → PadEvent → List TerminalEvent
had_in terminal (HasKey number octet) = if number == terminal then Key octet ∷ [] else []
had_in terminal (HasBreak number) = if number == terminal then Break ∷ [] else []
had_in terminal (HasIdleTime number) = if number == terminal then Idle ∷ [] else []
had_in terminal (HasPrinting number) = if number == terminal then Print ∷ [] else []
had_in terminal (HasLeaving number) = if number == terminal then Leaves ∷ [] else []
had_in terminal (HasArrival number) = if number == terminal then Arrives ∷ [] else []
had_in terminal (HasExpiry (idle_timer number)) = if number == terminal then Idle ∷ [] else []
had_in terminal _ = []

abbrev pub had_at : (terminal : ℕ) → List PadEvent → List TerminalEvent
had_at terminal [] = []
had_at terminal (e ∷ es) = had_in terminal e ++ had_at terminal es

-- those that a list of events has at a terminal of the PAD of this place on this line; its idle timer may be let expire
-- too
abbrev pub given_in : (line place terminal : ℕ) → Event → List TerminalEvent
given_in line place terminal (AtTerminal node number event) =
    if node == place && number == terminal then event ∷ [] else []
given_in line place terminal (Expire node at (idle_timer number)) =
    if node == place && line == at && number == terminal then Idle ∷ [] else []
given_in line place terminal _ = []

abbrev pub given_to : (line place terminal : ℕ) → List Event → List TerminalEvent
given_to line place terminal [] = []
given_to line place terminal (e ∷ es) = given_in line place terminal e ++ given_to line place terminal es

-- the course of a PAD is what the events brought to it: at each of its terminals it has the keys, breaks, ends of an
-- idle time, printing, leaving and arriving that were given, in order; each record of the PAD has sent what was typed,
-- and of itself what its occasions in this course ask for; and its steps are the keys and the ends of idle times that
-- this course typed on its call, all of them and no other, in order and at one terminal
pub record PadHasRun (c : PadConfig) (line place : ℕ) (events : List Event) (course : List PadEvent)
    (net : Network) : Type 0 where
  pub led : HasCourse c line place course net
  pub given : (terminal : ℕ) → terminal < c.terminals → had_at terminal course ≡ given_to line place terminal events
  pub sent : (i : ℕ) (r : RecordValue) → slice_get net.register.records i ≡ Some r → r.node ≡ place
      → HasTyped r × HasSaid (led.course.occasions i) r
  pub typed : AreTyped Dte c course led.course led.led net.register.records place

-- it is so of each PAD over one run
pub record PadsHaveRun (config : Config) (events : List Event) (net : Network) : Type 0 where
  pub run : HasRun config events net
  pub pads : (c : PadConfig) (line place : ℕ) → IsPlannedPad c (plan_of config) line place
      → PadHasRun c line place events (all_brought place memory_service run.start events net run.ran) net
