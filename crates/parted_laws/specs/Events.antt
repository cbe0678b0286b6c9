-- An event at a node of a process is an event of the one network.
use Rattle.std.specs.Prelude.{◌≡◌, ◌≢◌, ◌⊎◌, ℕ, List, [], slice_get, Some, Result, Ok, Err}
use Rattle.link_timers.specs.declared.role.Role.{Role}
use Rattle.link_timers.specs.declared.role.Role.TheVariants.{Dte, Dce}
use Rattle.frame_lines.specs.declared.line.Direction.{Direction}
use Rattle.frame_lines.specs.Lines.{LineService, flying, lossless_service}
use Rattle.net_events.specs.Network.{NetLine, Network, LostAt, place_at}
use Rattle.net_events.specs.declared.answer.Answer.{Answer}
use Rattle.net_events.specs.declared.event.Event.{Event}
use Rattle.net_events.specs.declared.event.Event.TheVariants.{AtTerminal, Call, Ask, Take, Deliver, Lose, Expire}
use Rattle.net_events.specs.declared.event.Event.TheVariants.{Relink, GivesUp, Restart}
use Rattle.net_events.specs.declared.event.StepFault.{StepFault}
use Rattle.net_nodes.specs.Places.{IsStanding}
use Rattle.net_nodes.specs.Happening.{Happens, SaysNoneArrived}
use Rattle.net_nodes.specs.Steps.{hearer}
use Rattle.parted_laws.specs.Processes.{Processes, PartChanges, SameWires, ends_of, flights_at, AreOf}

-- ---- where an event may be

-- this end of a line is of this process
abbrev pub HasEnd : (owner : ℕ → ℕ) → (k line : ℕ) → Role → Network → Type 0
HasEnd owner k line role part = (l : NetLine) → slice_get part.lines line ≡ Some l → ends_of owner l role ≡ k

-- the node at which the event is is of this process; a frame may be lost on any line
abbrev pub IsHere : (owner : ℕ → ℕ) → (k : ℕ) → Event → Network → Type 0
IsHere owner k (AtTerminal node terminal event) part = owner node ≡ k
IsHere owner k (Call node address user_data) part = owner node ≡ k
IsHere owner k (Ask node channel request) part = owner node ≡ k
IsHere owner k (Take node channel) part = owner node ≡ k
IsHere owner k (Deliver line d) part = HasEnd owner k line (hearer d) part
IsHere owner k (Lose line d) part = Unit {0}
IsHere owner k (Expire node line timer) part = owner node ≡ k
IsHere owner k (Relink line) part = HasEnd owner k line Dte part
IsHere owner k (GivesUp line) part = HasEnd owner k line Dce part
IsHere owner k (Restart node) part = owner node ≡ k

-- ---- when a node may restart

-- nothing is on its way between a process and another one on a line: nothing on the connection, and nothing in flight
-- in the other process, either way
abbrev pub IsCutOff : (owner : ℕ → ℕ) → Processes → (k line : ℕ) → NetLine → Type 0
IsCutOff owner p k line l = (role : Role) → ends_of owner l role ≢ k → (d : Direction)
    → (p.wires line d ≡ []) × (flying d (flights_at line (p.parts (ends_of owner l role))) ≡ [])

-- so it is of each line of the node of this place
abbrev pub HasLinesCutOff : (owner : ℕ → ℕ) → Processes → (k place : ℕ) → Type 0
HasLinesCutOff owner p k place = (line : ℕ) (l : NetLine) (role : Role) → slice_get (p.parts k).lines line ≡ Some l
    → place_at role l ≡ place → IsCutOff owner p k line l

-- a node restarts only when its lines are cut off
abbrev pub MayBe : (owner : ℕ → ℕ) → Processes → (k : ℕ) → Event → Type 0
MayBe owner p k (Restart node) = HasLinesCutOff owner p k node
MayBe owner p k event = Unit {0}

-- ---- what it is in the network

-- some frames are lost, one after the other, each the first one in flight on its line
pub data AreLost : (s t : Network) → Type 0 where
  none_is : (s : Network) → AreLost s s
  one_is : (line : ℕ) (d : Direction) (s mid t : Network) → LostAt lossless_service line d s mid → AreLost mid t
      → AreLost s t

-- a delivery that found no frame in a process, or the loss of one there
abbrev pub IsNone : Event → Result Answer StepFault → Type 0
IsNone (Deliver line d) (Ok answer) = SaysNoneArrived answer
IsNone (Lose line d) (Ok answer) = Unit {0}
IsNone event result = ⊥

-- the network does the same, with the same answer, or refuses it so; what found no frame or lost one is nothing there
abbrev pub IsDone : Event → Result Answer StepFault → (s t : Network) → Type 0
IsDone e r s t = Happens lossless_service e s r t ⊎ IsNone e r × (t ≡ s)

-- frames are lost in the network, and then the event is there; the processes are parts of it again
pub record HappensInOne (owner : ℕ → ℕ) (e : Event) (r : Result Answer StepFault) (q : Processes)
    (s : Network) : Type 0 where
  pub mid : Network
  pub lost : AreLost s mid
  pub after : Network
  pub done : IsDone e r mid after
  pub are : AreOf owner q after

abbrev pub EventLaw : LineService → Type 0
EventLaw L = L.faithful → (owner : ℕ → ℕ) (k : ℕ) (e : Event) (r : Result Answer StepFault) (part : Network)
    (p q : Processes) (s : Network) → AreOf owner p s → IsStanding (p.parts k) → IsHere owner k e (p.parts k)
    → MayBe owner p k e → Happens L e (p.parts k) r part → PartChanges k part p q → SameWires p q
    → HappensInOne owner e r q s
