-- What processes did, one after the other, is a run of one network.
use Rattle.std.specs.Prelude.{◌≡◌, ℕ, ◌==◌, if◌then◌else◌, List, [], ◌∷◌, Result}
use Rattle.frame_lines.specs.Lines.{LineService, lossless_service}
use Rattle.net_events.specs.Network.{Network, all_elapsed}
use Rattle.net_events.specs.declared.answer.Answer.{Answer}
use Rattle.net_events.specs.declared.event.Event.{Event}
use Rattle.net_events.specs.declared.event.StepFault.{StepFault}
use Rattle.net_nodes.specs.Places.{IsStanding}
use Rattle.net_nodes.specs.Happening.{Happens}
use Rattle.network_laws.specs.PlacedTime.{elapsed_by}
use Rattle.network_laws.specs.Switched.InnerPromise.{NetworkPromise}
use Rattle.line_sim.specs.Between.{IsBetweenEvents}
use Rattle.parted_laws.specs.Processes.{Processes, PartChanges, SameWires, AreOf}
use Rattle.parted_laws.specs.Moves.{Carries}
use Rattle.parted_laws.specs.Events.{IsHere, MayBe, AreLost, IsDone}

-- a process handles an event, which is answered or refused; ticks pass in a process; frames are carried or lost
pub data Act : Type 0 where
  Handles : (k : ℕ) → Event → Result Answer StepFault → Act
  Passes : (k ticks : ℕ) → Act
  Moves : Act

-- ---- in the processes

pub record HasHandled (L : LineService) (owner : ℕ → ℕ) (k : ℕ) (e : Event) (r : Result Answer StepFault)
    (p q : Processes) : Type 0 where
  pub stands : IsStanding (p.parts k)
  pub here : IsHere owner k e (p.parts k)
  pub may : MayBe owner p k e
  pub part : Network
  pub happens : Happens L e (p.parts k) r part
  pub changes : PartChanges k part p q
  pub wires : SameWires p q

abbrev pub ProcessesDo : LineService → (owner : ℕ → ℕ) → Act → (p q : Processes) → Type 0
ProcessesDo L owner (Handles k e r) p q = HasHandled L owner k e r p q
ProcessesDo L owner (Passes k ticks) p q = PartChanges k (all_elapsed ticks (p.parts k)) p q × SameWires p q
ProcessesDo L owner Moves p q = Carries owner p q

abbrev pub ProcessesRun : LineService → (owner : ℕ → ℕ) → List Act → (p q : Processes) → Type 0
ProcessesRun L owner [] p q = p ≡ q
ProcessesRun L owner (act ∷ acts) p q =
    (mid : Processes) × ProcessesDo L owner act p mid × ProcessesRun L owner acts mid q

-- ---- in the network

-- the ticks that pass at each node when they pass in one process
abbrev pub ticks_in : (owner : ℕ → ℕ) → (k ticks : ℕ) → (place : ℕ) → ℕ
ticks_in owner k ticks place = if owner place == k then ticks else 0

abbrev pub NetworkDoes : (owner : ℕ → ℕ) → Act → (s t : Network) → Type 0
NetworkDoes owner (Handles k e r) s t = (mid : Network) × AreLost s mid × IsDone e r mid t
NetworkDoes owner (Passes k ticks) s t = t ≡ elapsed_by (ticks_in owner k ticks) s
NetworkDoes owner Moves s t = t ≡ s

-- with the promise before and after each act
abbrev pub NetworkRuns : (owner : ℕ → ℕ) → List Act → (s t : Network) → Type 0
NetworkRuns owner [] s t = (s ≡ t) × NetworkPromise s
NetworkRuns owner (act ∷ acts) s t =
    (mid : Network) × NetworkPromise s × NetworkDoes owner act s mid × NetworkRuns owner acts mid t

-- ---- the laws

-- ticks that pass in one process pass at its nodes in the network
abbrev pub TickLaw : Type 0
TickLaw = (owner : ℕ → ℕ) (k ticks : ℕ) (p q : Processes) (s : Network) → AreOf owner p s
    → PartChanges k (all_elapsed ticks (p.parts k)) p q → SameWires p q
    → AreOf owner q (elapsed_by (ticks_in owner k ticks) s)

-- the one network to which a list of acts leads
pub record RunsAsOne (owner : ℕ → ℕ) (acts : List Act) (q : Processes) (s : Network) : Type 0 where
  pub after : Network
  pub runs : NetworkRuns owner acts s after
  pub between : IsBetweenEvents lossless_service after
  pub are : AreOf owner q after

abbrev pub RunLaw : LineService → Type 0
RunLaw L = L.faithful → (owner : ℕ → ℕ) (acts : List Act) (p q : Processes) (s : Network)
    → IsBetweenEvents lossless_service s → AreOf owner p s → ProcessesRun L owner acts p q → RunsAsOne owner acts q s
