-- What a process does, as an act of the processes of one network.
use Rattle.std.specs.Prelude.{◌≡◌, ◌≢◌, ℕ, true, List, [], ◌∷◌, ◌++◌, drop, slice_get, Some, Result}
use Rattle.call_records.specs.Register.{Register}
use Rattle.frame_lines.specs.declared.line.Direction.{Direction}
use Rattle.frame_lines.specs.Lines.{memory_service}
use Rattle.net_config.specs.NetPlan.{NewLine}
use Rattle.net_events.specs.declared.answer.Answer.{Answer}
use Rattle.net_events.specs.declared.event.Event.{Event}
use Rattle.net_events.specs.declared.event.Event.TheVariants.{Restart}
use Rattle.net_events.specs.declared.event.StepFault.{StepFault}
use Rattle.net_events.specs.Network.{NetLine, Network, all_elapsed}
use Rattle.net_nodes.specs.Carrying.{PutAt, blind}
use Rattle.net_nodes.specs.Steps.{hearer}
use Rattle.line_sim.specs.Between.{IsBetweenEvents}
use Rattle.live_laws.specs.Registers.{on}
use Rattle.parted_laws.specs.Moves.{HandsOn, PutsOn}
use Rattle.parted_laws.specs.Processes.{Processes, PartChanges, SameWires, WireChanges, sender, ends_of}
use Rattle.parted_laws.specs.Running.{Act, ProcessesDo}
use Rattle.parted_laws.specs.Running.Act.{Handles, Passes}
use Rattle.net_process.specs.Process.{ProcessState, is_set, may_be}
use Rattle.net_process.specs.Carrying.{frames_at, with_frames}
use Rattle.net_process.specs.Stepping.{HasStepped}
use Rattle.net_process.specs.Starting.{HasRestarted}
use Rattle.net_process.specs.Restart.{HasConnections}

-- a line of a plan has the ends of this one
pub record HasEnds (n : NewLine) (l : NetLine) : Type 0 where
  pub dte : n.dte ≡ l.dte
  pub dce : n.dce ≡ l.dce

-- this is the process of this number, with this register in place of the one that it does not keep
pub record IsProcess (owner : ℕ → ℕ) (k : ℕ) (g : Register) (x : ProcessState) (p : Processes) : Type 0 where
  pub part : p.parts k ≡ on g x.part
  pub between : IsBetweenEvents (blind memory_service) (on g x.part)
  pub own : (node : ℕ) → is_set x.own node ≡ true → owner node ≡ k
  pub plan : (line : ℕ) (l : NetLine) (n : NewLine) → slice_get x.part.lines line ≡ Some l
      → slice_get x.plan line ≡ Some n → HasEnds n l

-- ---- at nodes

-- the processes do this act, by which the process of this number has this network, with a register of its own
pub record IsAct (owner : ℕ → ℕ) (k : ℕ) (e : Event) (r : Result Answer StepFault) (part : Network)
    (p : Processes) : Type 0 where
  pub after : Register
  pub between : IsBetweenEvents (blind memory_service) (on after part)
  pub does : (q : Processes) → PartChanges k (on after part) p q → SameWires p q
      → ProcessesDo memory_service owner (Handles k e r) p q

-- ticks pass in the process
abbrev pub TicksLaw : Type 0
TicksLaw = (owner : ℕ → ℕ) (k ticks : ℕ) (g : Register) (x : ProcessState) (p q : Processes) → IsProcess owner k g x p
    → PartChanges k (on g (all_elapsed ticks x.part)) p q → SameWires p q
    → ProcessesDo memory_service owner (Passes k ticks) p q

-- an event that may be in a process is an act of the processes: one at its own node
abbrev pub StepLaw : Type 0
StepLaw = (owner : ℕ → ℕ) (k : ℕ) (g : Register) (x y : ProcessState) (p : Processes) (e : Event)
    (r : Result Answer StepFault) → IsProcess owner k g x p → HasStepped memory_service e x r y → may_be x e ≡ true
    → IsAct owner k e r y.part p

-- so is the start of a node whose lines have connections
abbrev pub StartLaw : Type 0
StartLaw = (owner : ℕ → ℕ) (k node : ℕ) (g : Register) (x y : ProcessState) (p : Processes) (r : Result Answer StepFault)
    → IsProcess owner k g x p → HasRestarted memory_service node x r y → is_set x.own node ≡ true
    → HasConnections owner p k node → IsAct owner k (Restart node) r y.part p

-- ---- on lines

-- the first frame of those that a node here sent on a line to another process goes to the connection
abbrev pub SendLaw : Type 0
SendLaw = (owner : ℕ → ℕ) (k line : ℕ) (d : Direction) (l : NetLine) (g : Register) (x : ProcessState) (p q : Processes)
    (frame : List ℕ) (rest : List (List ℕ)) → IsProcess owner k g x p → slice_get x.part.lines line ≡ Some l
    → ends_of owner l (sender d) ≡ k → ends_of owner l (hearer d) ≢ k → frames_at line d x.part ≡ frame ∷ rest
    → PartChanges k (on g (with_frames line d rest x.part)) p q
    → WireChanges line d (p.wires line d ++ frame ∷ []) p q → HandsOn memory_service owner k line d p q

-- a frame that was read of the connection is put on the line; those before it are lost
abbrev pub ReadLaw : Type 0
ReadLaw = (owner : ℕ → ℕ) (k line : ℕ) (d : Direction) (l : NetLine) (g : Register) (x : ProcessState) (p q : Processes)
    (lost : ℕ) (frame : List ℕ) (rest : List (List ℕ)) (part : Network) → IsProcess owner k g x p
    → slice_get x.part.lines line ≡ Some l → ends_of owner l (hearer d) ≡ k → ends_of owner l (sender d) ≢ k
    → drop lost (p.wires line d) ≡ frame ∷ rest → PutAt memory_service line d frame l x.part part
    → PartChanges k (on g part) p q → WireChanges line d rest p q → PutsOn memory_service owner k line d p q
