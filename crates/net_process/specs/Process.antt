-- One process of a network in several, and what may happen in it.
use Rattle.std.specs.Prelude.{◌≡◌, ◌<◌, ℕ, Bool, true, false, not, ◌==◌, ◌&&◌, List, length, slice_get, Option, Some, None, unwrap_or, if◌then◌else◌}
use Rattle.std.specs.List.{list_all}
use Rattle.link_timers.specs.declared.role.Role.{Role}
use Rattle.link_timers.specs.declared.role.Role.TheVariants.{Dte, Dce}
use Rattle.net_config.specs.NetPlan.{NewLine}
use Rattle.net_events.specs.declared.event.Event.{Event}
use Rattle.net_events.specs.declared.event.Event.TheVariants.{AtTerminal, Call, Ask, Take, Deliver, Lose, Expire}
use Rattle.net_events.specs.declared.event.Event.TheVariants.{Relink, GivesUp, Restart}
use Rattle.net_events.specs.Network.{Network}
use Rattle.net_nodes.specs.Due.{net_due_at}
use Rattle.net_nodes.specs.Questions.{net_rests}
use Rattle.net_nodes.specs.Steps.{hearer}
use Rattle.remote_lines.specs.declared.line.RemoteLine.{RemoteLine}
use Rattle.remote_lines.specs.RemoteLine.{lets_start}

-- the network as this process has it, the lines by the plan, which nodes are its own and which have started, and its
-- ends of the lines to other processes
pub record ProcessState : Type 0 where
  pub part : Network
  pub plan : List NewLine
  pub own : List Bool
  pub started : List Bool
  pub lines : List RemoteLine

abbrev pub is_set : List Bool → (place : ℕ) → Bool
is_set flags place = unwrap_or (slice_get flags place) false

-- ---- where events may be

-- the node is of this process, and has started
abbrev pub runs : ProcessState → (node : ℕ) → Bool
runs p node = is_set p.own node && is_set p.started node

abbrev pub end_place : Role → NewLine → ℕ
end_place Dte l = l.dte
end_place Dce l = l.dce

abbrev pub runs_at : ProcessState → Role → Option NewLine → Bool
runs_at p role None = false
runs_at p role (Some l) = runs p (end_place role l)

-- so is the node at the end of a role of a line
abbrev pub end_runs : ProcessState → (line : ℕ) → Role → Bool
end_runs p line role = runs_at p role (slice_get p.plan line)

-- the node at which the event is runs here; a frame may be lost on any line, and no node restarts by an event
abbrev pub may_be : ProcessState → Event → Bool
may_be p (AtTerminal node terminal event) = runs p node
may_be p (Call node address user_data) = runs p node
may_be p (Ask node channel request) = runs p node
may_be p (Take node channel) = runs p node
may_be p (Deliver line d) = end_runs p line (hearer d)
may_be p (Lose line d) = true
may_be p (Expire node line timer) = runs p node
may_be p (Relink line) = end_runs p line Dte
may_be p (GivesUp line) = end_runs p line Dce
may_be p (Restart node) = false

-- ---- what is due

-- the expiry that is due at a node, if it runs here
abbrev pub due_here : ProcessState → (place : ℕ) → Option Event
due_here p place = if runs p place then net_due_at place p.part else None

-- it is due at a node here, and nothing is due at one before
pub record IsDueFirst (e : Event) (p : ProcessState) : Type 0 where
  pub place : ℕ
  pub here : due_here p place ≡ Some e
  pub before : (other : ℕ) → other < place → due_here p other ≡ None

-- nothing is to be done in the network; a process with remote lines does not know that
abbrev pub process_rests : ProcessState → Bool
process_rests p = length p.lines == 0 && net_rests p.part

-- ---- which nodes may start

abbrev pub is_clear_in : Option Bool → Bool
is_clear_in None = false
is_clear_in (Some flag) = not flag

-- the node is of this process and has not started, and each of its remote lines lets it
abbrev pub may_start : ProcessState → (node : ℕ) → Bool
may_start p node =
    is_set p.own node && (is_clear_in (slice_get p.started node) && list_all (λ line. lets_start node line) p.lines)
