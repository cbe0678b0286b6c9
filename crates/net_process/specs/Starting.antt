-- How a node of a process starts.
use Rattle.std.specs.Prelude.{◌≡◌, ◌<◌, ℕ, true, false, ◌==◌, map, set, Result, if◌then◌else◌}
use Rattle.frame_lines.specs.Lines.{LineService}
use Rattle.net_events.specs.declared.answer.Answer.{Answer}
use Rattle.net_events.specs.declared.event.Event.TheVariants.{Restart}
use Rattle.net_events.specs.declared.event.StepFault.{StepFault}
use Rattle.net_events.specs.Network.{Network}
use Rattle.live_net.specs.Parting.{HasLivedApart}
use Rattle.remote_lines.specs.declared.line.RemoteLine.{RemoteLine}
use Rattle.remote_lines.specs.RemoteLine.{started}
use Rattle.net_process.specs.Process.{ProcessState, may_start}

-- the node of this place opens a line that ends there
abbrev pub started_at : (node : ℕ) → RemoteLine → RemoteLine
started_at node r = if r.end.node == node then started r else r

-- the node restarts with this answer, and opens its remote lines
pub record HasRestarted (L : LineService) (node : ℕ) (p : ProcessState) (result : Result Answer StepFault) (q : ProcessState)
    : Type 0 where
  pub part : Network
  pub happens : HasLivedApart L (Restart node) p.part result part
  pub process : q ≡ record p { part = part; started = set p.started node true; lines = map (started_at node) p.lines }

-- it may start, and none before may
pub record IsFirstToStart (node : ℕ) (p : ProcessState) : Type 0 where
  pub may : may_start p node ≡ true
  pub before : (other : ℕ) → other < node → may_start p other ≡ false
