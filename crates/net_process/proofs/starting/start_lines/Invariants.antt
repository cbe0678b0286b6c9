-- The lines so far that end at the node have started.
use Rattle.std.proofs.Common.{◌≡◌, ◌++◌, map, take, drop}
use Rattle.net_process.specs.Starting.{started_at}
use Rattle.net_process.proofs.starting.start_lines.Given as goal

abbrev pub invariant-loop-line : goal.invariant-loop-line
invariant-loop-line l =
    l.line-items ≡ map (started_at l.node) (take l.line-index l.initial.line-items) ++ drop l.line-index l.initial.line-items
