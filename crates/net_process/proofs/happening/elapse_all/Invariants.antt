-- The lines so far have elapsed.
use Rattle.std.proofs.Common.{◌≡◌, ◌++◌, map, take, drop}
use Rattle.remote_lines.specs.RemoteLine.{elapsed}
use Rattle.net_process.proofs.happening.elapse_all.Given as goal

abbrev pub invariant-loop-line : goal.invariant-loop-line
invariant-loop-line l =
    l.line-items ≡ map (λ line. elapsed line l.ticks) (take l.line-index l.initial.line-items) ++ drop l.line-index l.initial.line-items
