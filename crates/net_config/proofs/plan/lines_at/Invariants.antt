use Rattle.std.proofs.Common.{◌≡◌, take}
use Rattle.net_config.specs.Plan.{lines_from}
use Rattle.net_config.proofs.plan.lines_at.Given as goal

abbrev pub invariant-loop-number : goal.invariant-loop-number
invariant-loop-number l = l.own.items ≡ lines_from 0 l.fn.name (take l.number l.fn.lines)
