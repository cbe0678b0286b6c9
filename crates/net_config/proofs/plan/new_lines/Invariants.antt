use Rattle.std.proofs.Common.{◌≡◌, map, take}
use Rattle.net_config.specs.Plan.{new_line}
use Rattle.net_config.proofs.plan.new_lines.Given as goal

abbrev pub invariant-loop-line : goal.invariant-loop-line
invariant-loop-line l =
    l.lines.items ≡ map (new_line l.fn.config.nodes.items) (take l.line-index l.line-items)
