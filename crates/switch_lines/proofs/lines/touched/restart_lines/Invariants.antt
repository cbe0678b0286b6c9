-- The lines so far are changed.
use Rattle.std.proofs.Common.{◌≡◌, ◌++◌, map, take, drop}
use Rattle.switch_lines.specs.Pooled.{plain, ArePooled}
use Rattle.switch_lines.specs.Switch.{without_joins}
use Rattle.switch_lines.proofs.lines.touched.restart_lines.Given as goal

abbrev pub invariant-loop-line : goal.invariant-loop-line
invariant-loop-line l = record {
  lines : plain l.lines
      ≡ map (without_joins) (take l.line-index (plain l.initial.lines)) ++ drop l.line-index (plain l.initial.lines);
  pooled : ArePooled l.pool l.lines;
}
