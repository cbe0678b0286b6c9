-- The sum so far.
use Rattle.std.proofs.Common.{◌≡◌, ◌≤◌, ◌*◌, take}
use Rattle.switch_lines.specs.Making.{shares_with}
use Rattle.switch_lines.proofs.lines.buffers_for.Given as goal

abbrev pub invariant-loop-line : goal.invariant-loop-line
invariant-loop-line l = record {
  sum : l.total ≡ shares_with (take l.line-index l.lines);
  most : l.total ≤ l.line-index * 1320;
}
