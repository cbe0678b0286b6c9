-- The greatest so far.
use Rattle.std.proofs.Common.{◌≡◌, ◌≤◌, take}
use Rattle.switch_lines.specs.Making.{greatest_info}
use Rattle.switch_lines.proofs.lines.octets_for.Given as goal

abbrev pub invariant-loop-line : goal.invariant-loop-line
invariant-loop-line l = record {
  greatest : l.most ≡ greatest_info (take l.line-index l.lines);
  fits : l.most ≤ 1028;
}
