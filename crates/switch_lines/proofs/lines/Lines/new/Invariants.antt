-- The lines so far, which hold no buffer.
use Rattle.std.proofs.Common.{◌≡◌, ℕ, map, take, length}
use Rattle.flow_window.specs.Pool.{Buffer, pooled}
use Rattle.switch_lines.specs.Making.{shares_with, greatest_info}
use Rattle.switch_lines.proofs.Making.{made_pooled}
use Rattle.switch_lines.proofs.lines.Lines.new.Given as goal

abbrev pub invariant-loop-line : goal.invariant-loop-line
invariant-loop-line l = record {
  made : l.made.items ≡ map made_pooled (take l.line-index l.lines);
  size : l.pool.size ≡ greatest_info l.lines;
  places : length l.pool.places ≡ shares_with l.lines;
  none : (w : Buffer → ℕ) → pooled w l.pool ≡ 0;
}
