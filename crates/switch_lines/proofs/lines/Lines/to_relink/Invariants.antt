-- The first one is the first of those that are left.
use Rattle.std.proofs.Common.{◌≡◌}
use Rattle.switch_lines.specs.Switch.{to_relink}
use Rattle.switch_lines.specs.Touched.{AreThere}
use Rattle.switch_lines.proofs.Touched.{first_to_relink}
use Rattle.switch_lines.proofs.lines.Lines.to_relink.Given as goal

abbrev pub invariant-loop-line : goal.invariant-loop-line
invariant-loop-line l = record {
  there : AreThere l.which l.self;
  first : first_to_relink l.which 0 l.self ≡ to_relink l.self;
}

abbrev pub decreases-loop-line : goal.decreases-loop-line
decreases-loop-line l = l.which.bits
