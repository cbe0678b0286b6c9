-- Those that are left make the same lines as all of them did at the beginning.
use Rattle.std.proofs.Common.{◌≡◌}
use Rattle.packet_end.specs.PacketEnd.{begun}
use Rattle.switch_lines.specs.Pooled.{plain, on_line}
use Rattle.switch_lines.specs.Switch.{with_end}
use Rattle.switch_lines.specs.Touched.{AreThere, changed_in}
use Rattle.switch_lines.proofs.lines.touched.begin_lines.Given as goal

abbrev pub invariant-loop-line : goal.invariant-loop-line
invariant-loop-line l = record {
  there : AreThere l.which (plain l.lines);
  lines : changed_in l.which (on_line (with_end begun)) 0 l.lines
      ≡ changed_in l.fn.which (on_line (with_end begun)) 0 l.fn.lines;
}

abbrev pub decreases-loop-line : goal.decreases-loop-line
decreases-loop-line l = l.which.bits
