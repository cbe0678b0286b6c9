-- Those that are left make the same lines as all of them did at the beginning, and the timers of the others run as
-- their
-- packet layers want them.
use Rattle.std.proofs.Common.{◌≡◌, ℕ, true, false}
use Rattle.std.specs.Prelude.{slice_get, Some}
use Rattle.packet_layer.specs.LayerTimers.{TimersAgree}
use Rattle.packet_end.specs.PacketEnd.{settled}
use Rattle.number_set.specs.NumberSet.{has}
use Rattle.switch_lines.specs.Lines.{SwitchLine}
use Rattle.switch_lines.specs.Pooled.{plain, on_line, ArePooled}
use Rattle.switch_lines.specs.Switch.{with_end}
use Rattle.switch_lines.specs.Touched.{AreThere, changed_in}
use Rattle.switch_lines.proofs.lines.touched.settle_lines.Given as goal

abbrev pub invariant-loop-line : goal.invariant-loop-line
invariant-loop-line l = record {
  there : AreThere l.which (plain l.lines);
  timers : (n : ℕ) (x : SwitchLine) → has l.fn.which n ≡ true → has l.which n ≡ false → slice_get (plain l.lines) n ≡ Some x
      → TimersAgree x.end.layer x.end.timers;
  lines : changed_in l.which (on_line (with_end settled)) 0 l.lines
      ≡ changed_in l.fn.which (on_line (with_end settled)) 0 l.fn.lines;
  pooled : ArePooled l.pool l.lines;
}

abbrev pub decreases-loop-line : goal.decreases-loop-line
decreases-loop-line l = l.which.bits
