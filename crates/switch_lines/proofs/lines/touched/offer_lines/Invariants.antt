-- Those that are left make the same lines, and those among them whose links take a packet come to those that took one.
use Rattle.std.proofs.Common.{◌≡◌, ℕ, ◌&&◌, ◌||◌}
use Rattle.std.specs.Prelude.{slice_get}
use Rattle.packet_end.specs.PacketEnd.{all_offered}
use Rattle.number_set.specs.NumberSet.{has}
use Rattle.switch_lines.specs.Pooled.{plain, ArePooled}
use Rattle.switch_lines.specs.Switch.{with_end}
use Rattle.switch_lines.specs.Touched.{AreThere, changed_in, offers_on}
use Rattle.switch_lines.proofs.lines.touched.offer_lines.Given as goal

abbrev pub invariant-loop-line : goal.invariant-loop-line
invariant-loop-line l = record {
  there : AreThere l.which (plain l.lines);
  offering : (n : ℕ) → (has l.offering n || (has l.which n && offers_on (slice_get (plain l.lines) n)))
      ≡ (has l.fn.which n && offers_on (slice_get (plain l.fn.lines) n));
  lines : changed_in l.which (with_end all_offered) 0 (plain l.lines)
      ≡ changed_in l.fn.which (with_end all_offered) 0 (plain l.fn.lines);
  pooled : ArePooled l.pool l.lines;
}

abbrev pub decreases-loop-line : goal.decreases-loop-line
decreases-loop-line l = l.which.bits
