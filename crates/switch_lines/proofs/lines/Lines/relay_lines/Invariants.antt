-- What is left of the lines makes the same as all of them did at the beginning.
use Rattle.std.proofs.Common.{◌≡◌}
use Rattle.switch_lines.specs.Alone.{relayed_alone}
use Rattle.switch_lines.specs.Touched.{members}
use Rattle.switch_lines.proofs.lines.Lines.relay_lines.Given as goal

abbrev pub invariant-loop-line : goal.invariant-loop-line
invariant-loop-line l = relayed_alone (members l.lines) l.self ≡ relayed_alone (members l.fn.lines) l.fn.self

abbrev pub decreases-loop-line : goal.decreases-loop-line
decreases-loop-line l = l.lines.bits
