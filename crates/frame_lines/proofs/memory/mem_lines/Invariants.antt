use Rattle.std.proofs.Common.{◌≡◌, replicate}
use Rattle.frame_lines.specs.Lines.{no_flights}
use Rattle.frame_lines.proofs.memory.mem_lines.Given as goal

abbrev pub invariant-loop-made : goal.invariant-loop-made
invariant-loop-made l = l.lines.items ≡ replicate l.made no_flights
