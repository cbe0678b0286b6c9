use Rattle.std.proofs.Common.{ℕ, ◌+◌, List, length, Option, Some, None}
use Rattle.std.specs.Option.{option_map}
use Rattle.trace_capture.proofs.Lines.{Reads}
use Rattle.trace_capture.proofs.blocks.capture.Given as goal

abbrev pub invariant-loop-rest : goal.invariant-loop-rest
invariant-loop-rest l = Reads l.fn.text (option_map (λ others. others.now) l.rest) l.number l.frames l.capture.items

abbrev left : Option (List ℕ) → ℕ
left None = 0
left (Some text) = length text + 1

abbrev pub decreases-loop-rest : goal.decreases-loop-rest
decreases-loop-rest l = left (option_map (λ others. others.now) l.rest)
