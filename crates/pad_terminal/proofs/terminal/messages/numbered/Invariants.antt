-- The pairs so far.
use Rattle.std.proofs.Common.{◌≡◌, length, map, take}
use Rattle.pad_terminal.specs.Messages as spec
use Rattle.pad_terminal.proofs.terminal.messages.numbered.Given as goal

abbrev pub invariant-loop-reference : goal.invariant-loop-reference
invariant-loop-reference l =
    (l.numbered.items ≡ map spec.numbered (take l.reference-index l.reference-items))
    × (length l.numbered.items ≡ l.reference-index)
