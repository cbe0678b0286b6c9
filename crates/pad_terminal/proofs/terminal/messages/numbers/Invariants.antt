-- The numbers so far.
use Rattle.std.proofs.Common.{◌≡◌, length, take}
use Rattle.pad_terminal.specs.Messages as spec
use Rattle.pad_terminal.proofs.terminal.messages.numbers.Given as goal

abbrev pub invariant-loop-reference : goal.invariant-loop-reference
invariant-loop-reference l =
    (l.numbers.items ≡ spec.numbers_of (take l.reference-index l.reference-items))
    × (length l.numbers.items ≡ l.reference-index)
