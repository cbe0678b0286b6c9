-- The octet and a NUL for each turn stand at the end.
use Rattle.std.proofs.Common.{◌≡◌, ◌∷◌, ◌++◌, replicate}
use Rattle.pad_editing.proofs.display.padded.Given as goal

abbrev pub invariant-loop : goal.invariant-loop
invariant-loop g l = l.out.items ≡ l.fn.out.items ++ l.octet ∷ replicate l.counter 0
