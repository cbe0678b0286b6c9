-- The code and the pairs so far.
use Rattle.std.proofs.Common.{◌≡◌, ◌+◌, ◌*◌, ◌∷◌, length, take}
use Rattle.x29_messages.specs.MessageForm.{pairs_octets}
use Rattle.x29_messages.proofs.writing.write_pairs.Given as goal

abbrev pub invariant-loop-reference : goal.invariant-loop-reference
invariant-loop-reference l =
    (l.out.items ≡ l.code ∷ pairs_octets (take l.reference-index l.reference-items))
    × (length l.out.items ≡ 1 + 2 * l.reference-index)
