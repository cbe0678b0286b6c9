-- The pairs so far, and those of the rest, are those of the octets.
use Rattle.std.proofs.Common.{◌≡◌, ◌+◌, ◌*◌, length}
use Rattle.x29_messages.specs.Reading.{pairs_of}
use Rattle.x29_messages.proofs.Pairing.{with_front}
use Rattle.x29_messages.proofs.reading.pairs_in.Given as goal

abbrev pub invariant-loop-pair : goal.invariant-loop-pair
invariant-loop-pair l =
    (with_front l.pairs.items (pairs_of l.rest) ≡ pairs_of l.octets)
    × (2 * length l.pairs.items + length l.rest ≡ length l.octets)

abbrev pub decreases-loop-pair : goal.decreases-loop-pair
decreases-loop-pair l = length l.rest
