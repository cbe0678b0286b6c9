-- The entries so far, and then those of the rest, are those of the text.
use Rattle.std.proofs.Common.{◌≡◌, ◌+◌, ◌≤◌, length}
use Rattle.x28_commands.specs.Numbers.{entries}
use Rattle.x28_commands.proofs.Parts.{with_front}
use Rattle.x28_commands.proofs.numbers.entries.Given as goal

abbrev pub invariant-loop-entry : goal.invariant-loop-entry
invariant-loop-entry g l =
    (with_front l.found.items (entries g.E.Entry.said l.rest) ≡ entries g.E.Entry.said l.text)
    × (length l.found.items + length l.rest ≤ length l.text)

abbrev pub decreases-loop-entry : goal.decreases-loop-entry
decreases-loop-entry g l = length l.rest
