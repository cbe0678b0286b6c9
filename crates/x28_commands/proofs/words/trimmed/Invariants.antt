-- What is left of the text is trimmed as the text is.
use Rattle.std.proofs.Common.{◌≡◌, ◌≤◌, length, take}
use Rattle.x28_commands.specs.Words.{trimmed}
use Rattle.x28_commands.proofs.words.trimmed.Given as goal

abbrev pub invariant-loop-end : goal.invariant-loop-end
invariant-loop-end l = (l.end ≤ length l.text) × (trimmed (take l.end l.text) ≡ trimmed l.text)

abbrev pub decreases-loop-end : goal.decreases-loop-end
decreases-loop-end l = l.end
