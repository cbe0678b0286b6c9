use Rattle.std.proofs.Common.{◌≡◌, ◌++◌, length}
use Rattle.std.specs.List.{flat_map}
use Rattle.answer_texts.specs.Answers.{shown}
use Rattle.answer_texts.proofs.answer.add_octets.Given as goal

-- the octets so far are added, and the rest is left
abbrev pub invariant-loop-rest : goal.invariant-loop-rest
invariant-loop-rest l =
    l.line.items ++ flat_map shown l.rest ≡ l.initial.line.items ++ flat_map shown l.octets

-- what is left gets shorter
abbrev pub decreases-loop-rest : goal.decreases-loop-rest
decreases-loop-rest l = length l.rest
