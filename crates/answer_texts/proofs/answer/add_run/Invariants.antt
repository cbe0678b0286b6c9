use Rattle.std.proofs.Common.{◌≡◌, ◌++◌, take}
use Rattle.std.specs.List.{flat_map}
use Rattle.answer_texts.specs.Answers.{shown}
use Rattle.answer_texts.proofs.answer.add_run.Given as goal

-- the octets so far are added
abbrev pub invariant-loop-octet : goal.invariant-loop-octet
invariant-loop-octet l =
    l.line.items ≡ l.initial.line.items ++ flat_map shown (take l.octet-index l.octets)
