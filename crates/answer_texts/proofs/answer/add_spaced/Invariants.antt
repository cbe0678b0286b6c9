use Rattle.std.proofs.Common.{◌≡◌, ◌++◌, take}
use Rattle.std.specs.List.{flat_map}
use Rattle.answer_texts.specs.Answers.{spaced}
use Rattle.answer_texts.proofs.answer.add_spaced.Given as goal

-- the octets so far are added
abbrev pub invariant-loop-octet : goal.invariant-loop-octet
invariant-loop-octet l = l.text.items ≡ l.initial.text.items ++ flat_map spaced (take l.octet-index l.octets)
