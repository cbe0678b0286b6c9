use Rattle.std.proofs.Common.{◌≡◌, take}
use Rattle.std.specs.List.{list_all}
use Rattle.answer_texts.specs.Answers.{is_plain}
use Rattle.answer_texts.proofs.answer.are_plain.Given as goal

-- the octets so far stand for themselves, or one does not
abbrev pub invariant-loop-octet : goal.invariant-loop-octet
invariant-loop-octet l = l.all ≡ list_all is_plain (take l.octet-index l.octets)
