use Rattle.std.proofs.Common.{◌≡◌, ◌++◌, take, decimal}
use Rattle.std.specs.List.{flat_map}
use Rattle.answer_texts.proofs.answer.add_digits.Given as goal

-- the digits so far are added
abbrev pub invariant-loop-digit : goal.invariant-loop-digit
invariant-loop-digit l = l.text.items ≡ l.initial.text.items ++ flat_map decimal (take l.digit-index l.digits)
