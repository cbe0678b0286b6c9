use Rattle.std.proofs.Common.{◌≡◌, ◌+◌, ◌%◌, ◌++◌, map, take}
use Rattle.service.proofs.hello.push_digits.Given as goal

abbrev pub invariant-loop-digit : goal.invariant-loop-digit
invariant-loop-digit l =
    l.line.items ≡ l.initial.line.items ++ map (λ digit. 48 + digit % 10) (take l.digit-index l.digits)
