-- The value of the digits so far.
use Rattle.std.proofs.Common.{◌≡◌, ◌<◌, ◌^◌, take}
use Rattle.x28_commands.specs.Numbers.{decimal}
use Rattle.x28_commands.proofs.numbers.decimal.Given as goal

abbrev pub invariant-loop-digit : goal.invariant-loop-digit
invariant-loop-digit l = (l.value ≡ decimal (take l.digit-index l.digits)) × (l.value < 10 ^ l.digit-index)
