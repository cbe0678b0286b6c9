-- What the digits so far are worth.
use Rattle.std.proofs.Common.{◌≡◌, min, take}
use Rattle.x28_commands.specs.Numbers.{decimal}
use Rattle.net_files.proofs.words.value_of.Given as goal

abbrev pub invariant-loop-digit : goal.invariant-loop-digit
invariant-loop-digit l = l.value ≡ min (decimal (take l.digit-index l.digits)) 4294967295
