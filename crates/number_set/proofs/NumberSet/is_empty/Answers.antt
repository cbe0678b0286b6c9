use Rattle.std.proofs.Common.{arith}
use Rattle.number_set.proofs.Bits.{some_bit}
use Rattle.number_set.proofs.NumberSet.is_empty.Goals as goal

pub returns-clause-some : goal.returns-clause-some
returns-clause-some c = some_bit c.args.self (omega arith)
