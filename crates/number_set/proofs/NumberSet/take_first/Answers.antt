use Rattle.std.proofs.Common.{arith}
use Rattle.number_set.proofs.Bits.{first_of, fewer}
use Rattle.number_set.proofs.NumberSet.take_first.Goals as goal

pub returns-clause-first : goal.returns-clause-first
returns-clause-first c = first_of c.args.self.now (omega arith) (omega arith)

pub returns-clause-fewer : goal.returns-clause-fewer
returns-clause-fewer c = fewer c.args.self.now.bits (omega arith) (omega arith)
