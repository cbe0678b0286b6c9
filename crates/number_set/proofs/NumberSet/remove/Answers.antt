use Rattle.std.proofs.Common.{arith}
use Rattle.number_set.proofs.Bits.{bits_without}
use Rattle.number_set.proofs.NumberSet.remove.Goals as goal

pub returns : goal.returns
returns c = λ n. bits_without c.args.self.now.bits c.args.number n (omega arith) c.requires
