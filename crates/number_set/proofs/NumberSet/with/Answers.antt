use Rattle.number_set.proofs.Bits.{bits_of_both}
use Rattle.number_set.proofs.NumberSet.with.Goals as goal

pub returns : goal.returns
returns c = λ n. bits_of_both c.args.self.bits c.args.other.bits n
