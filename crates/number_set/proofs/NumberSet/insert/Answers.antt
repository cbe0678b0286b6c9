use Rattle.number_set.proofs.Bits.{bits_with}
use Rattle.number_set.proofs.NumberSet.insert.Goals as goal

pub returns : goal.returns
returns c = λ n. bits_with c.args.self.now.bits c.args.number n c.requires
