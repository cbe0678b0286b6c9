use Rattle.number_set.proofs.Bits.{bits_between, mask_fits}
use Rattle.number_set.proofs.NumberSet.between.Goals as goal

pub returns : goal.returns
returns c = λ n. bits_between c.args.self.bits c.args.first c.args.end n c.requires.order c.requires.most

pub overflow_sub-result : goal.overflow_sub-result
overflow_sub-result c = mask_fits c.args.first c.args.end c.requires.order c.requires.most
