use Rattle.std.proofs.Common.{rules, tests}
use Rattle.epochs.proofs.spare.drop_spare.Goals as goal

pub returns-else-len-capacity-clause-fits : goal.returns-else-len-capacity-clause-fits
returns-else-len-capacity-clause-fits g c = search (rules, tests)
