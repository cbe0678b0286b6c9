use Rattle.std.proofs.Common.{rules, tests}
use Rattle.data_transfer.proofs.traffic.Traffic.cover.Goals as goal

pub returns : goal.returns
returns c = search (rules, tests)
