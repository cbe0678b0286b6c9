use Rattle.std.proofs.Common.{arith}
use Rattle.switch_joins.proofs.channel_set.ChannelSet.insert_join.Goals as goal

pub returns-in-Some : goal.returns-in-Some
returns-in-Some c = grind (arith)
