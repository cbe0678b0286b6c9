use Rattle.std.proofs.Common.{arith}
use Rattle.switch_joins.proofs.channel_set.ChannelSet.first_between.Goals as goal

pub returns-in_err-channel : goal.returns-in_err-channel
returns-in_err-channel c = grind (arith)
