use Rattle.switch_joins.proofs.ChannelSets.{none_there}
use Rattle.switch_joins.proofs.channel_set.ChannelSet.new.Goals as goal

pub returns : goal.returns
returns c = λ p. none_there 64 p.line c.new.result p.channel c.new.ensures
