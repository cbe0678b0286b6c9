use Rattle.std.proofs.Common.{rules, tests}
use Rattle.packet_layer.proofs.layer.Layer.timer_named.Goals as goal

pub returns-in_default : goal.returns-in_default
returns-in_default c = search (rules, tests)
