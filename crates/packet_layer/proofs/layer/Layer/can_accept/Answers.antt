use Rattle.std.proofs.Common.{rules, tests}
use Rattle.packet_layer.proofs.layer.Layer.can_accept.Goals as goal

pub returns-in-Some : goal.returns-in-Some
returns-in-Some c = search (rules, tests)
