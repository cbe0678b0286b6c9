use Rattle.std.proofs.Common.{rules, tests}
use Rattle.packet_layer.proofs.layer.Layer.link_up.Goals as goal

pub returns-clause-layer : goal.returns-clause-layer
returns-clause-layer c = search (rules, tests)
