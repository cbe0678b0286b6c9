use Rattle.std.proofs.Common.{rules, tests}
use Rattle.packet_layer.proofs.params.LayerParams.check.Goals as goal

pub returns : goal.returns
returns c = search (rules, tests)
