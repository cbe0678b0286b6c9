use Rattle.std.proofs.Common.{rules, tests}
use Rattle.packet_layer.proofs.layer.Layer.free_place.Goals as goal

pub returns-in-Dte : goal.returns-in-Dte
returns-in-Dte c = search (rules, tests)
