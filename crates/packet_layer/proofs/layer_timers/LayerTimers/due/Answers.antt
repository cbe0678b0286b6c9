use Rattle.std.proofs.Common.{rules, tests}
use Rattle.packet_layer.proofs.layer_timers.LayerTimers.due.Goals as goal

pub returns-in-Some : goal.returns-in-Some
returns-in-Some c = search (rules, tests)
