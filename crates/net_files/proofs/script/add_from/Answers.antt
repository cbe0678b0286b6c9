use Rattle.std.proofs.Common.{arith}
use Rattle.std.proofs.lemmas.Grind.{common_steps}
use Rattle.net_files.proofs.script.add_from.Goals as goal

pub returns-in_ok-add_check-in-Check : goal.returns-in_ok-add_check-in-Check
returns-in_ok-add_check-in-Check c = grind (arith, common_steps)

pub returns-in_ok-add_event-in-Event : goal.returns-in_ok-add_event-in-Event
returns-in_ok-add_event-in-Event c = grind (arith, common_steps)

pub returns-in_ok-add_flow-in-Flow : goal.returns-in_ok-add_flow-in-Flow
returns-in_ok-add_flow-in-Flow c = grind (arith, common_steps)

pub returns-in_ok-add_tick-in-Tick : goal.returns-in_ok-add_tick-in-Tick
returns-in_ok-add_tick-in-Tick c = grind (arith, common_steps)

pub returns-in_ok-add_trace-in-Trace : goal.returns-in_ok-add_trace-in-Trace
returns-in_ok-add_trace-in-Trace c = grind (arith, common_steps)
