use Rattle.switched_call_laws.proofs.QuietSwitches.Fewer.{fewer-due}
use Rattle.switched_call_laws.proofs.quiet_switch.switch_due_law.Goals as goal

pub returns : goal.returns
returns c = fewer-due
