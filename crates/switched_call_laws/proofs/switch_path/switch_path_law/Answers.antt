use Rattle.switched_call_laws.proofs.SwitchPaths.Begins.{network_holds}
use Rattle.switched_call_laws.proofs.switch_path.switch_path_law.Goals as goal

pub returns : goal.returns
returns c = network_holds
