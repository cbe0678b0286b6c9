use Rattle.switched_call_laws.proofs.SwitchRecords.Tying.{tied_holds}
use Rattle.switched_call_laws.proofs.switch_record.tied_law.Goals as goal

pub returns : goal.returns
returns c = tied_holds
