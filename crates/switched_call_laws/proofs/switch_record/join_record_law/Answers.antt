use Rattle.switched_call_laws.proofs.SwitchRecords.Relaying.{joins_relay}
use Rattle.switched_call_laws.proofs.switch_record.join_record_law.Goals as goal

pub returns : goal.returns
returns c = joins_relay
