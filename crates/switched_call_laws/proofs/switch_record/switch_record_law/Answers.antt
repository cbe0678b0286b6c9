use Rattle.switched_call_laws.proofs.SwitchRecords.Turning.{frame_goes, timer_goes, relink_goes, elapse_goes, restarts}
use Rattle.switched_call_laws.proofs.switch_record.switch_record_law.Goals as goal

pub returns : goal.returns
returns c = record { frames = frame_goes; timers = timer_goes; relinks = relink_goes; elapses = elapse_goes; restarts = restarts }
