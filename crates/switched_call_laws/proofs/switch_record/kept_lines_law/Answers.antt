use Rattle.switched_call_laws.proofs.SwitchRecords.Stepping.{steps_kept}
use Rattle.switched_call_laws.proofs.SwitchRecords.Events.{frame_event, timer_event, relink_event, elapse_event, restart_event, frames_out, event_steps_lead, legs_move}
use Rattle.switched_call_laws.proofs.switch_record.kept_lines_law.Goals as goal

pub returns : goal.returns
returns c = record {
  frames = frame_event;
  timers = timer_event;
  relinks = relink_event;
  elapses = elapse_event;
  restarts = restart_event;
  out = frames_out;
  steps = steps_kept;
  leads = event_steps_lead;
  legs = legs_move;
}
