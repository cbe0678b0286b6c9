use Rattle.net_process.proofs.Acts.{step_is_act, start_is_act, ticks_are_act, send_is_move, read_is_move}
use Rattle.net_process.proofs.law.act_law.Goals as goal

pub returns : goal.returns
returns c = record {
  step = step_is_act;
  start = start_is_act;
  ticks = ticks_are_act;
  send = send_is_move;
  read = read_is_move;
}
