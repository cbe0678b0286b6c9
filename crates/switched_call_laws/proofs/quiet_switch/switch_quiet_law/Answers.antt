use Rattle.switched_call_laws.proofs.QuietSwitches.Quieting.{frame-quiet, timer-quiet, relink-quiet, restart-quiet, time-quiet, out-keeps, gone-out, made-quiet}
use Rattle.switched_call_laws.proofs.quiet_switch.switch_quiet_law.Goals as goal

pub returns : goal.returns
returns c = record {
  frames = frame-quiet;
  timers = timer-quiet;
  relinks = relink-quiet;
  restarts = restart-quiet;
  elapses = time-quiet;
  out = out-keeps;
  gone = gone-out;
  made = made-quiet;
}
