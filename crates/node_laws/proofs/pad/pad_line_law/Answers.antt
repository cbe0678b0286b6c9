-- The law of a PAD on a line.
use Rattle.node_laws.proofs.Pads.Events.{key_keeps, break_keeps, idle_keeps, print_keeps, leaving_keeps, arrival_keeps, frame_keeps, timer_keeps}
use Rattle.node_laws.proofs.Pads.Events.{relink_keeps, restart_keeps, time_keeps, making_keeps}
use Rattle.node_laws.proofs.pad.pad_line_law.Goals as goal

pub returns : goal.returns
returns c = record {
  keys = key_keeps;
  breaks = break_keeps;
  idle_times = idle_keeps;
  prints = print_keeps;
  leavings = leaving_keeps;
  arrivals = arrival_keeps;
  frames = frame_keeps;
  timers = timer_keeps;
  relinks = relink_keeps;
  restarts = restart_keeps;
  times = time_keeps;
  made = making_keeps;
}
