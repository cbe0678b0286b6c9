-- The law of what a PAD sends on its calls.
use Rattle.node_laws.proofs.Pads.Holding.{sent_law, key_kept, break_kept, print_kept, leaving_kept, arrival_kept, frame_kept, timer_kept, relink_kept}
use Rattle.node_laws.proofs.Pads.Holding.{restart_kept, time_kept, drained_kept, far_kept, made_kept}
use Rattle.node_laws.proofs.pad.sending.pad_records_law.Goals as goal

pub returns : goal.returns
returns c = record {
  sent = sent_law;
  made = made_kept;
  keys = key_kept;
  breaks = break_kept;
  prints = print_kept;
  leavings = leaving_kept;
  arrivals = arrival_kept;
  frames = frame_kept;
  timers = timer_kept;
  relinks = relink_kept;
  restarts = restart_kept;
  times = time_kept;
  drained = drained_kept;
  far = far_kept;
}
