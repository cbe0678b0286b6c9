use Rattle.node_laws.proofs.LineRecords.LineLaw.{made_kept, tells_kept, silent_kept, restart_kept, call_kept, request_kept, loss_kept, edit_kept, like_kept, holds_kept, present_kept, transfer_kept, asked_kept, front_kept, channels_kept, closing_kept}
use Rattle.node_laws.proofs.LineRecords.Missing.{rest_kept}
use Rattle.node_laws.proofs.LineRecords.Relinking.{finished_asks}
use Rattle.node_laws.proofs.LineRecords.Confirming.{confirmed_kept}
use Rattle.node_laws.proofs.LineRecords.Counting.{shown_kept, counts_kept}
use Rattle.node_laws.proofs.LineRecords.Histories.{history_kept}
use Rattle.node_laws.proofs.line_record.line_record_law.Goals as goal

pub returns : goal.returns
returns c = record {
  made = made_kept;
  tells = tells_kept;
  silent = silent_kept;
  restarts = restart_kept;
  calls = call_kept;
  requests = request_kept;
  loses = loss_kept;
  edits = edit_kept;
  like = like_kept;
  holds = holds_kept;
  present = present_kept;
  transfer = transfer_kept;
  asked = asked_kept;
  front = front_kept;
  channels = channels_kept;
  closing = closing_kept;
  rest = rest_kept;
  settled = finished_asks;
  confirmed = confirmed_kept;
  shown = shown_kept;
  counts = counts_kept;
  history = history_kept;
}
