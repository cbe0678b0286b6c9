use Rattle.node_laws.proofs.LineRecords.WholeEvents.{frame_kept, expiry_kept, relink_kept, restarted_kept, called_kept, requested_kept}
use Rattle.node_laws.proofs.line_record.event_law.Goals as goal

pub returns : goal.returns
returns c = record { frames = frame_kept; expiries = expiry_kept; relinks = relink_kept; restarts = restarted_kept; calls = called_kept; requests = requested_kept }
