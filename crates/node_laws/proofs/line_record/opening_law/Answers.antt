use Rattle.node_laws.proofs.LineRecords.Opening.{frame_opens, expiry_opens, relink_opens, end_opens, read_kept}
use Rattle.node_laws.proofs.line_record.opening_law.Goals as goal

pub returns : goal.returns
returns c = record { frames = frame_opens; expiries = expiry_opens; relinks = relink_opens; ends = end_opens; read = read_kept }
