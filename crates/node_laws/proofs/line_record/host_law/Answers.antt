use Rattle.node_laws.proofs.LineRecords.Hosting.{expiry_kept, call_kept, request_kept, say_kept, refuse_kept, take_kept}
use Rattle.node_laws.proofs.line_record.host_law.Goals as goal

pub returns : goal.returns
returns c = record { expiries = expiry_kept; calls = call_kept; requests = request_kept; says = say_kept; refuses = refuse_kept; takes = take_kept }
