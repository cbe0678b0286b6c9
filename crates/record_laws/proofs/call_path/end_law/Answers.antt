use Rattle.record_laws.proofs.CallPaths.Ending.{ends_seen, users_own, open_seen}
use Rattle.record_laws.proofs.call_path.end_law.Goals as goal

pub returns : goal.returns
returns c = record { ends = ends_seen; users = users_own; open_records = open_seen }
