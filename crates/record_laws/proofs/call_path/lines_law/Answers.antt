use Rattle.record_laws.proofs.CallPaths.Freeing.{made_lines}
use Rattle.record_laws.proofs.CallPaths.Tracing.{traced}
use Rattle.record_laws.proofs.CallPaths.Lining.{lines_hold}
use Rattle.record_laws.proofs.CallPaths.Moves.{written_so, book_calls, recorded_calls}
use Rattle.record_laws.proofs.call_path.lines_law.Goals as goal

pub returns : goal.returns
returns c = record { made = made_lines; traces = traced; holds = lines_hold; written = written_so; calls = book_calls; recorded = recorded_calls }
