use Rattle.record_laws.proofs.Books.AcceptedPairs.{accepted_run}
use Rattle.record_laws.proofs.book.accepted_run.Goals as goal

pub returns : goal.returns
returns c = accepted_run
