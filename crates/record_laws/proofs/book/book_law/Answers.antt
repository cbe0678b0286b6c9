use Rattle.record_laws.proofs.Books.BookHolds.{book_holds, calls_hold, callers_recorded}
use Rattle.record_laws.proofs.Books.Having.{have_records}
use Rattle.record_laws.proofs.Books.Beside.{is_beside}
use Rattle.record_laws.proofs.Books.Answered.{are_answered}
use Rattle.record_laws.proofs.Books.OpenPairs.{open_pairs}
use Rattle.record_laws.proofs.Books.Counting.{records_counted, records_used}
use Rattle.record_laws.proofs.Books.Keeping.{records_keep}
use Rattle.record_laws.proofs.Books.AcceptedPairs.{pairs_accepted}
use Rattle.record_laws.proofs.book.book_law.Goals as goal

pub returns : goal.returns
returns c = record { book = book_holds; records = have_records; present = is_beside; answered = are_answered; calls = calls_hold; callers = callers_recorded; epochs = open_pairs; counts = records_counted; uses = records_used; keeping = records_keep; accepted = pairs_accepted }
