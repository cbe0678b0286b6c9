use Rattle.std.proofs.Common.{rules, tests}
use Rattle.call_records.proofs.book.Book.release.Goals as goal

pub returns : goal.returns
returns c = search (rules, tests)
