use Rattle.std.proofs.Common.{rules, tests}
use Rattle.call_records.proofs.book.Book.tell.Goals as goal

pub returns-in-Incoming : goal.returns-in-Incoming
returns-in-Incoming c = search (rules, tests)
