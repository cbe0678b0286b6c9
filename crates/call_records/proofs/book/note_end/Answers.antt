use Rattle.std.proofs.Common.{rules, tests}
use Rattle.call_records.proofs.book.note_end.Goals as goal

pub returns-else-len-capacity : goal.returns-else-len-capacity
returns-else-len-capacity c = search (rules, tests)
