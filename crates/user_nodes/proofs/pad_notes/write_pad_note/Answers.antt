use Rattle.std.proofs.Common.{rules, tests}
use Rattle.user_nodes.proofs.pad_notes.write_pad_note.Goals as goal

pub returns-in-Accepted : goal.returns-in-Accepted
returns-in-Accepted c = search (rules, tests)
