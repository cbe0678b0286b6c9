use Rattle.std.proofs.Common.{rules, tests}
use Rattle.user_nodes.proofs.note.list_layer_note.Goals as goal

pub returns-clause-listed : goal.returns-clause-listed
returns-clause-listed c = search (rules, tests)
