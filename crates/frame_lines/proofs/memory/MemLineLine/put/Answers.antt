use Rattle.std.proofs.Common.{rules, tests}
use Rattle.frame_lines.proofs.memory.MemLineLine.put.Goals as goal

pub returns-in-FromDce-clause-puts : goal.returns-in-FromDce-clause-puts
returns-in-FromDce-clause-puts c = search (rules, tests)

pub returns-in-FromDce-clause-room : goal.returns-in-FromDce-clause-room
returns-in-FromDce-clause-room c = search (rules, tests)

pub returns-in-FromDce-clause-beyond : goal.returns-in-FromDce-clause-beyond
returns-in-FromDce-clause-beyond c = search (rules, tests)
