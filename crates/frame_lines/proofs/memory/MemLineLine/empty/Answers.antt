use Rattle.std.proofs.Common.{rules, tests}
use Rattle.frame_lines.proofs.memory.MemLineLine.empty.Goals as goal

pub returns : goal.returns
returns c = search (rules, tests)
