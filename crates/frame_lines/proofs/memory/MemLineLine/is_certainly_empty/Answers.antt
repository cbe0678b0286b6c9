use Rattle.std.proofs.Common.{arith}
use Rattle.std.proofs.lemmas.Grind.{common_steps}
use Rattle.frame_lines.proofs.memory.MemLineLine.is_certainly_empty.Goals as goal

pub returns-in-FromDce : goal.returns-in-FromDce
returns-in-FromDce c = grind (arith, common_steps)
