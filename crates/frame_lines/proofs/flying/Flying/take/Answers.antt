use Rattle.std.proofs.Common.{arith}
use Rattle.std.proofs.lemmas.Grind.{common_steps}
use Rattle.frame_lines.proofs.flying.Flying.take.Goals as goal

pub returns-else-self-clause-taken : goal.returns-else-self-clause-taken
returns-else-self-clause-taken c = grind (arith, common_steps)

pub returns-else-self-clause-others : goal.returns-else-self-clause-others
returns-else-self-clause-others c = grind (arith, common_steps)
