use Rattle.std.proofs.Common.{arith}
use Rattle.std.proofs.lemmas.Grind.{common_steps}
use Rattle.net_files.proofs.keywords.lone_timer.Goals as goal

pub returns-in-T1 : goal.returns-in-T1
returns-in-T1 c = grind (arith, common_steps)

pub returns-in-T10 : goal.returns-in-T10
returns-in-T10 c = grind (arith, common_steps)

pub returns-in-T20 : goal.returns-in-T20
returns-in-T20 c = grind (arith, common_steps)
