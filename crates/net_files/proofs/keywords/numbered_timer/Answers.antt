use Rattle.std.proofs.Common.{arith}
use Rattle.std.proofs.lemmas.Grind.{common_steps}
use Rattle.net_files.proofs.keywords.numbered_timer.Goals as goal

pub returns-in-Idle : goal.returns-in-Idle
returns-in-Idle c = grind (arith, common_steps)

pub returns-in-T11 : goal.returns-in-T11
returns-in-T11 c = grind (arith, common_steps)

pub returns-in-T12 : goal.returns-in-T12
returns-in-T12 c = grind (arith, common_steps)

pub returns-in-T13 : goal.returns-in-T13
returns-in-T13 c = grind (arith, common_steps)

pub returns-in-T21 : goal.returns-in-T21
returns-in-T21 c = grind (arith, common_steps)

pub returns-in-T22 : goal.returns-in-T22
returns-in-T22 c = grind (arith, common_steps)

pub returns-in-T23 : goal.returns-in-T23
returns-in-T23 c = grind (arith, common_steps)
