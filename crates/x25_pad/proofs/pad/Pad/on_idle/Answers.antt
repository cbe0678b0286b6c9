use Rattle.std.proofs.Common.{arith}
use Rattle.x25_pad.proofs.pad.Pad.on_idle.Goals as goal

pub returns-clause-frames : goal.returns-clause-frames
returns-clause-frames c = grind (arith)
