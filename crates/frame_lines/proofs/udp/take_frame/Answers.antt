use Rattle.std.proofs.Common.{rules, tests}
use Rattle.frame_lines.proofs.udp.take_frame.Goals as goal

pub returns-in-Ok-2-clause-takes : goal.returns-in-Ok-2-clause-takes
returns-in-Ok-2-clause-takes g c = search (rules, tests)
