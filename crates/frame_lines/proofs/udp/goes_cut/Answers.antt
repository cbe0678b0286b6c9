use Rattle.std.proofs.Common.{rules, tests}
use Rattle.frame_lines.proofs.udp.goes_cut.Goals as goal

pub returns-in-Ok : goal.returns-in-Ok
returns-in-Ok g c = search (rules, tests)
