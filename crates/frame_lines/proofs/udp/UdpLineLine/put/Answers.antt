use Rattle.std.proofs.Common.{rules, tests}
use Rattle.frame_lines.proofs.udp.UdpLineLine.put.Goals as goal

pub returns-then-is_cut : goal.returns-then-is_cut
returns-then-is_cut g c = search (rules, tests)

pub returns-else-is_cut : goal.returns-else-is_cut
returns-else-is_cut g c = search (rules, tests)
