use Rattle.std.proofs.Common.{rules, tests}
use Rattle.frame_lines.proofs.udp.UdpLine.over.Goals as goal

pub returns-clause-partners : goal.returns-clause-partners
returns-clause-partners g c = search (rules, tests)
