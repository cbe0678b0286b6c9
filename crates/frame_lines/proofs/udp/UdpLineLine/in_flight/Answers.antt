use Rattle.std.proofs.Common.{rules, tests}
use Rattle.frame_lines.proofs.udp.UdpLineLine.in_flight.Goals as goal

pub returns : goal.returns
returns g c = search (rules, tests)
