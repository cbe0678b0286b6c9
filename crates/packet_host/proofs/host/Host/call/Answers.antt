use Rattle.std.proofs.Common.{rules, tests}
use Rattle.packet_host.proofs.host.Host.call.Goals as goal

pub returns-clause-host : goal.returns-clause-host
returns-clause-host c = search (rules, tests)

pub returns-clause-frames : goal.returns-clause-frames
returns-clause-frames c = search (rules, tests)
