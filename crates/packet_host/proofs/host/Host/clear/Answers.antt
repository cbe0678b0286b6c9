use Rattle.std.proofs.Common.{rules, tests}
use Rattle.packet_host.proofs.host.Host.clear.Goals as goal

pub returns-clause-answer : goal.returns-clause-answer
returns-clause-answer c = search (rules, tests)

pub returns-clause-host : goal.returns-clause-host
returns-clause-host c = search (rules, tests)

pub returns-clause-frames : goal.returns-clause-frames
returns-clause-frames c = search (rules, tests)
