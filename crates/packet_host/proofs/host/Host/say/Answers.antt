use Rattle.std.proofs.Common.{rules, tests}
use Rattle.packet_host.proofs.host.Host.say.Goals as goal

pub returns-then-most-octets-clause-answer : goal.returns-then-most-octets-clause-answer
returns-then-most-octets-clause-answer c = search (rules, tests)

pub returns-clause-answer : goal.returns-clause-answer
returns-clause-answer c = search (rules, tests)

pub returns-clause-host : goal.returns-clause-host
returns-clause-host c = search (rules, tests)
