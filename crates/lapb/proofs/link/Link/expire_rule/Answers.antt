use Rattle.std.proofs.Common.{rules, tests}
use Rattle.lapb.proofs.link.Link.expire_rule.Goals as goal

pub returns-then-self-clause-link : goal.returns-then-self-clause-link
returns-then-self-clause-link c = search (rules, tests)

pub returns-then-self-clause-out : goal.returns-then-self-clause-out
returns-then-self-clause-out c = search (rules, tests)
