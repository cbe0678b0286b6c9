use Rattle.std.proofs.Common.{rules, tests}
use Rattle.lapb.proofs.link.Link.in_setting_up.Goals as goal

pub returns-then-frame-self-clause-link : goal.returns-then-frame-self-clause-link
returns-then-frame-self-clause-link c = search (rules, tests)

pub returns-then-frame-self-clause-out : goal.returns-then-frame-self-clause-out
returns-then-frame-self-clause-out c = search (rules, tests)

pub returns-then-frame-self-clause-anew : goal.returns-then-frame-self-clause-anew
returns-then-frame-self-clause-anew c = search (rules, tests)
