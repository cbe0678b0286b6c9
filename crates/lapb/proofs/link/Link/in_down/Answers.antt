use Rattle.std.proofs.Common.{rules, tests}
use Rattle.lapb.proofs.link.Link.in_down.Goals as goal

pub returns-in-Dte-Sabm-clause-link : goal.returns-in-Dte-Sabm-clause-link
returns-in-Dte-Sabm-clause-link c = search (rules, tests)

pub returns-in-Dte-Sabm-clause-out : goal.returns-in-Dte-Sabm-clause-out
returns-in-Dte-Sabm-clause-out c = search (rules, tests)

pub returns-in-Dte-Sabm-clause-anew : goal.returns-in-Dte-Sabm-clause-anew
returns-in-Dte-Sabm-clause-anew c = search (rules, tests)
