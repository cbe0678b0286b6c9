use Rattle.std.proofs.Common.{rules}
use Rattle.lapb.proofs.link.Link.on_information.Goals as goal

pub returns-then-ns-expected-clause-link : goal.returns-then-ns-expected-clause-link
returns-then-ns-expected-clause-link c packet = let accepted = c.accept.ensures.link packet in search (rules, accepted)

pub returns-then-ns-expected-clause-out : goal.returns-then-ns-expected-clause-out
returns-then-ns-expected-clause-out c packet = let accepted = c.accept.ensures.out packet in search (rules, accepted)
