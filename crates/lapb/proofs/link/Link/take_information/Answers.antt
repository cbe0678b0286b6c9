use Rattle.std.proofs.Common.{rules}
use Rattle.lapb.proofs.link.Link.take_information.Goals as goal

pub returns-clause-link : goal.returns-clause-link
returns-clause-link c packet = let taken = c.on_information.ensures.link packet in search (rules, taken)

pub returns-clause-out : goal.returns-clause-out
returns-clause-out c packet = let taken = c.on_information.ensures.out packet in search (rules, taken)
