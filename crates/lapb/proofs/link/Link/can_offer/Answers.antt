use Rattle.std.proofs.Common.{rules, tests}
use Rattle.lapb.proofs.link.Link.can_offer.Goals as goal

pub returns-in-Up : goal.returns-in-Up
returns-in-Up c = search (rules, tests)
