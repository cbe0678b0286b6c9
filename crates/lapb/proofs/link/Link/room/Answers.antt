use Rattle.std.proofs.Common.{rules, tests}
use Rattle.lapb.proofs.link.Link.room.Goals as goal

pub returns : goal.returns
returns c = search (rules, tests)
