use Rattle.lapb.proofs.Naming.{named_on_t1}
use Rattle.lapb.proofs.link.Link.on_t1.Goals as goal

pub returns-clause-named : goal.returns-clause-named
returns-clause-named c = named_on_t1 c.args.self.now.link
