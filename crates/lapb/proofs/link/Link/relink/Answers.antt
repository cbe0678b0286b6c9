use Rattle.lapb.proofs.Naming.{named_relink}
use Rattle.lapb.proofs.link.Link.relink.Goals as goal

pub returns-clause-named : goal.returns-clause-named
returns-clause-named c = named_relink c.args.self.now.link
