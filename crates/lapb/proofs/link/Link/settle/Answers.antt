use Rattle.std.proofs.Common.{subst, sym}
use Rattle.lapb.specs.Held.{Link}
use Rattle.lapb.specs.Unsent.{HasSentAll}
use Rattle.lapb.proofs.Naming.{named_settle}
use Rattle.lapb.proofs.Unsent.{sends_sendable}
use Rattle.lapb.proofs.link.Link.settle.Goals as goal

pub returns-then-eq-clause-named : goal.returns-then-eq-clause-named
returns-then-eq-clause-named c = named_settle c.args.self.now.link

pub returns-then-eq-clause-all_sent : goal.returns-then-eq-clause-all_sent
returns-then-eq-clause-all_sent c =
    subst (λ (x : Link). HasSentAll x.link) (sym c.settle_up.ensures.link) (sends_sendable c.args.self.now.link)

pub returns-else-eq-clause-named : goal.returns-else-eq-clause-named
returns-else-eq-clause-named c = named_settle c.args.self.now.link
