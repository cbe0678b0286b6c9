use Rattle.live_net.proofs.Parts.{brought}
use Rattle.live_net.proofs.part.LivePart.bring.Goals as goal

pub invariant_of-self : goal.invariant_of-self
invariant_of-self g c =
    (brought g.L.Line.service c.args.line c.args.direction c.args.frame.now _ _ c.self.invariant.0 c.put_on.ensures.put c.put_on.ensures.untouched, c.self.invariant.1)

pub returns : goal.returns
returns g c = rw (← c.self.view_is) c.put_on.ensures
