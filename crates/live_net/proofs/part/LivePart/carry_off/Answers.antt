use Rattle.live_net.proofs.Parts.{carried_off}
use Rattle.live_net.proofs.part.LivePart.carry_off.Goals as goal

pub invariant_of-self : goal.invariant_of-self
invariant_of-self g c =
    (carried_off g.L.Line.service c.args.line c.args.direction _ _ c.hand_on.result c.hand_on.new.frame c.self.invariant.0 c.hand_on.ensures.handed c.hand_on.ensures.untouched, c.self.invariant.1)

pub returns : goal.returns
returns g c = rw (← c.self.view_is) c.hand_on.ensures
