use Rattle.link_timers.proofs.PlaceLaws.{others_stay}
use Rattle.link_timers.proofs.timers.Timers.stop.Goals as goal

pub returns-in-Some-clause-others : goal.returns-in-Some-clause-others
returns-in-Some-clause-others c =
    others_stay c.self.inside.left c.args.self.now c.in-Some.place c.args.id _ c.self.view_is
    c.in-Some.ensures.0 c.self.invariant
