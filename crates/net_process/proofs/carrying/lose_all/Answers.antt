use Rattle.net_process.proofs.Sending.{takes_if, finds_none_if, fewer, less_none, less_more, less_all}
use Rattle.net_process.proofs.carrying.lose_all.Goals as goal

pub loop-direction-init : goal.loop-direction-init
loop-direction-init g c = less_none c.args.line c.args.direction c.args.part.now

pub loop-direction-smaller : goal.loop-direction-smaller
loop-direction-smaller g c =
    fewer c.args.line c.args.direction c.loop-direction.part c.carry_off.new.frame c.carry_off.new.self
    (takes_if g.L.Line.service c.requires c.args.line c.args.direction c.loop-direction.part c.carry_off.result
    c.carry_off.new.frame c.carry_off.new.self c.loop-direction-test.true c.carry_off.ensures.handed c.carry_off.ensures.beyond)

pub loop-direction-preserved : goal.loop-direction-preserved
loop-direction-preserved g c =
    less_more c.args.line c.args.direction c.args.part.now c.loop-direction.part c.carry_off.new.frame c.carry_off.new.self
    c.loop-direction.invariant
    (takes_if g.L.Line.service c.requires c.args.line c.args.direction c.loop-direction.part c.carry_off.result
    c.carry_off.new.frame c.carry_off.new.self c.loop-direction-test.true c.carry_off.ensures.handed c.carry_off.ensures.beyond)

pub returns : goal.returns
returns g c =
    less_all c.args.line c.args.direction c.args.part.now c.loop-direction.part c.carry_off.new.self c.loop-direction.invariant
    (finds_none_if g.L.Line.service c.requires c.args.line c.args.direction c.loop-direction.part c.carry_off.result
    c.carry_off.new.frame c.carry_off.new.self c.loop-direction-test.false c.carry_off.ensures.handed c.carry_off.ensures.untouched)
