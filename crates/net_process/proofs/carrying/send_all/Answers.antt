use Rattle.std.proofs.Common.{◌≡◌, ℕ, List, ap, ◌∙◌}
use Rattle.net_process.specs.Carrying.{send}
use Rattle.net_process.proofs.Sending.{Takes, FindsNone, takes_if, finds_none_if, fewer, less_all, sending_none, sending_more, sending_all, sent_is}
use Rattle.net_process.proofs.carrying.send_all.Goals as goal

pub loop-direction-init : goal.loop-direction-init
loop-direction-init g c = sending_none c.args.line c.args.direction c.args.part.now c.args.remote.now

pub loop-direction-smaller : goal.loop-direction-smaller
loop-direction-smaller g c =
    fewer c.args.line c.args.direction c.loop-direction.part c.carry_off.new.frame c.carry_off.new.self
    (takes_if g.L.Line.service c.requires c.args.line c.args.direction c.loop-direction.part c.carry_off.result
    c.carry_off.new.frame c.carry_off.new.self c.loop-direction-test.true c.carry_off.ensures.handed c.carry_off.ensures.beyond)

pub loop-direction-preserved : goal.loop-direction-preserved
loop-direction-preserved g c =
    let sent : c.send.new.self ≡ send c.loop-direction.remote c.carry_off.new.frame =
    sent_is c.loop-direction.remote c.send.new.self c.as_slice.result.now c.send.result c.send.ensures.taken
    c.send.ensures.sent c.send.ensures.lost
    ∙ ap (λ (frame : List ℕ). send c.loop-direction.remote frame) c.as_slice.ensures.value in
    sending_more c.args.line c.args.direction c.args.part.now c.args.remote.now c.loop-direction.part c.loop-direction.remote
    c.carry_off.new.frame c.carry_off.new.self c.send.new.self c.loop-direction.invariant
    (takes_if g.L.Line.service c.requires c.args.line c.args.direction c.loop-direction.part c.carry_off.result
    c.carry_off.new.frame c.carry_off.new.self c.loop-direction-test.true c.carry_off.ensures.handed c.carry_off.ensures.beyond)
    sent

pub returns-clause-part : goal.returns-clause-part
returns-clause-part g c =
    less_all c.args.line c.args.direction c.args.part.now c.loop-direction.part c.carry_off.new.self
    c.loop-direction.invariant.less
    (finds_none_if g.L.Line.service c.requires c.args.line c.args.direction c.loop-direction.part c.carry_off.result
    c.carry_off.new.frame c.carry_off.new.self c.loop-direction-test.false c.carry_off.ensures.handed c.carry_off.ensures.untouched)

pub returns-clause-remote : goal.returns-clause-remote
returns-clause-remote g c =
    sending_all c.args.line c.args.direction c.args.part.now c.args.remote.now c.loop-direction.part c.loop-direction.remote
    c.carry_off.new.self c.loop-direction.invariant
    (finds_none_if g.L.Line.service c.requires c.args.line c.args.direction c.loop-direction.part c.carry_off.result
    c.carry_off.new.frame c.carry_off.new.self c.loop-direction-test.false c.carry_off.ensures.handed c.carry_off.ensures.untouched)
