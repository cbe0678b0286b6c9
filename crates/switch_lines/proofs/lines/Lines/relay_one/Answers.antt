use Rattle.std.proofs.Common.{refl, ◌∙◌, sym, arith}
use Rattle.switch_lines.specs.Lines.{front_at}
use Rattle.switch_lines.proofs.Relaying.{moves_front, moves_refused, moves_length}
use Rattle.switch_lines.proofs.Waiting.{stuck_unmoved}
use Rattle.switch_lines.proofs.lines.Lines.relay_one.Goals as goal

pub release-requires : goal.release-requires
release-requires c =
    let same = moves_length c.args.self.now c.move_front.new.self c.args.leg c.in-Some.other c.in-Some-front.front
    (front_at c.args.self.now c.args.leg) refl c.in-Some-front.ensures c.move_front.ensures in
    omega (arith, same, c.in-Some.ensures.there.0)

pub returns-clause-lines : goal.returns-clause-lines
returns-clause-lines c =
    c.release.ensures ∙ moves_front c.args.self.now c.move_front.new.self c.args.leg c.in-Some.other c.in-Some-front.front
    (front_at c.args.self.now c.args.leg) refl c.in-Some.ensures.other c.in-Some-front.ensures
    c.if-not-may_take.ensures c.move_front.ensures

pub returns-then-not-may_take-clause-stuck : goal.returns-then-not-may_take-clause-stuck
returns-then-not-may_take-clause-stuck c =
    moves_refused c.args.self.now c.args.leg c.in-Some.other c.in-Some.ensures.other c.if-not-may_take.ensures

pub returns-then-not-may_take-clause-lines : goal.returns-then-not-may_take-clause-lines
returns-then-not-may_take-clause-lines c =
    sym (stuck_unmoved c.args.self.now c.args.leg
    (moves_refused c.args.self.now c.args.leg c.in-Some.other c.in-Some.ensures.other c.if-not-may_take.ensures))
