use Rattle.std.proofs.Common.{◌≡◌, ◌-◌, ◌+◌, refl, ap, subst, ◌∙◌, sym, arith, List, ℕ}
use Rattle.switch_lines.specs.Lines.{SwitchLine}
use Rattle.switch_lines.specs.Relay.{relayed, most_moves}
use Rattle.switch_lines.specs.Waiting.{IsStuck}
use Rattle.switch_lines.proofs.Relaying.{one_moved}
use Rattle.switch_lines.proofs.Waiting.{stuck_unmoved, stuck_unrelayed}
use Rattle.switch_lines.proofs.lines.Lines.relay_channel.Goals as goal

pub loop-init : goal.loop-init
unfolding most_moves
loop-init c = refl

pub loop-preserved : goal.loop-preserved
loop-preserved c =
    ap (λ (ls : List SwitchLine). relayed (33 - (c.loop.counter + 1)) c.args.leg ls) c.relay_one.ensures.lines
    ∙ one_moved 33 c.loop.counter c.args.leg c.loop.self c.loop-test.true ∙ c.loop.invariant

pub returns-clause-lines : goal.returns-clause-lines
returns-clause-lines c =
    let over : 33 - c.loop.counter ≡ 0 = omega (arith, c.loop-test.false) in
    ap (λ (n : ℕ). relayed n c.args.leg c.loop.self) (sym over) ∙ c.loop.invariant

pub returns-then-not-relay_one-clause-lines : goal.returns-then-not-relay_one-clause-lines
returns-then-not-relay_one-clause-lines c =
    let stuck = c.if-not-relay_one.ensures.stuck in
    c.relay_one.ensures.lines ∙ stuck_unmoved c.loop.self c.args.leg stuck
    ∙ sym (stuck_unrelayed c.loop.self c.args.leg (33 - c.loop.counter) stuck) ∙ c.loop.invariant

pub returns-then-not-relay_one-clause-stuck : goal.returns-then-not-relay_one-clause-stuck
returns-then-not-relay_one-clause-stuck c =
    let stuck = c.if-not-relay_one.ensures.stuck in
    subst (λ (ls : List SwitchLine). IsStuck ls c.args.leg)
    (sym (c.relay_one.ensures.lines ∙ stuck_unmoved c.loop.self c.args.leg stuck)) stuck
