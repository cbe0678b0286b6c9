use Rattle.std.proofs.Common.{◌≡◌, ◌+◌, ℕ, suc, drop, sym, ap, ◌∙◌, arith, Option, Some}
use Rattle.link_timers.specs.declared.timers.TimerId.{TimerId}
use Rattle.net_events.specs.NextDue.{first_on, due_on_lines}
use Rattle.net_node.proofs.Due.{none_over, due_step}
use Rattle.net_node.proofs.node.first_due.Goals as goal

pub returns-then-own-lines : goal.returns-then-own-lines
returns-then-own-lines c =
    sym (c.loop-own.invariant ∙ none_over c.args.lines.now c.args.switch.now.lines c.loop-own.own (omega (arith, c.if-own-lines.true, c.lines.ensures.count)))

pub returns-in-Some : goal.returns-in-Some
returns-in-Some c =
    sym (c.loop-own.invariant
    ∙ due_step c.args.lines.now c.args.switch.now.lines c.loop-own.own (omega (arith, c.loop-own-test.true, c.loop-own.auto.own-end)) (omega (arith, c.if-own-lines.false, c.lines.ensures.count))
    ∙ ap (λ (o : Option TimerId). first_on (Rattle.net_events.specs.AtSwitch.network_line c.args.lines.now c.loop-own.own) o (due_on_lines (drop (suc c.loop-own.own) c.args.lines.now) (drop (suc c.loop-own.own) c.args.switch.now.lines))) (sym c.due.ensures ∙ c.in-Some.is)
    ∙ ap (λ (k : ℕ). Some (k, c.in-Some.timer)) (sym c.network_line.ensures))

pub loop-own-preserved : goal.loop-own-preserved
loop-own-preserved c =
    let next : suc c.loop-own.own ≡ c.loop-own.own + 1 = omega arith in
    c.loop-own.invariant
    ∙ due_step c.args.lines.now c.args.switch.now.lines c.loop-own.own (omega (arith, c.loop-own-test.true, c.loop-own.auto.own-end)) (omega (arith, c.if-own-lines.false, c.lines.ensures.count))
    ∙ ap (λ (o : Option TimerId). first_on (Rattle.net_events.specs.AtSwitch.network_line c.args.lines.now c.loop-own.own) o (due_on_lines (drop (suc c.loop-own.own) c.args.lines.now) (drop (suc c.loop-own.own) c.args.switch.now.lines))) (sym c.due.ensures ∙ c.in-None.is)
    ∙ ap (λ (k : ℕ). due_on_lines (drop k c.args.lines.now) (drop k c.args.switch.now.lines)) next
