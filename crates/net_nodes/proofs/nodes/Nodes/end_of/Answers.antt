use Rattle.std.proofs.Common.{◌<◌, length, Some, slice_get, sym, ap, ◌∙◌, subst, arith}
use Rattle.link_timers.specs.declared.role.Role.TheVariants.{Dte, Dce}
use Rattle.net_events.specs.Network.{NetLine}
use Rattle.net_nodes.specs.Places.{IsStanding}
use Rattle.net_nodes.proofs.Places.{has_line, as_dte, as_dce, at_line, of_user}
use Rattle.net_events.proofs.Lists.{there}
use Rattle.net_nodes.proofs.nodes.Nodes.end_of.Goals as goal

pub returns-then-line-len : goal.returns-then-line-len
returns-then-line-len g c =
    let nodes = c.self.inside.nodes.items in
    let st = subst IsStanding (sym c.self.view_is) c.requires in
    let h : c.args.place < length nodes = omega (arith, c.if-place-len.false, c.len.ensures) in
    let u = of_user c.index.result.now c.in-Some.line (sym c.line.ensures ∙ c.in-Some.is) in
    let here = there nodes c.args.place _ c.index.result.now h c.index.ensures ∙ ap Some u.1.0 in
    let short = has_line _ c.args.place u.0 st here in
    let line = u.1.1 in
    absurd (omega (arith, short, line, c.if-line-len.true, c.len-2.ensures))

pub returns-then-index-place : goal.returns-then-index-place
returns-then-index-place g c =
    let nodes = c.self.inside.nodes.items in
    let lines = c.self.inside.lines.items in
    let h : c.args.place < length nodes = omega (arith, c.if-place-len.false, c.len.ensures) in
    let k : c.in-Some.line < length lines = omega (arith, c.if-line-len.false, c.len-2.ensures) in
    let u = of_user c.index.result.now c.in-Some.line (sym c.line.ensures ∙ c.in-Some.is) in
    let node = there nodes c.args.place _ c.index.result.now h c.index.ensures ∙ ap Some u.1.0 in
    let there_line = there lines c.in-Some.line _ c.index-2.result.now k c.index-2.ensures in
    rw (← c.self.view_is)
    (at_line c.args.place c.in-Some.line Dte _ u.1.1
    (as_dte _ c.args.place u.0 c.index-2.result.now node (ap (λ i. slice_get lines i) u.1.1 ∙ there_line)
    (ap (λ (x : NetLine). x.dte) (sym c.behind-self.view_is) ∙ c.if-index-place.true)))

pub returns-else-index-place : goal.returns-else-index-place
returns-else-index-place g c =
    let nodes = c.self.inside.nodes.items in
    let lines = c.self.inside.lines.items in
    let st = subst IsStanding (sym c.self.view_is) c.requires in
    let h : c.args.place < length nodes = omega (arith, c.if-place-len.false, c.len.ensures) in
    let k : c.in-Some.line < length lines = omega (arith, c.if-line-len.false, c.len-2.ensures) in
    let u = of_user c.index.result.now c.in-Some.line (sym c.line.ensures ∙ c.in-Some.is) in
    let node = there nodes c.args.place _ c.index.result.now h c.index.ensures ∙ ap Some u.1.0 in
    let there_line = there lines c.in-Some.line _ c.index-2.result.now k c.index-2.ensures in
    rw (← c.self.view_is)
    (at_line c.args.place c.in-Some.line Dce _ u.1.1
    (as_dce _ c.args.place u.0 c.index-2.result.now st node (ap (λ i. slice_get lines i) u.1.1 ∙ there_line)
    (λ e. c.if-index-place.false (ap (λ (x : NetLine). x.dte) c.behind-self.view_is ∙ e))))
