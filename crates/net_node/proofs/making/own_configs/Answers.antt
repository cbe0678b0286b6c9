use Rattle.std.proofs.Common.{◌≡◌, ◌<◌, ◌++◌, [], ◌∷◌, length, take, sym, ap, ◌∙◌, arith}
use Rattle.std.specs.Prelude.{unwrap_or, slice_get}
use Rattle.std.proofs.lemmas.List.{take_more}
use Rattle.std.proofs.lemmas.Option.{get_or_from_slice_get}
use Rattle.net_config.specs.NetPlan.{NetPlan}
use Rattle.net_events.specs.Opening.{line_config, own_configs}
use Rattle.net_events.proofs.Lists.{found, at_index}
use Rattle.net_node.proofs.Plans.{configs_more}
use Rattle.net_node.proofs.making.own_configs.Goals as goal

pub index-requires : goal.index-requires
index-requires c =
    let own = c.args.own.now in
    let at = c.loop-at.at in
    let h : at < length own = omega (arith, c.loop-at-test.true, c.loop-at.auto.at-end) in
    let k = at_index own at h in
    let number : c.network_line-number.result ≡ k.0 = c.network_line-number.ensures ∙ ap (λ o. unwrap_or o 0) k.1 in
    let less = c.requires.each at k.0 k.1 in
    let lines = ap (λ (p : NetPlan). length p.lines) c.plan.view_is in
    omega (arith, less, lines, number)

pub loop-at-preserved : goal.loop-at-preserved
loop-at-preserved c =
    let own = c.args.own.now in
    let place = c.args.place in
    let at = c.loop-at.at in
    let h : at < length own = omega (arith, c.loop-at-test.true, c.loop-at.auto.at-end) in
    let k = at_index own at h in
    let lines = c.args.plan.now.lines in
    let number : c.network_line-number.result ≡ k.0 = c.network_line-number.ensures ∙ ap (λ o. unwrap_or o 0) k.1 in
    let less = c.requires.each at k.0 k.1 in
    let e = at_index lines k.0 less in
    let inside = ap (λ (p : NetPlan). p.lines) c.plan.view_is in
    let line_there = ap (λ xs. slice_get xs c.network_line-number.result) inside ∙ ap (slice_get lines) number ∙ e.1 in
    let count = ap length inside in
    let line = found c.plan.inside.lines.items c.network_line-number.result _ c.index.result.now e.0 (omega (arith, less, number, count)) c.index.ensures line_there in
    let more = take_more own at 0 h ∙ ap (λ n. take at own ++ n ∷ []) (get_or_from_slice_get own at k.0 0 k.1) in
    c.in_ok-push.ensures.items
    ∙ (λ i. c.loop-at.invariant i ++ (c.line_config.ensures ∙ ap (line_config place) line) i ∷ [])
    ∙ sym (configs_more place (take at own) k.0 lines e.0 e.1)
    ∙ ap (λ xs. own_configs place xs lines) (sym more)
