use Rattle.std.proofs.Common.{◌≡◌, true, true≢false, inl, inr, [], ◌∷◌, map, slice_get, sym, ap, ◌∙◌, subst, arith}
use Rattle.call_records.specs.Register.{made_register}
use Rattle.net_config.specs.NetPlan.{NewLine, NetPlan}
use Rattle.net_events.specs.Opening.{line_plan}
use Rattle.net_node.specs.Making.{AreFree, stands}
use Rattle.net_events.proofs.Lists.{there}
use Rattle.net_node.proofs.NewNodes.{are_free, one_stands, some_line}
use Rattle.net_node.proofs.Plans.{free_or_unaddressed}
use Rattle.net_node.proofs.making.new_register.Goals as goal

pub free_register-requires : goal.free_register-requires
free_register-requires c =
    let lines = ap (λ (p : NetPlan). p.lines) c.plan.view_is in
    subst AreFree (sym (c.deref-then-not-stands.ensures.value ∙ lines))
    (are_free c.args.plan.now c.requires.alone (ap stands (sym (c.deref.ensures.value ∙ lines)) ∙ sym c.if-not-stands.ensures))

pub standing-requires : goal.standing-requires
standing-requires c =
    let lines = ap (λ (p : NetPlan). p.lines) c.plan.view_is in
    let some : stands c.plan.inside.lines.items ≡ true = ap stands (sym c.deref.ensures.value) ∙ sym c.if-not-stands.ensures in
    let h = some_line c.plan.inside.lines.items some in
    let at = ap (λ xs. slice_get xs 0) (sym lines) ∙ there c.plan.inside.lines.items 0 _ c.index-line.result.now h c.index-line.ensures in
    let params = (c.requires.plan.lines 0 c.index-line.result.now at).params in
    let same = ap (λ (l : NewLine). l.params.channels) c.line.view_is in
    omega (arith, params.layer.channels_least, same)

pub returns-clause-ok : goal.returns-clause-ok
returns-clause-ok c =
    let lines = ap (λ (p : NetPlan). p.lines) c.plan.view_is in
    let some : stands c.plan.inside.lines.items ≡ true = ap stands (sym c.deref.ensures.value) ∙ sym c.if-not-stands.ensures in
    let h = some_line c.plan.inside.lines.items some in
    let at = ap (λ xs. slice_get xs 0) (sym lines) ∙ there c.plan.inside.lines.items 0 _ c.index-line.result.now h c.index-line.ensures in
    let one = one_stands c.args.plan.now c.requires.alone (ap stands (sym lines) ∙ some) c.index-line.result.now at in
    let no_address : [] ≡ c.index-line.result.now.address = elim (free_or_unaddressed c.args.plan.now 0 c.index-line.result.now c.requires.plan at) [
      | inl none ↦ sym none
      | inr free ↦ absurd (true≢false (sym one.1 ∙ free))
    ] in
    c.in_ok-standing.ensures
    ∙ ap made_register ((λ i. record { dte_node = (c.line.view_is i).dte; dce_node = (c.line.view_is i).dce; address = no_address i; channels = (c.line.view_is i).params.channels; standing = sym one.1 i } ∷ [])
    ∙ ap (map line_plan) (sym one.0))
