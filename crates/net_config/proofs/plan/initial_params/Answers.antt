use Rattle.std.proofs.Common.{get_or, sym, ap, ◌∙◌}
use Rattle.std.proofs.lemmas.List.Sums.{fold_more}
use Rattle.x3_params.specs.Table.{profile_values}
use Rattle.net_config.specs.Plan.{set_one}
use Rattle.net_config.specs.declared.config.Setting.{Setting}
use Rattle.net_config.proofs.plan.initial_params.Goals as goal

no_setting : Setting
no_setting = record { number = 0; value = 0 }

pub loop-setting-preserved : goal.loop-setting-preserved
unfolding no_setting
loop-setting-preserved c =
    let settings = c.deref-setting-items.result.now in
    let at = c.loop-setting.setting-index in
    let first = profile_values c.args.pad.now.profile c.args.pad.now.speed in
    c.set_one.ensures
    ∙ ap (λ values. set_one values (get_or settings at no_setting)) c.loop-setting.invariant
    ∙ sym (fold_more set_one first settings at no_setting c.loop-setting-test.true)
