use Rattle.std.proofs.Common.{◌≡◌, take}
use Rattle.std.specs.List.{fold}
use Rattle.x3_params.specs.Table.{profile_values}
use Rattle.net_config.specs.Plan.{set_one}
use Rattle.net_config.proofs.plan.initial_params.Given as goal

abbrev pub invariant-loop-setting : goal.invariant-loop-setting
invariant-loop-setting l =
    l.params ≡ fold set_one (profile_values l.fn.pad.profile l.fn.pad.speed) (take l.setting-index l.setting-items)
