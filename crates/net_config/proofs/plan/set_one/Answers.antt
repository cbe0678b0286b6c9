use Rattle.x3_params.specs.Values.{fault_of}
use Rattle.net_config.proofs.Answering.{set_by}
use Rattle.net_config.proofs.plan.set_one.Goals as goal

pub returns : goal.returns
returns c =
    set_by (fault_of c.args.setting.now.number c.args.setting.now.value) _ _ _ c.set.result
    c.set.ensures.exact c.set.ensures.ok c.set.ensures.err
