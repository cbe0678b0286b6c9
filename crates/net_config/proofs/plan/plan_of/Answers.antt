use Rattle.std.proofs.Common.{rules, ◌≡◌, true, sym, subst}
use Rattle.net_config.specs.NetPlan.{IsPlan}
use Rattle.net_config.specs.Served.{is_served}
use Rattle.net_config.specs.Plan.{StandsAlone}
use Rattle.net_config.proofs.Answering.{on_ok, if_ok, if_err, no_memory}
use Rattle.net_config.proofs.Planning.{plan_law}
use Rattle.net_config.proofs.plan.plan_of.Goals as goal

pub returns : goal.returns
returns c =
    let config = c.args.config.now in
    let served : is_served c.args.config.now ≡ true = search rules in
    record {
      served = on_ok c.new_plan.result _ served;
      value = c.new_plan.ensures.ok;
      plan = if_ok c.new_plan.result _ _ c.new_plan.ensures.ok (λ p e. subst IsPlan (sym e) ((plan_law config served).0));
      alone = if_ok c.new_plan.result _ _ c.new_plan.ensures.ok (λ p e. subst StandsAlone (sym e) (plan_law config served).1);
      faults = if_err c.new_plan.result _ _ c.new_plan.ensures.err (no_memory config served);
    }
