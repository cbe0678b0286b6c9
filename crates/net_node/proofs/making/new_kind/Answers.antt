use Rattle.std.proofs.Common.{Some, sym, ap, ◌∙◌}
use Rattle.net_config.specs.PlannedView.{planned_value}
use Rattle.net_node.proofs.Plans.{can_make}
use Rattle.net_node.proofs.making.new_kind.Goals as goal

pub new_switch-requires : goal.new_switch-requires
new_switch-requires c =
    can_make c.args.plan.now c.args.place c.in-Switch.switch c.requires.plan
    (c.requires.there ∙ ap Some (sym c.node.view_is ∙ ap planned_value c.in-Switch.is))
