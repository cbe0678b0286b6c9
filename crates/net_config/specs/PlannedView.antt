-- What the code's plan has for a node in the rules.
use Rattle.net_config.specs.NetPlan.{Planned, PlannedUser, PlannedSwitch}
use Rattle.net_config.specs.declared.plan.PlannedKind.{PlannedKind}
use Rattle.net_config.specs.declared.plan.PlannedKind.TheVariants as planned_is

abbrev pub planned_value : PlannedKind → Planned
planned_value (planned_is.User node) = PlannedUser node
planned_value (planned_is.Switch switch) = PlannedSwitch switch
