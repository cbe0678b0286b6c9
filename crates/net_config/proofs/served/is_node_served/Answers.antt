use Rattle.std.proofs.Common.{rules, tests}
use Rattle.net_config.proofs.served.is_node_served.Goals as goal

pub returns-then-is_kind_served : goal.returns-then-is_kind_served
returns-then-is_kind_served c = search (rules, tests)
