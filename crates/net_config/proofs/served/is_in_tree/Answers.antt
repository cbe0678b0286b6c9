use Rattle.std.proofs.Common.{rules, tests}
use Rattle.net_config.proofs.served.is_in_tree.Goals as goal

pub returns-then-leads_back : goal.returns-then-leads_back
returns-then-leads_back c = search (rules, tests)
