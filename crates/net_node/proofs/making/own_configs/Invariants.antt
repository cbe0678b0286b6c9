-- The own lines so far have their configurations.
use Rattle.std.proofs.Common.{◌≡◌, take}
use Rattle.net_events.specs.Opening.{own_configs}
use Rattle.net_node.proofs.making.own_configs.Given as goal

abbrev pub invariant-loop-at : goal.invariant-loop-at
invariant-loop-at l = l.configs.items ≡ own_configs l.place (take l.at l.own) l.plan.lines
