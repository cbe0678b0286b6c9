-- On the own lines so far no timer is due.
use Rattle.std.proofs.Common.{◌≡◌, drop}
use Rattle.net_events.specs.NextDue.{due_on_lines}
use Rattle.net_node.proofs.node.first_due.Given as goal

abbrev pub invariant-loop-own : goal.invariant-loop-own
invariant-loop-own l = due_on_lines l.lines l.switch.lines ≡ due_on_lines (drop l.own l.lines) (drop l.own l.switch.lines)
