-- The ports that are left are there still, and the others are settled.
use Rattle.x25_pad.proofs.Settling.{IsOnTheWay}
use Rattle.x25_pad.proofs.pad.events.settle_ports.Given as goal

abbrev pub invariant-loop-number : goal.invariant-loop-number
invariant-loop-number l = IsOnTheWay l.line l.touched l.waiting l.fn.ports l.ports

abbrev pub decreases-loop-number : goal.decreases-loop-number
decreases-loop-number l = l.touched.bits
