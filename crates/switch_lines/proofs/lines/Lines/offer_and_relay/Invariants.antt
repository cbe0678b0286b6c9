-- What is left of the rounds makes the same lines as all of them did at the beginning.
use Rattle.std.proofs.Common.{◌≡◌, ◌-◌, []}
use Rattle.switch_lines.specs.Alone.{offered_alone}
use Rattle.switch_lines.proofs.Ending.{rounds_after}
use Rattle.switch_lines.proofs.lines.Lines.offer_and_relay.Given as goal

abbrev pub invariant-loop : goal.invariant-loop
invariant-loop l = rounds_after (l.end - l.counter) l.self ≡ offered_alone [] l.fn.self
