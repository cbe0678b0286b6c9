-- What is left of the moves makes the same lines as all of them did at the beginning.
use Rattle.std.proofs.Common.{◌≡◌, ◌-◌}
use Rattle.switch_lines.specs.Relay.{relayed, most_moves}
use Rattle.switch_lines.proofs.lines.Lines.relay_channel.Given as goal

abbrev pub invariant-loop : goal.invariant-loop
invariant-loop l = relayed (33 - l.counter) l.leg l.self ≡ relayed most_moves l.leg l.fn.self
