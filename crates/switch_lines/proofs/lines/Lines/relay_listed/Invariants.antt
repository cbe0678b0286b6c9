-- What is left of the lines makes the same as all of them did at the beginning.
use Rattle.std.proofs.Common.{◌≡◌, drop}
use Rattle.switch_lines.specs.Relay.{relayed_from, legs_of}
use Rattle.switch_lines.proofs.lines.Lines.relay_listed.Given as goal

abbrev pub invariant-loop-line : goal.invariant-loop-line
invariant-loop-line l =
    relayed_from (legs_of (drop l.line-index l.lines) l.self) l.self ≡ relayed_from (legs_of l.lines l.fn.self) l.fn.self
