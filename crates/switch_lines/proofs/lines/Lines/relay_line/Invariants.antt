-- What is left of the channels makes the same lines as all of them did at the beginning.
use Rattle.std.proofs.Common.{◌≡◌, ◌≤◌, ◌-◌}
use Rattle.std.specs.Prelude.{slice_get}
use Rattle.switch_lines.specs.Relay.{relayed_from, legs_at, places_of}
use Rattle.switch_lines.proofs.Legs.{from_channel}
use Rattle.switch_lines.proofs.lines.Lines.relay_line.Given as goal

abbrev pub invariant-loop-channel : goal.invariant-loop-channel
invariant-loop-channel l = record {
  left : from_channel l.line l.next l.end l.self
      ≡ relayed_from (legs_at (places_of l.line (slice_get l.fn.self l.line)) l.fn.self) l.fn.self;
  least : 1 ≤ l.next;
  most : l.next ≤ l.end;
}

abbrev pub decreases-loop-channel : goal.decreases-loop-channel
decreases-loop-channel l = l.end - l.next
