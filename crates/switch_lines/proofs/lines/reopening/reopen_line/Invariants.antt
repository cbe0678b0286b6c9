-- No channel below the next one is known to refuse anything, and nothing else is left to relay.
use Rattle.std.proofs.Common.{◌≡◌, ◌<◌, ◌≤◌, ◌-◌, false}
use Rattle.switch_joins.specs.ChannelSet.{has}
use Rattle.switch_lines.specs.Lines.{SwitchChannel}
use Rattle.switch_lines.specs.Pooled.{plain}
use Rattle.switch_lines.specs.Waiting.{NothingElseMoves}
use Rattle.switch_lines.proofs.lines.reopening.reopen_line.Given as goal

abbrev pub invariant-loop-channel : goal.invariant-loop-channel
invariant-loop-channel l = record {
  moves : NothingElseMoves l.to_relay l.refusing (plain l.lines);
  below : (p : SwitchChannel) → p.line ≡ l.line → p.channel < l.next → has l.refusing p ≡ false;
  fewer : (p : SwitchChannel) → has l.fn.refusing p ≡ false → has l.refusing p ≡ false;
  most : l.next ≤ 63;
}

abbrev pub decreases-loop-channel : goal.decreases-loop-channel
decreases-loop-channel l = 63 - l.next
