-- No channel of the lines so far is known to refuse anything, and nothing else is left to relay.
use Rattle.std.proofs.Common.{◌≡◌, true, false}
use Rattle.number_set.specs.NumberSet as numbers
use Rattle.switch_joins.specs.ChannelSet.{has, is_small}
use Rattle.switch_lines.specs.Lines.{SwitchChannel}
use Rattle.switch_lines.specs.Pooled.{plain}
use Rattle.switch_lines.specs.Waiting.{NothingElseMoves}
use Rattle.switch_lines.proofs.lines.reopening.reopen.Given as goal

abbrev pub invariant-loop-line : goal.invariant-loop-line
invariant-loop-line l = record {
  moves : NothingElseMoves l.to_relay l.refusing (plain l.lines);
  none : (p : SwitchChannel) → is_small p ≡ true → numbers.has l.fn.which p.line ≡ true
      → numbers.has l.which p.line ≡ false → has l.refusing p ≡ false;
}

abbrev pub decreases-loop-line : goal.decreases-loop-line
decreases-loop-line l = l.which.bits
