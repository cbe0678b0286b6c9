-- The indications so far.
use Rattle.std.proofs.Common.{◌≡◌, length, map, take}
use Rattle.pad_terminal.specs.Messages as spec
use Rattle.pad_terminal.proofs.terminal.messages.indication.Given as goal

abbrev pub invariant-loop-setting : goal.invariant-loop-setting
invariant-loop-setting l =
    (l.pairs.items ≡ map spec.indicated (take l.setting-index l.setting-items))
    × (length l.pairs.items ≡ l.setting-index)
