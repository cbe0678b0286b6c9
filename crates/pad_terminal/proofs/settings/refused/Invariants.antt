-- The refused entries so far.
use Rattle.std.proofs.Common.{◌≡◌, ◌≤◌, length, take}
use Rattle.pad_terminal.specs.Settings as spec
use Rattle.pad_terminal.proofs.settings.refused.Given as goal

abbrev pub invariant-loop-setting : goal.invariant-loop-setting
invariant-loop-setting l =
    (l.refused.items ≡ spec.refused (take l.setting-index l.setting-items))
    × (length l.refused.items ≤ l.setting-index)
