-- The values so far.
use Rattle.std.proofs.Common.{◌≡◌, length, map, take}
use Rattle.pad_terminal.specs.Commands as spec
use Rattle.pad_terminal.proofs.terminal.commands.parameters.Given as goal

abbrev pub invariant-loop-setting : goal.invariant-loop-setting
invariant-loop-setting l =
    (l.values.items ≡ map spec.parameter_value (take l.setting-index l.setting-items))
    × (length l.values.items ≡ l.setting-index)
