-- The parameters so far stand at the end.
use Rattle.std.proofs.Common.{◌≡◌, ◌≤◌, ◌+◌, ◌*◌, ◌++◌, length, take}
use Rattle.std.specs.List.{flat_map}
use Rattle.x28_commands.specs.Signals.{next_text}
use Rattle.x28_commands.proofs.writing.write_rest.Given as goal

abbrev pub invariant-loop-parameter : goal.invariant-loop-parameter
invariant-loop-parameter g l =
    (l.out.items ≡ l.fn.out.items ++ flat_map next_text (take l.parameter-index l.parameters))
    × (length l.out.items ≤ length l.fn.out.items + 8 * l.parameter-index)
