-- The values of the numbers so far.
use Rattle.std.proofs.Common.{◌≡◌, length, map, take}
use Rattle.pad_terminal.specs.Settings as spec
use Rattle.pad_terminal.proofs.settings.Settings.read_each.Given as goal

abbrev pub invariant-loop-number : goal.invariant-loop-number
invariant-loop-number l =
    (l.report.items ≡ map (spec.reading_of l.self.params) (take l.number-index l.numbers))
    × (length l.report.items ≡ l.number-index)
