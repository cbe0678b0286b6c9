-- What the pairs so far make of the settings, and what each came to.
use Rattle.std.proofs.Common.{◌≡◌, length, take}
use Rattle.pad_terminal.specs.Settings as spec
use Rattle.pad_terminal.proofs.settings.Settings.set_all.Given as goal

abbrev pub invariant-loop-number : goal.invariant-loop-number
invariant-loop-number l =
    (record { settings = l.self; report = l.report.items } ≡ spec.after_pairs (take l.number-index l.pairs) l.fn.self)
    × (length l.report.items ≡ l.number-index)
