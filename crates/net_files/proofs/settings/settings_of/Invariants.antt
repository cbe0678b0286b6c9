-- The settings of the pairs so far.
use Rattle.std.proofs.Common.{◌≡◌, map, take}
use Rattle.net_files.specs.Networks.{pair_of}
use Rattle.net_files.proofs.settings.settings_of.Given as goal

abbrev pub invariant-loop-number : goal.invariant-loop-number
invariant-loop-number l = map pair_of l.settings.items ≡ take l.number-index l.pairs
