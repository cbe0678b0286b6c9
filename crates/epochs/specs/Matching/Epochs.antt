-- The epochs of what passed on a call, in order, each with its items and its interrupts.
use Rattle.std.specs.Prelude.{List, [], ◌∷◌, ◌++◌, map}
use Rattle.epochs.specs.Item.{all_items}
use Rattle.epochs.specs.Epoch.{Epoch}
use Rattle.epochs.specs.Passed.{Part, Epochs}

abbrev pub all_parts : Epochs → List Part
all_parts e = e.before ++ e.last ∷ []

abbrev pub epoch_of : Part → Epoch
epoch_of p = record { items = all_items p.packets; interrupts = p.interrupts }

abbrev pub epochs_in : Epochs → List Epoch
epochs_in e = map epoch_of (all_parts e)
