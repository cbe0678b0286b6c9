-- What the readers of a network's document answer.
use Rattle.std.specs.Prelude.{◌≡◌, ◌⊎◌, Result, Ok, Err, Option, Some, None}
use Rattle.net_files.specs.declared.fault.ProgFault.{ProgFault}
use Rattle.net_files.specs.declared.fault.ProgFault.TheVariants.{NetText, OutOfMemory}

-- what stands there is given, seen as a value; where nothing does, it is no network's text
abbrev pub Finds : {A B : Type 0} → (A → B) → Result A ProgFault → Option B → Type 0
Finds value (Ok x) there = there ≡ Some (value x)
Finds value (Err fault) there = (fault ≡ NetText) × (there ≡ None)

-- what is given has the form; where nothing can, it is no network's text; and memory may be wanted
abbrev pub Makes : {A : Type 0} → (A → Type 0) → Result A ProgFault → Type 0
Makes Form (Ok x) = Form x
Makes Form (Err fault) = (fault ≡ OutOfMemory) ⊎ ((fault ≡ NetText) × ((x : _) → ¬ Form x))
