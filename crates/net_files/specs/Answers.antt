-- What the readers of words answer.
use Rattle.std.specs.Prelude.{◌≡◌, ℕ, List, Result, Ok, Err, Option, Some, None, option_map}
use Rattle.net_files.specs.declared.words.LineFault.{LineFault}
use Rattle.net_files.specs.declared.words.LineFault.TheVariants.{NotACommand}
use Rattle.net_files.specs.declared.words.Words.{Words}
use Rattle.net_files.specs.Words.{Left}

-- what is left of a line
abbrev pub left_of : Words → Left
left_of words = option_map (λ octets. octets.now) words.rest

-- what stands there is given, seen as a value; where nothing does, it is no command
abbrev pub Gives : {A B : Type 0} → (A → B) → Result A LineFault → Option B → Type 0
Gives value (Ok x) there = there ≡ Some (value x)
Gives value (Err fault) there = (fault ≡ NotACommand) × (there ≡ None)

-- the same, where memory may be wanted
abbrev pub GivesOrWants : {A B : Type 0} → (A → B) → Result A LineFault → Option B → Type 0
GivesOrWants value (Ok x) there = there ≡ Some (value x)
GivesOrWants value (Err fault) there = fault ≡ NotACommand → there ≡ None

-- nothing is left, or the line is no command
abbrev pub EndsLine : Result (Unit {0}) LineFault → Left → Type 0
EndsLine (Ok done) left = left ≡ None
EndsLine (Err fault) left = (fault ≡ NotACommand) × (rest : List ℕ) × (left ≡ Some rest)
