-- The line on which a terminal types a command, and how it is edited (X.28 3.2, X.3 3.16 to 3.18).
use Rattle.std.specs.Prelude.{ℕ, ◌-◌, Bool, not, ◌&&◌, ◌||◌, ◌==◌, nat_lt, if◌then◌else◌, List, [], ◌∷◌, ◌++◌, length}
use Rattle.std.specs.Prelude.{take, Option, Some, None}
use Rattle.x3_params.specs.Settings.{has_echo}
use Rattle.x3_params.specs.EditingFunctions.{function_of}
use Rattle.x3_params.specs.declared.editing.EditingFunction.{EditingFunction}
use Rattle.x3_params.specs.declared.editing.EditingFunction.TheVariants.{CharacterDelete, LineDelete, LineDisplay}
use Rattle.pad_editing.specs.Echoes.{function_echo}
use Rattle.x28_commands.specs.Selection.{hides_echo}

-- what a key makes of the line, what is echoed of it, and the line that it ends, if it ends one
pub record LineKey : Type 0 where
  pub line : List ℕ
  pub echo : List ℕ
  pub ended : Option (List ℕ)

-- so many octets of a line are held
abbrev pub held_limit : ℕ
held_limit = 65

-- a carriage return or a plus sign ends the line
abbrev pub is_end : ℕ → Bool
is_end o = (o == 0x0D) || (o == 0x2B)

abbrev pub edited : EditingFunction → List ℕ → List ℕ
edited CharacterDelete line = take (length line - 1) line
edited LineDelete line = []
edited LineDisplay line = line

-- a character that edits the line, or any other, which is held where the line has room
abbrev pub typed : Option EditingFunction → ℕ → List ℕ → LineKey
typed (Some function) o line =
    record { line = edited function line; echo = function_echo function line; ended = None }
typed None o line =
    if nat_lt (length line) held_limit
    then record { line = line ++ o ∷ []; echo = o ∷ []; ended = None }
    else record { line = line; echo = []; ended = None }

-- a key, where what is typed is echoed
abbrev pub after_key : List ℕ → ℕ → List ℕ → LineKey
after_key params o line =
    if is_end o then record { line = []; echo = o ∷ []; ended = Some line }
    else typed (function_of params o) o line

-- what is typed is echoed, but for user data that are not to be seen
abbrev pub is_echoed : List ℕ → List ℕ → Bool
is_echoed params line = has_echo params && not (hides_echo line)
