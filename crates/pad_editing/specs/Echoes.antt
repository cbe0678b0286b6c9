-- What the PAD echoes of a key (X.3 3.2, 3.15 to 3.18).
use Rattle.std.specs.Prelude.{ℕ, List, [], ◌∷◌, ◌++◌, Option, Some, None, if◌then◌else◌, codes}
use Rattle.x3_params.specs.Settings.{has_echo}
use Rattle.x3_params.specs.declared.editing.EditingFunction.{EditingFunction}
use Rattle.x3_params.specs.declared.editing.EditingFunction.TheVariants.{CharacterDelete, LineDelete, LineDisplay}
use Rattle.pad_editing.specs.Edited.{editing}

-- of a character that edits a text: backspace, space, backspace; XXX; the text on a new line
abbrev pub function_echo : EditingFunction → List ℕ → List ℕ
function_echo CharacterDelete [] = []
function_echo CharacterDelete (x ∷ text) = 0x08 ∷ 0x20 ∷ 0x08 ∷ []
function_echo LineDelete [] = []
function_echo LineDelete (x ∷ text) = codes "XXX" ++ 0x0D ∷ 0x0A ∷ []
function_echo LineDisplay text = 0x0D ∷ 0x0A ∷ text

abbrev pub echo_of_editing : Option EditingFunction → ℕ → List ℕ → List ℕ
echo_of_editing (Some function) o held = function_echo function held
echo_of_editing None o held = o ∷ []

unfoldable pub echo_of : List ℕ → ℕ → List ℕ → List ℕ
echo_of p o held = if has_echo p then echo_of_editing (editing p o) o held else []

-- of a key that is only added to the text
abbrev pub echo_of_added : List ℕ → ℕ → List ℕ
echo_of_added p o = if has_echo p then o ∷ [] else []
