-- The characters that edit a text (X.3 3.16 to 3.18).
use Rattle.std.specs.Prelude.{ℕ, Option, Some, None, if◌then◌else◌, ◌==◌, List}
use Rattle.x3_params.specs.Values.{value}
use Rattle.x3_params.specs.declared.editing.EditingFunction.{EditingFunction}
use Rattle.x3_params.specs.declared.editing.EditingFunction.TheVariants.{CharacterDelete, LineDelete, LineDisplay}

-- what a character does to a text, the first that holds
abbrev pub function_of : List ℕ → ℕ → Option EditingFunction
function_of p o =
    if o == value p 16 then Some CharacterDelete
    else if o == value p 17 then Some LineDelete
    else if o == value p 18 then Some LineDisplay
    else None
