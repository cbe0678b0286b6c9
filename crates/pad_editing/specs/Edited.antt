-- How a PAD gathers what a terminal sends into blocks, and edits it on the way (X.3 3.3, 3.4, 3.13, 3.15 to 3.18).
use Rattle.std.specs.Prelude.{ℕ, ◌-◌, Bool, not, ◌&&◌, ◌||◌, ◌==◌, nat_lt, List, [], ◌∷◌, ◌++◌, length, take, Option}
use Rattle.std.specs.Prelude.{Some, None, is_some, if◌then◌else◌}
use Rattle.std.specs.Option.{option_to_list}
use Rattle.x3_params.specs.Values.{value}
use Rattle.x3_params.specs.Forwarding.{is_forwarding}
use Rattle.x3_params.specs.Settings.{has_editing, inserts_line_feed}
use Rattle.x3_params.specs.EditingFunctions.{function_of}
use Rattle.x3_params.specs.declared.editing.EditingFunction.{EditingFunction}
use Rattle.x3_params.specs.declared.editing.EditingFunction.TheVariants.{CharacterDelete, LineDelete, LineDisplay}
use Rattle.x3_params.specs.declared.settings.LineFeedInsertion.TheVariants.{FromTerminal}

-- what happens to a text: a key, or the end of the idle time, with the values of the parameters then in force
pub data Step : Type 0 where
  key : ℕ → List ℕ → Step
  idle : List ℕ → Step

-- what a step makes of held text: what is held after it, and the block that it ends, if any
pub record Effect : Type 0 where
  pub held : List ℕ
  pub block : Option (List ℕ)

abbrev pub holds : List ℕ → Effect
holds text = record { held = text; block = None }

abbrev pub ends : List ℕ → List ℕ → Effect
ends text rest = record { held = rest; block = Some text }

-- a block has at most this many octets
abbrev pub limit : ℕ
limit = 128

-- a line feed follows the key, which is a carriage return
abbrev pub inserts : List ℕ → ℕ → Bool
inserts p o = (o == 0x0D) && inserts_line_feed p FromTerminal

-- the line feed that follows a carriage return
abbrev pub inserted : List ℕ → ℕ → List ℕ
inserted p o = if inserts p o then 0x0A ∷ [] else []

-- the text, where it ends with the key o and what that inserts
abbrev pub after_text : List ℕ → ℕ → List ℕ → Effect
after_text p o text = if is_forwarding p o || (length text == limit) then ends text [] else holds text

-- the text, where it ends with the key o: a text that is full does not wait for the line feed
abbrev pub after_typed : List ℕ → ℕ → List ℕ → Effect
after_typed p o text =
    if length text == limit then ends text (inserted p o) else after_text p o (text ++ inserted p o)

-- what a key edits
abbrev pub editing : List ℕ → ℕ → Option EditingFunction
editing p o = if has_editing p then function_of p o else None

abbrev pub after_editing : Option EditingFunction → List ℕ → ℕ → List ℕ → Effect
after_editing (Some CharacterDelete) p o held = holds (take (length held - 1) held)
after_editing (Some LineDelete) p o held = holds []
after_editing (Some LineDisplay) p o held = holds held
after_editing None p o held = after_typed p o (held ++ o ∷ [])

unfoldable pub after_key : List ℕ → ℕ → List ℕ → Effect
after_key p o held = after_editing (editing p o) p o held

-- the key only adds its octet to the text: it edits nothing, no line feed follows it, and it ends no block
abbrev pub only_adds : List ℕ → ℕ → List ℕ → Bool
only_adds p o held = not (is_some (editing p o) || inserts p o || is_some (after_key p o held).block)

-- text that is not edited goes when the terminal pauses
unfoldable pub after_idle : List ℕ → List ℕ → Effect
after_idle p held =
    if nat_lt 0 (value p 4) && not (has_editing p) && nat_lt 0 (length held) then ends held [] else holds held

abbrev pub effect_of : Step → List ℕ → Effect
effect_of (key o p) held = after_key p o held
effect_of (idle p) held = after_idle p held

-- held text, and the blocks so far
pub record Edit : Type 0 where
  pub held : List ℕ
  pub blocks : List (List ℕ)

-- from the edit of a list of steps to that of the list with one step more
abbrev pub one_more : Edit → Step → Edit
one_more e s = record {
  held = (effect_of s e.held).held;
  blocks = e.blocks ++ option_to_list (effect_of s e.held).block;
}

abbrev pub edit_from : Edit → List Step → Edit
edit_from e [] = e
edit_from e (s ∷ ss) = edit_from (one_more e s) ss

-- the edit of a list of steps, from nothing
abbrev pub edit_of : List Step → Edit
edit_of steps = edit_from (record { held = []; blocks = [] }) steps

-- the blocks that a list of steps makes
abbrev pub edited : List Step → List (List ℕ)
edited steps = (edit_of steps).blocks
