-- What the keys of a TOML table have: nothing if the value has another type or form. A key that
-- may be left out has something that holds then, one that may not has nothing.
use Rattle.std.specs.Prelude.{ℕ, ℤ, pos, negsuc, ◌==◌, Bool, true, not, ◌&&◌, nat_le, if◌then◌else◌, List, length}
use Rattle.std.specs.Prelude.{bytes_eq, Option, Some, None}
use Rattle.std.specs.List.{list_all, list_any}
use Rattle.std.specs.Char.{is_ascii_alphanumeric}
use Rattle.toml.specs.Data.{Data, Items, no_items, Members, no_members, member}
use Rattle.toml.specs.Data.{get_member, as_str, as_integer, as_bool, as_array}

abbrev pub is_among : (known : List (List ℕ)) → (key : List ℕ) → Bool
is_among known key = list_any (λ name. bytes_eq name key) known

-- each key of the table is one of these
abbrev pub has_only : (known : List (List ℕ)) → Members → Bool
has_only known no_members = true
has_only known (member key value others) = is_among known key && has_only known others

-- a text
abbrev pub text_of : (left_out : Option (List ℕ)) → Option Data → Option (List ℕ)
text_of left_out None = left_out
text_of left_out (Some value) = as_str value

-- a number from 0 to 65,535
abbrev pub small : Option ℤ → Option ℕ
small None = None
small (Some (pos n)) = if nat_le n 65535 then Some n else None
small (Some (negsuc n)) = None

abbrev pub number_of : (left_out : Option ℕ) → Option Data → Option ℕ
number_of left_out None = left_out
number_of left_out (Some value) = small (as_integer value)

-- `true` or `false`
abbrev pub flag_of : (left_out : Option Bool) → Option Data → Option Bool
flag_of left_out None = left_out
flag_of left_out (Some value) = as_bool value

-- the values of an array, none where it is left out
abbrev pub array_of : Option Data → Option Items
array_of None = Some no_items
array_of (Some value) = as_array value

abbrev pub text_at : (key : List ℕ) → (left_out : Option (List ℕ)) → Members → Option (List ℕ)
text_at key left_out entry = text_of left_out (get_member key entry)

abbrev pub number_at : (key : List ℕ) → (left_out : Option ℕ) → Members → Option ℕ
number_at key left_out entry = number_of left_out (get_member key entry)

abbrev pub flag_at : (key : List ℕ) → (left_out : Option Bool) → Members → Option Bool
flag_at key left_out entry = flag_of left_out (get_member key entry)

abbrev pub array_at : (key : List ℕ) → Members → Option Items
array_at key document = array_of (get_member key document)

-- a text that passes
abbrev pub passing : (List ℕ → Bool) → Option (List ℕ) → Option (List ℕ)
passing test None = None
passing test (Some text) = if test text then Some text else None

-- letters and digits
abbrev pub is_name : List ℕ → Bool
is_name text = not (length text == 0) && list_all is_ascii_alphanumeric text

-- a name, which may not be left out
abbrev pub name_at : (key : List ℕ) → Members → Option (List ℕ)
name_at key entry = passing is_name (text_at key None entry)
