-- What the value of a key may be.
use Rattle.std.specs.Prelude.{ℕ, ℤ, pos, negsuc, ◌==◌, Bool, true, false, not, ◌&&◌, ◌||◌, is_ok, nat_le, if◌then◌else◌, List, length}
use Rattle.std.specs.Prelude.{bytes_eq, is_some, Option, Some, None}
use Rattle.std.specs.List.{list_all, list_any}
use Rattle.std.specs.Char.{is_ascii_alphanumeric, is_ascii_digit}
use Rattle.toml.specs.Data.{Data, Items, no_items, item, as_str, as_integer, as_bool, as_array, as_table}
use Rattle.x28_commands.specs.Reading.{pairs_in}
use Rattle.file_tables.specs.declared.forms.TextForm.{TextForm}
use Rattle.file_tables.specs.declared.forms.TextForm.TheVariants as text_is
use Rattle.file_tables.specs.declared.forms.Form.{Form}
use Rattle.file_tables.specs.declared.forms.Form.TheVariants as form_is
use Rattle.file_tables.specs.declared.forms.Key.{Key}

abbrev pub are_digits : List ℕ → Bool
are_digits text = list_all is_ascii_digit text && nat_le (length text) 15

abbrev pub are_pairs : List ℕ → Bool
are_pairs text = nat_le (length text) 143 && is_ok (pairs_in text)

abbrev pub is_text_of : TextForm → List ℕ → Bool
is_text_of text_is.Any text = true
is_text_of text_is.Name text = not (length text == 0) && list_all is_ascii_alphanumeric text
is_text_of (text_is.OneOf words) text = list_any (λ word. bytes_eq word.now text) words.now
is_text_of text_is.Digits text = not (length text == 0) && are_digits text
is_text_of text_is.DigitsOrNone text = are_digits text
is_text_of text_is.Pairs text = (length text == 0) || are_pairs text

abbrev pub is_some_text_of : TextForm → Option (List ℕ) → Bool
is_some_text_of form None = false
is_some_text_of form (Some text) = is_text_of form text

-- a number up to the most
abbrev pub is_up_to : (most : ℕ) → Option ℤ → Bool
is_up_to most (Some (pos n)) = nat_le n most
is_up_to most _ = false

abbrev pub items_all : (Data → Bool) → Items → Bool
items_all test no_items = true
items_all test (item d others) = test d && items_all test others

-- an array of values that pass
abbrev pub is_array_of : (Data → Bool) → Option Items → Bool
is_array_of test None = false
is_array_of test (Some items) = items_all test items

abbrev pub is_of_form : Form → Data → Bool
is_of_form (form_is.Text form) value = is_some_text_of form (as_str value)
is_of_form (form_is.Number most) value = is_up_to most (as_integer value)
is_of_form form_is.Flag value = is_some (as_bool value)
is_of_form form_is.Texts value = is_array_of (λ d. is_some (as_str d)) (as_array value)
is_of_form form_is.Tables value = is_array_of (λ d. is_some (as_table d)) (as_array value)
is_of_form form_is.Table value = is_some (as_table value)

-- what stands at a key, if anything does
abbrev pub suits : Key → Option Data → Bool
suits key None = not key.needed
suits key (Some value) = is_of_form key.form value
