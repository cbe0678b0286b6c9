-- What the readers of a service file answer, and what stands at the keys of its tables.
use Rattle.std.specs.Prelude.{◌≡◌, ◌⊎◌, ℕ, List, [], ◌∷◌, Bool, true, false, find, is_some, Option, Some, option_and_then, unwrap_or, Result, Ok, Err, IsUtf8}
use Rattle.std.specs.Borrow.{Bor}
use Rattle.toml.specs.Data.{Data, Items, no_items, item, Members, get_member, as_str, as_integer, as_bool, as_array, as_table}
use Rattle.toml.specs.Parse.{parse_document}
use Rattle.net_files.specs.Entries.{small}
use Rattle.service_files.specs.declared.refusal.Refusal.{Refusal}
use Rattle.service_files.specs.declared.refusal.Refusal.TheVariants.{Told, OutOfMemory}

-- what is given is what is said; where nothing can be, it is told why; and memory may be wanted
abbrev pub Reads : {A : Type 0} → (A → Type 0) → Result A Refusal → Type 0
Reads Says (Ok x) = Says x
Reads Says (Err refusal) = (refusal ≡ OutOfMemory) ⊎ ((refusal ≡ Told) × ((x : _) → ¬ Says x))

-- the same of what is given, seen as a value
abbrev pub ReadsAs : {A B : Type 0} → (A → B) → (B → Type 0) → Result A Refusal → Type 0
ReadsAs value Says (Ok x) = Says (value x)
ReadsAs value Says (Err refusal) = (refusal ≡ OutOfMemory) ⊎ ((refusal ≡ Told) × ((y : _) → ¬ Says y))

-- the octets are a text, which is a TOML document
abbrev pub IsDocument : List ℕ → Members → Type 0
IsDocument octets document = IsUtf8 octets × (parse_document octets ≡ Some document)

-- each value says what is given of it, in order
pub data EachSays (A : Type 0) (Says : Data → A → Type 0) : Items → List A → Type 0 where
  none : EachSays A Says no_items []
  more : {value : Data} {values : Items} {x : A} {xs : List A} → Says value x → EachSays A Says values xs
      → EachSays A Says (item value values) (x ∷ xs)

-- the value is a table that says it
pub record IsTable {A : Type 0} (Says : Members → A → Type 0) (value : Data) (x : A) : Type 0 where
  pub entry : Members
  pub is : as_table value ≡ Some entry
  pub says : Says entry x

abbrev pub text_at : (key : List ℕ) → Members → Option (List ℕ)
text_at key entry = option_and_then as_str (get_member key entry)

abbrev pub number_at : (key : List ℕ) → Members → Option ℕ
number_at key entry = small (option_and_then as_integer (get_member key entry))

-- `true` stands there
abbrev pub flag_at : (key : List ℕ) → Members → Bool
flag_at key entry = unwrap_or (option_and_then as_bool (get_member key entry)) false

abbrev pub values_at : (key : List ℕ) → Members → Option Items
values_at key entry = option_and_then as_array (get_member key entry)

-- the values of an array, none if there is no array
abbrev pub items_at : (key : List ℕ) → Members → Items
items_at key entry = unwrap_or (values_at key entry) no_items

abbrev pub table_at : (key : List ℕ) → Members → Option Members
table_at key entry = option_and_then as_table (get_member key entry)

abbrev pub has_key : Members → Bor (List ℕ) → Bool
has_key entry key = is_some (get_member key.now entry)

-- the table has one of these keys
abbrev pub has_one : Members → (keys : List (Bor (List ℕ))) → Bool
has_one entry keys = is_some (find (has_key entry) keys)
