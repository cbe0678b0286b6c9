-- What is wrong first in a table: a key that it may not have, else a key without the value that it has to have.
use Rattle.std.specs.Prelude.{◌≡◌, ℕ, Bool, not, ◌&&◌, if◌then◌else◌, List, find, bytes_eq, is_none, Option, Some, None}
use Rattle.std.specs.List.{list_any}
use Rattle.toml.specs.Data.{Data, Members, no_members, member, get_member}
use Rattle.toml.specs.View.{view}
use Rattle.file_tables.specs.declared.forms.Key.{Key}
use Rattle.file_tables.specs.declared.faults.TableFault.{TableFault}
use Rattle.file_tables.specs.declared.faults.TableFault.TheVariants.{Unknown, Missing, Wrong}
use Rattle.file_tables.specs.Forms.{suits}

abbrev pub is_known : List Key → (name : List ℕ) → Bool
is_known keys name = list_any (λ key. bytes_eq key.name.now name) keys

-- the first key that is not known
abbrev pub first_unknown : List Key → Members → Option (List ℕ)
first_unknown keys no_members = None
first_unknown keys (member name value others) = if is_known keys name then first_unknown keys others else Some name

abbrev pub keeps : Members → Key → Bool
keeps entry key = suits key (get_member key.name.now entry)

-- the first of the keys that may be there whose value is not what it has to be
abbrev pub first_unsuited : List Key → Members → Option Key
first_unsuited keys entry = find (λ key. not (keeps entry key)) keys

-- each key is known, and each that is known has such a value
abbrev pub is_right : List Key → Members → Bool
is_right keys entry = is_none (first_unknown keys entry) && is_none (first_unsuited keys entry)

abbrev pub IsFault : List Key → Members → TableFault → Type 0
IsFault keys entry (Unknown name) = first_unknown keys entry ≡ Some name.now
IsFault keys entry (Missing key) = (first_unsuited keys entry ≡ Some key) × (get_member key.name.now entry ≡ None)
IsFault keys entry (Wrong key value) =
    (first_unsuited keys entry ≡ Some key) × (get_member key.name.now entry ≡ Some (view value.now))
