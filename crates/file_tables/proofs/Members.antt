-- The keys and values of tables as the code has them are those of their members.
use Rattle.std.proofs.Common.{◌≡◌, ℕ, Bool, true, false, ◌&&◌, not, cond, List, [], ◌∷◌, string_bytes, refl, Some, None, option_map}
use Rattle.std.specs.Prelude.{find, Option}
use Rattle.std.specs.List.{list_all}
use Rattle.std.specs.Map.{keys_of}
use Rattle.toml.specs.Data.{Data}
use Rattle.toml.specs.View.{members_view, items_view, view}
use Rattle.toml.specs.declared.value.Value.{Value}
use Rattle.toml.proofs.Views.{Entry}
use Rattle.file_tables.specs.declared.forms.Key.{Key}
use Rattle.file_tables.specs.Forms.{items_all}
use Rattle.file_tables.specs.Faults.{is_known, first_unknown}

pub all_of_items : (test : Data → Bool) (values : List Value)
    → list_all (λ value. test (view value)) values ≡ items_all test (items_view values)
all_of_items test [] = refl
all_of_items test (value ∷ values) = rw (all_of_items test values)

pub unknown_of_keys : (keys : List Key) (entries : List Entry)
    → option_map string_bytes (find (λ name. not (is_known keys (string_bytes name))) (keys_of entries))
    ≡ first_unknown keys (members_view entries)
unknown_of_keys keys [] = refl
unknown_of_keys keys (e ∷ entries) = go (is_known keys (string_bytes e.0)) (unknown_of_keys keys entries)
  where
    go : (b : Bool)
        → option_map string_bytes (find (λ name. not (is_known keys (string_bytes name))) (keys_of entries)) ≡ first_unknown keys (members_view entries)
        → option_map string_bytes (cond (not b) (Some e.0) (find (λ name. not (is_known keys (string_bytes name))) (keys_of entries)))
        ≡ cond b (first_unknown keys (members_view entries)) (Some (string_bytes e.0))
    go true same = same
    go false same = refl
