-- The keys of a table as the code has them are those of its members.
use Rattle.std.proofs.Common.{◌≡◌, ℕ, Bool, List, [], ◌∷◌, map, string_bytes, Bor, refl}
use Rattle.std.specs.List.{list_any, list_all}
use Rattle.std.specs.Map.{keys_of}
use Rattle.toml.specs.View.{members_view}
use Rattle.toml.proofs.Views.{Entry}
use Rattle.net_files.specs.Entries.{is_among, has_only}

pub any_of_refs : (test : List ℕ → Bool) (xs : List (Bor (List ℕ)))
    → list_any (λ x. test x.now) xs ≡ list_any test (map (λ x. x.now) xs)
any_of_refs test [] = refl
any_of_refs test (x ∷ xs) = rw (any_of_refs test xs)

pub only_of_keys : (known : List (List ℕ)) (entries : List Entry)
    → list_all (λ key. is_among known (string_bytes key)) (keys_of entries) ≡ has_only known (members_view entries)
only_of_keys known [] = refl
only_of_keys known (e ∷ entries) = rw (only_of_keys known entries)
