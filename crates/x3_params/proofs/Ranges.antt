-- Values that their parameters may have: those of the profiles, those after one was set, and their bounds.
use Rattle.std.proofs.Common.{◌≡◌, ℕ, zero, suc, subst, zero-add, lit<, ◌+◌, ◌<◌, ◌≤◌, Bool, true, false, ◌&&◌, List, [], ◌∷◌, length, get_or, refl, arith}
use Rattle.std.proofs.lemmas.Grind.{common_steps}
use Rattle.x3_params.specs.Table.{allows, profile_values}
use Rattle.x3_params.specs.Values.{AreAllowed}
use Rattle.x3_params.specs.declared.profile.Profile.{Profile}
use Rattle.x3_params.specs.declared.profile.Profile.TheVariants.{Simple, Transparent}

-- each value of a list is allowed, the first being that of parameter n
abbrev all_allowed : ℕ → List ℕ → Bool
all_allowed n [] = true
all_allowed n (v ∷ vs) = allows n v && all_allowed (n + 1) vs

and_first : (a b : Bool) → (a && b) ≡ true → a ≡ true
and_first true b h = refl
and_first false b h = cc

and_second : (a b : Bool) → (a && b) ≡ true → b ≡ true
and_second true b h = h
and_second false b h = cc

allowed_at : (vs : List ℕ) (n i : ℕ) → all_allowed n vs ≡ true → i < length vs → allows (i + n) (get_or vs i 0) ≡ true
allowed_at [] n i h lt = absurd (omega arith)
allowed_at (v ∷ vs) n zero h lt = rw zero-add (and_first _ _ h)
allowed_at (v ∷ vs) n (suc i) h lt =
    let here : i + (n + 1) ≡ suc i + n = omega arith in
    let P : ℕ → Type 0 = λ m. allows m (get_or vs i 0) ≡ true in
    subst P here (allowed_at vs (n + 1) i (and_second _ _ h) (omega arith))

-- any octet is a speed
profile_passes : (p : Profile) (speed : ℕ) → speed < 256 → all_allowed 1 (profile_values p speed) ≡ true
unfolding allows
profile_passes Simple speed lt = grind (arith, common_steps)
profile_passes Transparent speed lt = grind (arith, common_steps)

profile_count : (p : Profile) (speed : ℕ) → length (profile_values p speed) ≡ 18
profile_count Simple speed = refl
profile_count Transparent speed = refl

pub profile_allowed : (p : Profile) (speed : ℕ) → speed < 256 → AreAllowed (profile_values p speed)
profile_allowed p speed lt = record {
  count = profile_count p speed;
  allowed = λ i h. allowed_at (profile_values p speed) 1 i (profile_passes p speed lt) (rw profile_count h);
}

nine_at_most_7 : (v : ℕ) → allows 9 v ≡ true → v ≤ 7
unfolding allows
nine_at_most_7 v h = grind (arith, common_steps)

fourteen_at_most_7 : (v : ℕ) → allows 14 v ≡ true → v ≤ 7
unfolding allows
fourteen_at_most_7 v h = grind (arith, common_steps)

-- a padding has at most 7 NULs
pub return_padding_bound : (p : List ℕ) → AreAllowed p → get_or p 8 0 ≤ 7
return_padding_bound p a = nine_at_most_7 _ (a.allowed 8 (lit< tt))

pub line_feed_padding_bound : (p : List ℕ) → AreAllowed p → get_or p 13 0 ≤ 7
line_feed_padding_bound p a = fourteen_at_most_7 _ (a.allowed 13 (lit< tt))
