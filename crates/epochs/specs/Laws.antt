-- The laws of matching.
use Rattle.std.specs.Prelude.{◌≡◌, ℕ, ◌<◌, ◌↔◌, List, [], ◌∷◌, ◌++◌, Some, map, slice_get}
use Rattle.epochs.specs.Epoch.{Epoch, SentEpoch, TakenEpoch, IsPrefixOf, IsEmpty, sent_epoch, taken_epoch, AreAligned}
use Rattle.epochs.specs.Match.{Match}

-- each list matches itself
abbrev pub IsReflexive : Type 0
IsReflexive = (es : List Epoch) → Match es es

-- what came of what came of a list came of that list
abbrev pub IsTransitive : Type 0
IsTransitive = (xs ys zs : List Epoch) → Match xs ys → Match ys zs → Match xs zs

-- a match is kept when the last sent epoch grows
abbrev pub IsKeptByGrowth : Type 0
IsKeptByGrowth =
    (taken sent : List Epoch) (f g : Epoch) → IsPrefixOf f g → Match taken (sent ++ f ∷ [])
    → Match taken (sent ++ g ∷ [])

-- a match is kept when the sender opens an epoch
abbrev pub IsKeptByOpening : Type 0
IsKeptByOpening = (taken sent : List Epoch) (f : Epoch) → Match taken sent → Match taken (sent ++ f ∷ [])

-- a match is kept when both ends open an epoch, of which nothing is taken yet
abbrev pub IsKeptByBothOpening : Type 0
IsKeptByBothOpening =
    (taken sent : List Epoch) (e f : Epoch) → IsEmpty e → Match taken sent → Match (taken ++ e ∷ []) (sent ++ f ∷ [])

-- lists that are aligned, epoch by epoch, match
abbrev pub AlignedListsMatch : Type 0
AlignedListsMatch =
    (sent : List SentEpoch) (taken : List TakenEpoch) → AreAligned sent taken
    → Match (map taken_epoch taken) (map sent_epoch sent)

-- the epoch of this place is there, and something passed in it
pub record HasPassed (es : List Epoch) (place : ℕ) (e : Epoch) : Type 0 where
  pub there : slice_get es place ≡ Some e
  pub not_empty : IsEmpty e → ⊥

-- each taken epoch in which anything passed came of the sent epoch of one place, which it begins, and later ones
-- of later places
pub record ComesOf (place : ℕ → ℕ) (taken sent : List Epoch) : Type 0 where
  pub begins : (i : ℕ) (e : Epoch) → HasPassed taken i e
      → (f : Epoch) × (slice_get sent (place i) ≡ Some f) × IsPrefixOf e f
  pub rises : (i j : ℕ) (d e : Epoch) → HasPassed taken i d → HasPassed taken j e → i < j
      → place i < place j

-- what matches has such places, and what has such places matches
abbrev pub HasRisingPlaces : Type 0
HasRisingPlaces = (taken sent : List Epoch) → Match taken sent ↔ ((place : ℕ → ℕ) × ComesOf place taken sent)
