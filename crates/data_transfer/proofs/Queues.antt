-- The first buffer of a queue goes.
use Rattle.std.proofs.Common.{◌≡◌, ℕ, ◌+◌, ◌<◌, List, [], ◌∷◌, ◌++◌, length, drop, Some, None, refl, ap, sym, arith}
use Rattle.std.specs.Prelude.{slice_get}
use Rattle.std.proofs.lemmas.Option.{same_Some, none-some}
use Rattle.flow_window.specs.Pool.{Pool, Buffer, weight, Holds, Balances}
use Rattle.flow_window.proofs.Weights.{weight_append}

pub first_weight : (w : Buffer → ℕ) (bs : List Buffer) (b : Buffer) → slice_get bs 0 ≡ Some b →
    weight w bs ≡ weight w (drop 1 bs) + w b
first_weight w [] b e = absurd (none-some b e)
first_weight w (c ∷ bs) b e = let same = ap w (same_Some c b e) in omega (arith, same)

-- the first one was given back
pub balances_first : (before after : Pool) (bs : List Buffer) (b : Buffer) → slice_get bs 0 ≡ Some b →
    Balances before (b ∷ []) after [] → Balances before bs after (drop 1 bs)
balances_first before after bs b first change = record {
  size = change.size;
  places = change.places;
  weights = λ w.
      let weights = change.weights w in
      let parts = first_weight w bs b first in
      omega (arith, weights, parts);
}

pub fewer : (bs : List Buffer) (b : Buffer) → slice_get bs 0 ≡ Some b → length (drop 1 bs) < length bs
fewer [] b e = absurd (none-some b e)
fewer (c ∷ bs) b e = omega arith

pub none_first : {X : Type 0} (xs : List X) → slice_get xs 0 ≡ None → xs ≡ []
none_first [] e = refl
none_first (x ∷ xs) e = absurd (none-some x (sym e))

-- ---- two queues

pub holds_first : (pool : Pool) (bs cs : List Buffer) → Holds pool (bs ++ cs) → Holds pool bs
holds_first pool bs cs all w =
    let parts = weight_append w bs cs in
    let within = all w in
    omega (arith, parts, within)

pub holds_second : (pool : Pool) (bs cs : List Buffer) → Holds pool (bs ++ cs) → Holds pool cs
holds_second pool bs cs all w =
    let parts = weight_append w bs cs in
    let within = all w in
    omega (arith, parts, within)

-- the second of them changes
pub balances_second : (before after : Pool) (bs cs ds : List Buffer) → Balances before cs after ds →
    Balances before (bs ++ cs) after (bs ++ ds)
balances_second before after bs cs ds change = record {
  size = change.size;
  places = change.places;
  weights = λ w.
      let own = change.weights w in
      let old = weight_append w bs cs in
      let new = weight_append w bs ds in
      omega (arith, own, old, new);
}
