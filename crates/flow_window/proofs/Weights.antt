-- Sums over the buffers that a holder holds, and what they tell of the pool.
use Rattle.std.proofs.Common.{◌≡◌, ℕ, suc, zero, ◌+◌, ◌<◌, ◌≤◌, Bool, true, false, cond, ◌==◌, List, [], ◌∷◌, ◌++◌, length, Option, Some, None, refl, ap, ◌∙◌, arith}
use Rattle.std.specs.Prelude.{slice_get}
use Rattle.std.proofs.lemmas.Option.{same_Some, none-some}
use Rattle.std.proofs.lemmas.Bool.{eqb-true}
use Rattle.flow_window.specs.Pool.{Pool, Buffer, IsIn, weight, weight_from, pooled, in_use, Holds, Balances}

pub weight_append : (w : Buffer → ℕ) (bs cs : List Buffer) → weight w (bs ++ cs) ≡ weight w bs + weight w cs
weight_append w [] cs = omega arith
weight_append w (b ∷ bs) cs = let rest = weight_append w bs cs in omega (arith, rest)

pub weight_ones : (bs : List Buffer) → weight (λ _. 1) bs ≡ length bs
weight_ones [] = refl
weight_ones (b ∷ bs) = let rest = weight_ones bs in omega (arith, rest)

-- ---- what is held is in use

same_octets : List ℕ → List ℕ → Bool
same_octets [] [] = true
same_octets [] (y ∷ ys) = false
same_octets (x ∷ xs) [] = false
same_octets (x ∷ xs) (y ∷ ys) = cond (x == y) (same_octets xs ys) false

both_true : (p q : Bool) → cond p q false ≡ true → (p ≡ true) × (q ≡ true)
both_true true q e = (refl, e)
both_true false q e = absurd (cc)

octets_same : (xs ys : List ℕ) → same_octets xs ys ≡ true → xs ≡ ys
unfolding same_octets
octets_same [] [] e = refl
octets_same [] (y ∷ ys) e = absurd (cc)
octets_same (x ∷ xs) [] e = absurd (cc)
octets_same (x ∷ xs) (y ∷ ys) e =
    let parts = both_true (x == y) (same_octets xs ys) e in
    let head : x ≡ y = eqb-true x y parts.0 in
    let tail = octets_same xs ys parts.1 in
    λ i. head i ∷ tail i

octets_itself : (xs : List ℕ) → same_octets xs xs ≡ true
unfolding same_octets
octets_itself [] = refl
octets_itself (x ∷ xs) =
    let here : (x == x) ≡ true = grind arith in
    rw here (octets_itself xs)

-- 1 at one buffer
only : Buffer → Buffer → ℕ
only b c = cond (c.number == b.number) (cond (same_octets c.octets b.octets) 1 0) 0

only_itself : (b : Buffer) → only b b ≡ 1
unfolding only
only_itself b =
    let here : (b.number == b.number) ≡ true = grind arith in
    rw (here, octets_itself b.octets) refl

one_of : (p q : Bool) → 1 ≤ cond p (cond q 1 0) 0 → (p ≡ true) × (q ≡ true)
one_of true true some = (refl, refl)
one_of true false some = absurd (omega (arith, some))
one_of false q some = absurd (omega (arith, some))

only_one : (b c : Buffer) → 1 ≤ only b c → (c.number ≡ b.number) × (c.octets ≡ b.octets)
unfolding only
only_one b c some =
    let parts = one_of (c.number == b.number) (same_octets c.octets b.octets) some in
    (eqb-true c.number b.number parts.0, octets_same c.octets b.octets parts.1)

weight_there : (w : Buffer → ℕ) (bs : List Buffer) (i : ℕ) (b : Buffer) → slice_get bs i ≡ Some b → w b ≤ weight w bs
weight_there w [] i b e = absurd (none-some b e)
weight_there w (c ∷ bs) zero b e = let same = ap w (same_Some c b e) in omega (arith, same)
weight_there w (c ∷ bs) (suc i) b e = let rest = weight_there w bs i b e in omega (arith, rest)

pooled_there : (b : Buffer) (k : ℕ) (places : List (Option (List ℕ))) → 1 ≤ weight_from (only b) k places →
    (n : ℕ) × (b.number ≡ k + n) × (slice_get places n ≡ Some (Some b.octets))
pooled_there b k [] some = absurd (omega (arith, some))
pooled_there b k (None ∷ places) some =
    let rest = pooled_there b (k + 1) places (omega (arith, some)) in
    (suc rest.0, omega (arith, rest.1), rest.2)
pooled_there b k (Some octets ∷ places) some =
    go (only b (record { number = k; octets = octets })) refl (pooled_there b (k + 1) places)
  where
    go : (n : ℕ) → only b (record { number = k; octets = octets }) ≡ n →
        (1 ≤ weight_from (only b) (k + 1) places →
        (n : ℕ) × (b.number ≡ k + 1 + n) × (slice_get places n ≡ Some (Some b.octets))) →
        (n : ℕ) × (b.number ≡ k + n) × (slice_get (Some octets ∷ places) n ≡ Some (Some b.octets))
    go zero e later =
        let rest = later (omega (arith, some, e)) in
        (suc rest.0, omega (arith, rest.1), rest.2)
    go (suc n) e later =
        let is = only_one b (record { number = k; octets = octets }) (omega (arith, e)) in
        let at : b.number ≡ k + 0 = omega (arith, is.0) in
        (0, at, ap (λ o. Some (Some o)) is.1)

pub held_in : (pool : Pool) (held : List Buffer) (i : ℕ) (b : Buffer) → Holds pool held → slice_get held i ≡ Some b →
    IsIn b pool
held_in pool held i b holds get =
    let there = weight_there (only b) held i b get in
    let one = only_itself b in
    let within = holds (only b) in
    let found = pooled_there b 0 pool.places (omega (arith, there, one, within)) in
    let at : b.number ≡ found.0 = omega (arith, found.1) in
    ap (slice_get pool.places) at ∙ found.2

-- ---- one change after the other

pub holds_after : (before after : Pool) (held holds : List Buffer) → Holds before held →
    Balances before held after holds → Holds after holds
holds_after before after held holds all change w =
    let old = all w in
    let new = change.weights w in
    omega (arith, old, new)

pub balances_same : (pool : Pool) (held : List Buffer) → Balances pool held pool held
balances_same pool held = record { size = refl; places = refl; weights = λ w. refl }

pub balances_then : (a b c : Pool) (first second third : List Buffer) → Balances a first b second →
    Balances b second c third → Balances a first c third
balances_then a b c first second third one two = record {
  size = two.size ∙ one.size;
  places = two.places ∙ one.places;
  weights = λ w.
      let before = one.weights w in
      let after = two.weights w in
      omega (arith, before, after);
}

-- a buffer comes into use and is held
pub balances_put : (before after : Pool) (held : List Buffer) (b : Buffer) → after.size ≡ before.size →
    length after.places ≡ length before.places → ((w : Buffer → ℕ) → pooled w after ≡ pooled w before + w b) →
    Balances before held after (held ++ b ∷ [])
balances_put before after held b size places weights = record {
  size = size;
  places = places;
  weights = λ w.
      let more = weights w in
      let parts = weight_append w held (b ∷ []) in
      omega (arith, more, parts);
}

-- there is still room after the change, where no more is held than before
pub room_after : (before after : Pool) (held holds : List Buffer) → Balances before held after holds →
    length holds ≤ length held → in_use before < length before.places → in_use after < length after.places
room_after before after held holds change fewer room =
    let ones = change.weights (λ _. 1) in
    let old = weight_ones held in
    let new = weight_ones holds in
    omega (arith, ones, old, new, fewer, room, change.places)
