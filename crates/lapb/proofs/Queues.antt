-- The packets of a queue, and the buffers in its places, which go round.
use Rattle.std.proofs.Common.{◌≡◌, ◌≢◌, ℕ, suc, zero, ◌+◌, ◌-◌, ◌%◌, ◌<◌, ◌≤◌, List, [], ◌∷◌, ◌++◌, length, drop, Option, Some, None, refl, ap, subst, ◌∙◌, sym, arith}
use Rattle.std.specs.Prelude.{slice_get, slice_set}
use Rattle.std.proofs.lemmas.List.{drop-drop}
use Rattle.std.proofs.lemmas.Option.{same_Some, none-some}
use Rattle.flow_window.specs.Pool.{Buffer, weight}
use Rattle.lapb.specs.Held.{contents, found, around, IsTaken, AreTaken}

-- ---- one place before others

found_length : (o : Option (Option Buffer)) (bs : List Buffer) → IsTaken o → length (found o bs) ≡ suc (length bs)
found_length None bs taken = absurd taken
found_length (Some None) bs taken = absurd taken
found_length (Some (Some b)) bs taken = refl

found_next : (o : Option (Option Buffer)) (bs : List Buffer) (i : ℕ) → IsTaken o →
    slice_get (found o bs) (suc i) ≡ slice_get bs i
found_next None bs i taken = absurd taken
found_next (Some None) bs i taken = absurd taken
found_next (Some (Some b)) bs i taken = refl

found_rest : (o : Option (Option Buffer)) (bs : List Buffer) → IsTaken o → drop 1 (found o bs) ≡ bs
found_rest None bs taken = absurd taken
found_rest (Some None) bs taken = absurd taken
found_rest (Some (Some b)) bs taken = refl

found_append : (o : Option (Option Buffer)) (bs cs : List Buffer) → found o (bs ++ cs) ≡ found o bs ++ cs
found_append None bs cs = refl
found_append (Some None) bs cs = refl
found_append (Some (Some b)) bs cs = refl

-- ---- places of which none is empty

pub around_length : (ps : List (Option Buffer)) (f n : ℕ) → AreTaken ps f n → length (around ps f n) ≡ n
around_length ps f zero all = refl
around_length ps f (suc n) all =
    found_length (slice_get ps (f % 8)) (around ps (f + 1) n) all.0
    ∙ ap (λ m. suc m) (around_length ps (f + 1) n all.1)

taken_at : (ps : List (Option Buffer)) (f n i : ℕ) → AreTaken ps f n → i < n → IsTaken (slice_get ps ((f + i) % 8))
taken_at ps f zero i all within = absurd (omega (arith, within))
taken_at ps f (suc n) zero all within =
    let at : f % 8 ≡ (f + 0) % 8 = omega arith in
    subst (λ k. IsTaken (slice_get ps k)) at all.0
taken_at ps f (suc n) (suc i) all within =
    let at : (f + 1 + i) % 8 ≡ (f + suc i) % 8 = omega arith in
    subst (λ k. IsTaken (slice_get ps k)) at (taken_at ps (f + 1) n i all.1 (omega (arith, within)))

-- no place is empty
pub never_empty : (ps : List (Option Buffer)) (f n i : ℕ) → AreTaken ps f n → i < n →
    slice_get ps ((f + i) % 8) ≡ Some None → ⊥
never_empty ps f n i all within e = subst IsTaken e (taken_at ps f n i all within)

-- the buffer in a place
pub around_get : (ps : List (Option Buffer)) (f n i : ℕ) (b : Buffer) → AreTaken ps f n → i < n →
    slice_get ps ((f + i) % 8) ≡ Some (Some b) → slice_get (around ps f n) i ≡ Some b
around_get ps f zero i b all within e = absurd (omega (arith, within))
around_get ps f (suc n) zero b all within e =
    let at : f % 8 ≡ (f + 0) % 8 = omega arith in
    ap (λ o. slice_get (found o (around ps (f + 1) n)) 0) (ap (slice_get ps) at ∙ e)
around_get ps f (suc n) (suc i) b all within e =
    let at : (f + 1 + i) % 8 ≡ (f + suc i) % 8 = omega arith in
    found_next (slice_get ps (f % 8)) (around ps (f + 1) n) i all.0
    ∙ around_get ps (f + 1) n i b all.1 (omega (arith, within)) (ap (slice_get ps) at ∙ e)

-- ---- the same places, counted from a number that names the same one

around_same : (ps : List (Option Buffer)) (f g n : ℕ) → f % 8 ≡ g % 8 → around ps f n ≡ around ps g n
around_same ps f g zero e = refl
around_same ps f g (suc n) e =
    ap (λ i. found (slice_get ps i) (around ps (f + 1) n)) e
    ∙ ap (found (slice_get ps (g % 8))) (around_same ps (f + 1) (g + 1) n (omega (arith, e)))

taken_same : (ps : List (Option Buffer)) (f g n : ℕ) → f % 8 ≡ g % 8 → AreTaken ps f n → AreTaken ps g n
taken_same ps f g zero e all = tt
taken_same ps f g (suc n) e all =
    (subst (λ i. IsTaken (slice_get ps i)) e all.0, taken_same ps (f + 1) (g + 1) n (omega (arith, e)) all.1)

-- ---- another place changes

get_set_same : {X : Type 0} (xs : List X) (i : ℕ) (x : X) → i < length xs → slice_get (slice_set xs i x) i ≡ Some x
get_set_same [] i x within = absurd (omega (arith, within))
get_set_same (y ∷ ys) zero x within = refl
get_set_same (y ∷ ys) (suc i) x within = get_set_same ys i x (omega (arith, within))

get_set_other : {X : Type 0} (xs : List X) (i j : ℕ) (x : X) → i ≢ j → slice_get (slice_set xs j x) i ≡ slice_get xs i
get_set_other [] i j x off = refl
get_set_other (y ∷ ys) zero zero x off = absurd (off refl)
get_set_other (y ∷ ys) zero (suc j) x off = refl
get_set_other (y ∷ ys) (suc i) zero x off = refl
get_set_other (y ∷ ys) (suc i) (suc j) x off = get_set_other ys i j x (λ e. off (ap (λ n. suc n) e))

around_set : (ps : List (Option Buffer)) (x : Option Buffer) (f n d : ℕ) → n ≤ d → d < 8 →
    around (slice_set ps ((f + d) % 8) x) f n ≡ around ps f n
around_set ps x f zero d few within = refl
around_set ps x f (suc n) zero few within = absurd (omega (arith, few))
around_set ps x f (suc n) (suc d) few within =
    let off : f % 8 ≢ (f + suc d) % 8 = λ e. omega (arith, e, within) in
    let here = get_set_other ps (f % 8) ((f + suc d) % 8) x off in
    let at : (f + suc d) % 8 ≡ (f + 1 + d) % 8 = omega arith in
    let rest = ap (λ j. around (slice_set ps j x) (f + 1) n) at
    ∙ around_set ps x (f + 1) n d (omega (arith, few)) (omega (arith, within)) in
    λ i. found (here i) (rest i)

taken_set : (ps : List (Option Buffer)) (x : Option Buffer) (f n d : ℕ) → n ≤ d → d < 8 → AreTaken ps f n →
    AreTaken (slice_set ps ((f + d) % 8) x) f n
taken_set ps x f zero d few within all = tt
taken_set ps x f (suc n) zero few within all = absurd (omega (arith, few))
taken_set ps x f (suc n) (suc d) few within all =
    let off : f % 8 ≢ (f + suc d) % 8 = λ e. omega (arith, e, within) in
    let at : (f + 1 + d) % 8 ≡ (f + suc d) % 8 = omega arith in (
      subst IsTaken (sym (get_set_other ps (f % 8) ((f + suc d) % 8) x off)) all.0,
      subst (λ j. AreTaken (slice_set ps j x) (f + 1) n) at
          (taken_set ps x (f + 1) n d (omega (arith, few)) (omega (arith, within)) all.1),
    )

-- ---- one more behind them

around_more : (ps : List (Option Buffer)) (f n : ℕ) (b : Buffer) → slice_get ps ((f + n) % 8) ≡ Some (Some b) →
    around ps f (suc n) ≡ around ps f n ++ b ∷ []
around_more ps f zero b e =
    let at : f % 8 ≡ (f + 0) % 8 = omega arith in
    ap (λ o. found o []) (ap (slice_get ps) at ∙ e)
around_more ps f (suc n) b e =
    let at : (f + 1 + n) % 8 ≡ (f + suc n) % 8 = omega arith in
    ap (found (slice_get ps (f % 8))) (around_more ps (f + 1) n b (ap (slice_get ps) at ∙ e))
    ∙ found_append (slice_get ps (f % 8)) (around ps (f + 1) n) (b ∷ [])

taken_more : (ps : List (Option Buffer)) (f n : ℕ) (b : Buffer) → slice_get ps ((f + n) % 8) ≡ Some (Some b) →
    AreTaken ps f n → AreTaken ps f (suc n)
taken_more ps f zero b e all =
    let at : (f + 0) % 8 ≡ f % 8 = omega arith in
    (subst (λ k. IsTaken (slice_get ps k)) at (subst IsTaken (sym e) tt), tt)
taken_more ps f (suc n) b e all =
    let at : (f + 1 + n) % 8 ≡ (f + suc n) % 8 = omega arith in
    (all.0, taken_more ps (f + 1) n b (ap (slice_get ps) at ∙ e) all.1)

-- a buffer is put behind them
pub around_push : (ps : List (Option Buffer)) (f n : ℕ) (b : Buffer) → length ps ≡ 8 → n < 8 →
    around (slice_set ps ((f + n) % 8) (Some b)) f (n + 1) ≡ around ps f n ++ b ∷ []
around_push ps f n b long few =
    let next : n + 1 ≡ suc n = omega arith in
    let there = get_set_same ps ((f + n) % 8) (Some b) (omega (arith, long)) in
    ap (around (slice_set ps ((f + n) % 8) (Some b)) f) next
    ∙ around_more (slice_set ps ((f + n) % 8) (Some b)) f n b there
    ∙ ap (λ bs. bs ++ b ∷ []) (around_set ps (Some b) f n n (omega arith) few)

pub taken_push : (ps : List (Option Buffer)) (f n : ℕ) (b : Buffer) → length ps ≡ 8 → n < 8 → AreTaken ps f n →
    AreTaken (slice_set ps ((f + n) % 8) (Some b)) f (n + 1)
taken_push ps f n b long few all =
    let next : suc n ≡ n + 1 = omega arith in
    let there = get_set_same ps ((f + n) % 8) (Some b) (omega (arith, long)) in
    subst (AreTaken (slice_set ps ((f + n) % 8) (Some b)) f) next
    (taken_more (slice_set ps ((f + n) % 8) (Some b)) f n b there (taken_set ps (Some b) f n n (omega arith) few all))

-- the first one is taken out
pub around_freed : (ps : List (Option Buffer)) (f n : ℕ) → f < 8 → n < 8 → 1 ≤ n → AreTaken ps f n →
    around (slice_set ps f None) ((f + 1) % 8) (n - 1) ≡ drop 1 (around ps f n)
around_freed ps f zero first few some all = absurd (omega (arith, some))
around_freed ps f (suc n) first few some all =
    let at : f ≡ (f + 1 + 7) % 8 = omega (arith, first) in
    let less : suc n - 1 ≡ n = omega arith in
    ap (around (slice_set ps f None) ((f + 1) % 8)) less
    ∙ around_same (slice_set ps f None) ((f + 1) % 8) (f + 1) n (omega arith)
    ∙ ap (λ j. around (slice_set ps j None) (f + 1) n) at
    ∙ around_set ps None (f + 1) n 7 (omega (arith, few)) (omega arith)
    ∙ sym (found_rest (slice_get ps (f % 8)) (around ps (f + 1) n) all.0)

pub taken_freed : (ps : List (Option Buffer)) (f n : ℕ) → f < 8 → n < 8 → 1 ≤ n → AreTaken ps f n →
    AreTaken (slice_set ps f None) ((f + 1) % 8) (n - 1)
taken_freed ps f zero first few some all = absurd (omega (arith, some))
taken_freed ps f (suc n) first few some all =
    let at : (f + 1 + 7) % 8 ≡ f = omega (arith, first) in
    let less : n ≡ suc n - 1 = omega arith in
    subst (AreTaken (slice_set ps f None) ((f + 1) % 8)) less
    (taken_same (slice_set ps f None) (f + 1) ((f + 1) % 8) n (omega arith)
    (subst (λ j. AreTaken (slice_set ps j None) (f + 1) n) at
    (taken_set ps None (f + 1) n 7 (omega (arith, few)) (omega arith) all.1)))

-- ---- weights

pub first_weight : (w : Buffer → ℕ) (bs : List Buffer) (b : Buffer) → slice_get bs 0 ≡ Some b →
    weight w bs ≡ weight w (drop 1 bs) + w b
first_weight w [] b e = absurd (none-some b e)
first_weight w (c ∷ bs) b e = let same = ap w (same_Some c b e) in omega (arith, same)

-- ---- packets

get_drop : {X : Type 0} (n i : ℕ) (xs : List X) → slice_get (drop n xs) i ≡ slice_get xs (n + i)
get_drop zero i xs = let at : i ≡ 0 + i = omega arith in ap (slice_get xs) at
get_drop (suc n) i [] = refl
get_drop (suc n) i (x ∷ xs) =
    let at : suc (n + i) ≡ suc n + i = omega arith in
    get_drop n i xs ∙ ap (slice_get (x ∷ xs)) at

get_contents : (bs : List Buffer) (i : ℕ) (b : Buffer) → slice_get bs i ≡ Some b →
    slice_get (contents bs) i ≡ Some b.octets
get_contents [] i b e = absurd (none-some b e)
get_contents (c ∷ bs) zero b e = ap (λ (x : Buffer). Some x.octets) (same_Some c b e)
get_contents (c ∷ bs) (suc i) b e = get_contents bs i b e

contents_length : (bs : List Buffer) → length (contents bs) ≡ length bs
contents_length [] = refl
contents_length (b ∷ bs) = ap (λ n. suc n) (contents_length bs)

drop_length : {X : Type 0} (n : ℕ) (xs : List X) → length (drop n xs) ≡ length xs - n
drop_length zero xs = omega arith
drop_length (suc n) [] = omega arith
drop_length (suc n) (x ∷ xs) = let rest = drop_length n xs in omega (arith, rest)

pub packets_length : (k : ℕ) (ps : List (Option Buffer)) (f n : ℕ) → AreTaken ps f n →
    length (drop k (contents (around ps f n))) ≡ n - k
packets_length k ps f n all = drop_length k (contents (around ps f n)) ∙
    ap (λ m. m - k) (contents_length (around ps f n) ∙ around_length ps f n all)

-- where no more buffers are held than there are packets, none was given up
pub none_spent : (k n : ℕ) (ps : List (Option Buffer)) (f : ℕ) → AreTaken ps f (k + n) →
    length (around ps f (k + n)) ≡ length (drop k (contents (around ps f (k + n)))) → k ≡ 0
none_spent k n ps f all same =
    let held = around_length ps f (k + n) all in
    let packets = packets_length k ps f (k + n) all in
    omega (arith, same, held, packets)

pub packet_get : (k i : ℕ) (bs : List Buffer) (b : Buffer) → slice_get bs (k + i) ≡ Some b →
    slice_get (drop k (contents bs)) i ≡ Some b.octets
packet_get k i bs b e = get_drop k i (contents bs) ∙ get_contents bs (k + i) b e

drop_append : {X : Type 0} (n : ℕ) (xs ys : List X) → n ≤ length xs → drop n (xs ++ ys) ≡ drop n xs ++ ys
drop_append zero xs ys few = refl
drop_append (suc n) [] ys few = absurd (omega (arith, few))
drop_append (suc n) (x ∷ xs) ys few = drop_append n xs ys (omega (arith, few))

contents_append : (bs cs : List Buffer) → contents (bs ++ cs) ≡ contents bs ++ contents cs
contents_append [] cs = refl
contents_append (b ∷ bs) cs = ap (λ xs. b.octets ∷ xs) (contents_append bs cs)

pub packets_push : (k : ℕ) (bs : List Buffer) (b : Buffer) → k ≤ length bs →
    drop k (contents (bs ++ b ∷ [])) ≡ drop k (contents bs) ++ b.octets ∷ []
packets_push k bs b few =
    let long = contents_length bs in
    let within : k ≤ length (contents bs) = omega (arith, long, few) in
    ap (drop k) (contents_append bs (b ∷ [])) ∙ drop_append k (contents bs) (b.octets ∷ []) within

contents_drop : (n : ℕ) (bs : List Buffer) → contents (drop n bs) ≡ drop n (contents bs)
contents_drop zero bs = refl
contents_drop (suc n) [] = refl
contents_drop (suc n) (b ∷ bs) = contents_drop n bs

-- the first one of those given up is gone
pub packets_freed : (k : ℕ) (bs : List Buffer) → 1 ≤ k → drop (k - 1) (contents (drop 1 bs)) ≡ drop k (contents bs)
packets_freed zero bs some = absurd (omega (arith, some))
packets_freed (suc k) bs some =
    let less : suc k - 1 ≡ k = omega arith in
    let more : 1 + k ≡ suc k = omega arith in
    ap (λ n. drop n (contents (drop 1 bs))) less
    ∙ ap (drop k) (contents_drop 1 bs)
    ∙ drop-drop k 1 (contents bs)
    ∙ ap (λ n. drop n (contents bs)) more

pub none_left : (k : ℕ) (bs : List Buffer) → length bs ≤ k → drop k (contents bs) ≡ []
none_left k bs few = drop_all k (contents bs) (omega (arith, few, contents_length bs))
  where
    drop_all : (n : ℕ) (xs : List (List ℕ)) → length xs ≤ n → drop n xs ≡ []
    drop_all zero [] few = refl
    drop_all zero (x ∷ xs) few = absurd (omega (arith, few))
    drop_all (suc n) [] few = refl
    drop_all (suc n) (x ∷ xs) few = drop_all n xs (omega (arith, few))

drop_next : {X : Type 0} (n : ℕ) (xs : List X) → drop 1 (drop n xs) ≡ drop (suc n) xs
drop_next zero xs = refl
drop_next (suc n) [] = refl
drop_next (suc n) (x ∷ xs) = drop_next n xs

pub drop_more : {X : Type 0} (n : ℕ) (xs : List X) → drop 1 (drop n xs) ≡ drop (n + 1) xs
drop_more n xs = let next : suc n ≡ n + 1 = omega arith in drop_next n xs ∙ ap (λ m. drop m xs) next
