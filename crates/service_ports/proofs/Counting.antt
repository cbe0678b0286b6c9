-- Counts of keys.
use Rattle.std.proofs.Common.{◌≡◌, ◌≢◌, ℕ, zero, suc, ◌+◌, ◌<◌, Bool, true, false, List, [], ◌∷◌, ◌++◌, length, min, drop, remove, slice_get, position, Some, None, refl, sym, ap, ◌∙◌, arith, inl, inr, cond, not, ◌==◌, subst, count_by, get_or-set_same, get_or-set_other}
use Rattle.std.specs.List.{position_or_len}
use Rattle.std.specs.Prelude.{nat_lt, slice_index_or, slice_set}
use Rattle.std.proofs.Math.ListN.{length-set}
use Rattle.std.proofs.lemmas.Bool.{cases_eq}
use Rattle.std.proofs.lemmas.Bool.Decides.{nat_tests}
use Rattle.std.proofs.lemmas.List.{get_or-replicate, length-replicate}
use Rattle.std.proofs.lemmas.List.Sums.{count_by-le-length, sum_by-append}
use Rattle.service_ports.specs.declared.input.Key.{Key}
use Rattle.service_ports.specs.declared.input.Key.TheVariants.{Octet, Break}
use Rattle.service_ports.specs.declared.key_counts.KeyCounts.{KeyCounts}
use Rattle.service_ports.specs.Counting.{AreCounted, is_break, no_counts, one_more, one_fewer}
use Rattle.service_ports.specs.Ports.{is_break_or, is_octet}

pub none_counted : AreCounted [] no_counts
none_counted = record {
  places = length-replicate {A = ℕ} 256 0;
  octets = λ octet within. get_or-replicate {A = ℕ} 256 octet 0 0 within;
  breaks = refl;
}

-- how many of one key pass a test
abbrev one_if : Bool → ℕ
one_if b = cond b 1 0

one_last : (count : ℕ) (b : Bool) → count + (0 + one_if b) ≡ count + one_if b
one_last count b = omega arith

count-append : (p : Key → Bool) (keys : List Key) (key : Key) → count_by p (keys ++ key ∷ []) ≡ count_by p keys + one_if (p key)
count-append p keys key = sum_by-append (λ k. cond (p k) 1 0) keys (key ∷ []) ∙ one_last (count_by p keys) (p key)

one_first : (count : ℕ) (b : Bool) → (0 + one_if b) + count ≡ one_if b + count
one_first count b = omega arith

count-cons : (p : Key → Bool) (key : Key) (keys : List Key) → count_by p (key ∷ keys) ≡ one_if (p key) + count_by p keys
count-cons p key keys = sum_by-append (λ k. cond (p k) 1 0) (key ∷ []) keys ∙ one_first (count_by p keys) (p key)

same_test : (octet : ℕ) → is_octet octet (Octet octet) ≡ true
same_test octet = grind (arith, nat_tests)

other_test : (octet other : ℕ) → octet ≢ other → is_octet octet (Octet other) ≡ false
other_test octet other apart = grind (arith, nat_tests)

-- the count of an octet, where that of another one or of itself is set
count_set : (octets : List ℕ) (set_at octet count same : ℕ) → length octets ≡ 256 → octet < 256
    → (octet ≡ set_at → same ≡ count) → (octet ≢ set_at → slice_index_or octets octet 0 ≡ same)
    → slice_index_or (slice_set octets set_at count) octet 0 ≡ same
count_set octets set_at octet count same long within here elsewhere = elim (cases_eq octet set_at) [
  | inl e ↦
      let at : slice_index_or (slice_set octets set_at count) set_at 0 ≡ count = get_or-set_same octets set_at count 0 (omega (arith, long, e)) in
      ap (λ n. slice_index_or (slice_set octets set_at count) n 0) e ∙ at ∙ sym (here e)
  | inr apart ↦ get_or-set_other octets set_at octet count 0 apart ∙ elsewhere apart
]

-- one key more, behind the others
pub one_counted : (keys : List Key) (key : Key) (c : KeyCounts) → AreCounted keys c → length keys < 2048
    → AreCounted (keys ++ key ∷ []) (one_more key c)
one_counted keys (Octet typed) c counted few = record {
  places = length-set c.octets typed _ ∙ counted.places;
  octets = λ octet within.
      let more = count-append (is_octet octet) keys (Octet typed) in
      let most = count_by-le-length (is_octet octet) keys in
      count_set c.octets typed octet _ (count_by (is_octet octet) (keys ++ Octet typed ∷ [])) counted.places within
      (λ e.
      let is : is_octet octet (Octet typed) ≡ true = ap (λ n. is_octet octet (Octet n)) (sym e) ∙ same_test octet in
      let before : slice_index_or c.octets typed 0 ≡ count_by (is_octet octet) keys
      = ap (λ n. slice_index_or c.octets n 0) (sym e) ∙ counted.octets octet within in
      more ∙ ap (λ b. count_by (is_octet octet) keys + one_if b) is ∙ omega (arith, before, most, few))
      (λ apart. counted.octets octet within ∙ sym (more ∙ ap (λ b. count_by (is_octet octet) keys + one_if b) (other_test octet typed apart) ∙ omega arith));
  breaks = counted.breaks ∙ sym (count-append is_break keys (Octet typed) ∙ omega arith);
}
one_counted keys Break c counted few = record {
  places = counted.places;
  octets = λ octet within. counted.octets octet within ∙ sym (count-append (is_octet octet) keys Break ∙ omega arith);
  breaks = sym (count-append is_break keys Break ∙ omega (arith, counted.breaks, count_by-le-length is_break keys, few));
}

swapped : (a b : ℕ) → a + b ≡ b + a
swapped a b = omega arith

grouped : (a b c : ℕ) → a + (b + c) ≡ (a + b) + c
grouped a b c = omega arith

-- one key fewer, wherever it was
count_removed : (p : Key → Bool) (keys : List Key) (place : ℕ) (key : Key) → slice_get keys place ≡ Some key
    → count_by p keys ≡ count_by p (remove keys place) + one_if (p key)
count_removed p [] place key there = cc
count_removed p (first ∷ keys) zero key there =
    let is : first ≡ key = cc in
    count-cons p first keys ∙ ap (λ k. one_if (p k) + count_by p keys) is ∙ swapped (one_if (p key)) (count_by p keys)
count_removed p (first ∷ keys) (suc place) key there =
    count-cons p first keys
    ∙ ap (λ n. one_if (p first) + n) (count_removed p keys place key there)
    ∙ grouped (one_if (p first)) (count_by p (remove keys place)) (one_if (p key))
    ∙ ap (λ n. n + one_if (p key)) (sym (count-cons p first (remove keys place)))

pub removed_counted : (keys : List Key) (place : ℕ) (key : Key) (c : KeyCounts) → AreCounted keys c → slice_get keys place ≡ Some key
    → AreCounted (remove keys place) (one_fewer key c)
removed_counted keys place (Octet typed) c counted there = record {
  places = length-set c.octets typed _ ∙ counted.places;
  octets = λ octet within.
      let fewer = count_removed (is_octet octet) keys place (Octet typed) there in
      count_set c.octets typed octet _ (count_by (is_octet octet) (remove keys place)) counted.places within
      (λ e.
      let is : is_octet octet (Octet typed) ≡ true = ap (λ n. is_octet octet (Octet n)) (sym e) ∙ same_test octet in
      let before : slice_index_or c.octets typed 0 ≡ count_by (is_octet octet) keys
      = ap (λ n. slice_index_or c.octets n 0) (sym e) ∙ counted.octets octet within in
      let all = fewer ∙ ap (λ b. count_by (is_octet octet) (remove keys place) + one_if b) is in
      omega (arith, before, all))
      (λ apart. counted.octets octet within ∙ fewer
      ∙ ap (λ b. count_by (is_octet octet) (remove keys place) + one_if b) (other_test octet typed apart) ∙ omega arith);
  breaks = counted.breaks ∙ count_removed is_break keys place (Octet typed) there ∙ omega arith;
}
removed_counted keys place Break c counted there = record {
  places = counted.places;
  octets = λ octet within. counted.octets octet within ∙ count_removed (is_octet octet) keys place Break there ∙ omega arith;
  breaks = omega (arith, counted.breaks, count_removed is_break keys place Break there);
}

-- a key that is not there is not found
none_by : (b : Bool) (count found long : ℕ) → one_if b + count ≡ 0 → (count ≡ 0 → found ≡ long) → cond (not b) (1 + found) 0 ≡ suc long
none_by true count found long none later = absurd (omega (arith, none))
none_by false count found long none later = omega (arith, later (omega (arith, none)))

none_passes : (p : Key → Bool) (keys : List Key) → count_by p keys ≡ 0 → position_or_len p keys ≡ length keys
none_passes p [] none = refl
none_passes p (key ∷ keys) none =
    none_by (p key) (count_by p keys) (position_or_len p keys) (length keys) (sym (count-cons p key keys) ∙ none) (λ rest. none_passes p keys rest)

not_within : (n m : ℕ) → n ≡ m → cond (nat_lt n m) (Some n) None ≡ None
not_within n m same = let no : nat_lt n m ≡ false = grind (arith, nat_tests) in ap (λ b. cond b (Some n) None) no

pub none_found : (p : Key → Bool) (keys : List Key) → count_by p keys ≡ 0 → position p keys ≡ None
none_found p keys none = not_within (position_or_len p keys) (length keys) (none_passes p keys none)

-- without a key of an octet, a key that is a break or of it is a break
break_by : (octet : ℕ) (key : Key) → is_octet octet key ≡ false → is_break_or octet key ≡ is_break key
break_by octet (Octet typed) none = none
break_by octet Break none = refl

one_none : (b : Bool) (count : ℕ) → one_if b + count ≡ 0 → (b ≡ false) × (count ≡ 0)
one_none true count none = absurd (omega (arith, none))
one_none false count none = (refl, omega (arith, none))

position_same : (p q : Key → Bool) (keys : List Key) → position_or_len p keys ≡ position_or_len q keys → position p keys ≡ position q keys
position_same p q keys same = ap (λ n. cond (nat_lt n (length keys)) (Some n) None) same

breaks_alone : (octet : ℕ) (keys : List Key) → count_by (is_octet octet) keys ≡ 0
    → position_or_len (is_break_or octet) keys ≡ position_or_len is_break keys
breaks_alone octet [] none = refl
breaks_alone octet (key ∷ keys) none =
    let both = one_none (is_octet octet key) (count_by (is_octet octet) keys) (sym (count-cons (is_octet octet) key keys) ∙ none) in
    λ i. cond (not (break_by octet key both.0 i)) (1 + breaks_alone octet keys both.1 i) 0

pub break_alone : (octet : ℕ) (keys : List Key) → count_by (is_octet octet) keys ≡ 0 → position (is_break_or octet) keys ≡ position is_break keys
break_alone octet keys none = position_same (is_break_or octet) is_break keys (breaks_alone octet keys none)

-- ---- what is left after a call

pub none_left : (keys : List Key) (c : KeyCounts) → keys ≡ [] → c ≡ no_counts → AreCounted keys c
none_left keys c is counts =
    subst (λ k. AreCounted k c) (sym is) (subst (λ (n : KeyCounts). AreCounted [] n) (sym counts) none_counted)

pub one_left : (keys after : List Key) (key : Key) (c d : KeyCounts) → AreCounted keys c → length keys < 2048 → after ≡ keys ++ key ∷ []
    → d ≡ one_more key c → AreCounted after d
one_left keys after key c d counted few is counts =
    subst (λ k. AreCounted k d) (sym is) (subst (λ (n : KeyCounts). AreCounted (keys ++ key ∷ []) n) (sym counts) (one_counted keys key c counted few))

pub removed_left : (keys after : List Key) (place : ℕ) (key : Key) (c d : KeyCounts) → AreCounted keys c → slice_get keys place ≡ Some key
    → after ≡ remove keys place → d ≡ one_fewer key c → AreCounted after d
removed_left keys after place key c d counted there is counts =
    subst (λ k. AreCounted k d) (sym is) (subst (λ (n : KeyCounts). AreCounted (remove keys place) n) (sym counts) (removed_counted keys place key c counted there))

absent : (b : Bool) (n : ℕ) → b ≡ not (n == 0) → b ≡ false → n ≡ 0
absent b zero is none = refl
absent true (suc n) is none = cc
absent false (suc n) is none = absurd (grind (arith, nat_tests))

pub octet_absent : (keys : List Key) (c : KeyCounts) (octet : ℕ) (b : Bool) → AreCounted keys c → octet < 256
    → b ≡ not (slice_index_or c.octets octet 0 == 0) → b ≡ false → position (is_octet octet) keys ≡ None
octet_absent keys c octet b counted within is none =
    none_found (is_octet octet) keys (sym (counted.octets octet within) ∙ absent b (slice_index_or c.octets octet 0) is none)

pub break_absent : (keys : List Key) (c : KeyCounts) (b : Bool) → AreCounted keys c → b ≡ not (c.breaks == 0) → b ≡ false
    → position is_break keys ≡ None
break_absent keys c b counted is none = none_found is_break keys (sym counted.breaks ∙ absent b c.breaks is none)

pub octet_or_break : (keys : List Key) (c : KeyCounts) (octet : ℕ) (b : Bool) → AreCounted keys c → octet < 256
    → b ≡ not (slice_index_or c.octets octet 0 == 0) → b ≡ false → position (is_break_or octet) keys ≡ position is_break keys
octet_or_break keys c octet b counted within is none =
    break_alone octet keys (sym (counted.octets octet within) ∙ absent b (slice_index_or c.octets octet 0) is none)

-- ---- keys that are dropped

drop_suc : (n : ℕ) (keys : List Key) → drop 1 (drop n keys) ≡ drop (suc n) keys
drop_suc zero keys = refl
drop_suc (suc n) [] = refl
drop_suc (suc n) (key ∷ keys) = drop_suc n keys

pub drop_one_more : (n : ℕ) (keys : List Key) → drop 1 (drop n keys) ≡ drop (n + 1) keys
drop_one_more n keys = drop_suc n keys ∙ (let next : suc n ≡ n + 1 = omega arith in ap (λ k. drop k keys) next)

pub drop_over : (count : ℕ) (keys : List Key) → drop (min count (length keys)) keys ≡ drop count keys
drop_over zero keys = let none : min 0 (length keys) ≡ 0 = omega arith in ap (λ n. drop n keys) none
drop_over (suc count) [] = let none : min (suc count) 0 ≡ 0 = omega arith in ap (λ n. drop n []) none
drop_over (suc count) (key ∷ keys) =
    let next : min (suc count) (suc (length keys)) ≡ suc (min count (length keys)) = omega arith in
    ap (λ n. drop n (key ∷ keys)) next ∙ drop_over count keys

pub remove_none : (keys : List Key) (place : ℕ) → slice_get keys place ≡ None → keys ≡ remove keys place
remove_none [] zero none = refl
remove_none [] (suc place) none = refl
remove_none (key ∷ keys) zero none = cc
remove_none (key ∷ keys) (suc place) none = ap (λ rest. key ∷ rest) (remove_none keys place none)
