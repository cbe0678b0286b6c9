-- Joins with their buffers: what one of them, by its channel, is to all.
use Rattle.std.proofs.Common.{◌≡◌, ℕ, zero, suc, ◌+◌, ◌<◌, ◌≤◌, List, [], ◌∷◌, ◌++◌, length, set, get_or, map, take, drop, replicate, Option, Some, None, refl, sym, ap, ap₂, ◌∙◌, subst, arith}
use Rattle.std.specs.Prelude.{slice_get}
use Rattle.std.proofs.lemmas.Option.{same_Some, none-some}
use Rattle.std.proofs.lemmas.List.{length-map, map-set, append-nil}
use Rattle.std.proofs.Math.Seq.{take-length, drop-length}
use Rattle.std.proofs.Math.ListN.{length-set}
use Rattle.flow_window.specs.Pool.{Pool, Buffer, IsIn, weight, Holds, Balances}
use Rattle.flow_window.proofs.Weights.{weight_append, held_in}
use Rattle.switch_joins.specs.Direction.{Direction}
use Rattle.switch_joins.specs.Joins.{Joined, flat, nth_joined, with_nth_joined, joined_with, with_nth_kept}
use Rattle.switch_joins.specs.Held.{HeldJoin, HeldJoins, Gathering, gathered_in, buffers_in, IsPart, join_in, joined_in, buffers_of, plain, buffers}

-- ---- one direction

-- where nothing is gathered there is no buffer
pub none_gathered : (o : Option Gathering) → IsPart o → length (gathered_in o).octets ≡ 0 → o ≡ None
none_gathered None is e = refl
none_gathered (Some g) is e = absurd (omega (arith, is.0, e))

-- what is gathered lies in a buffer in use
pub held_gathering : (pool : Pool) (o : Option Gathering) (g : Gathering) → o ≡ Some g → Holds pool (buffers_in o) → IsIn g.buffer pool
held_gathering pool o g e holds =
    held_in pool (g.buffer ∷ []) 0 g.buffer (subst (λ p. Holds pool (buffers_in p)) e holds) refl

-- ---- places by channels

pub plain_length : (os : List (Option HeldJoin)) → length (plain os) ≡ length os
plain_length os = length-map os joined_in

plain_get : (os : List (Option HeldJoin)) (i : ℕ) (o : Option HeldJoin) → slice_get os i ≡ Some o → slice_get (plain os) i ≡ Some (joined_in o)
plain_get [] i o e = absurd (none-some o e)
plain_get (x ∷ os) zero o e = ap (λ y. Some (joined_in y)) (same_Some x o e)
plain_get (x ∷ os) (suc i) o e = plain_get os i o e

-- the place that the code borrows
pub at_place : (os : List (Option HeldJoin)) (i : ℕ) (o : Option HeldJoin) → i < length os → o ≡ get_or os i o → slice_get os i ≡ Some o
at_place [] i o lt e = absurd (omega (arith, lt))
at_place (x ∷ os) zero o lt e = ap Some (sym e)
at_place (x ∷ os) (suc i) o lt e = at_place os i o (omega (arith, lt)) e

-- the same of the joins alone
pub plain_at : (os : List (Option HeldJoin)) (i : ℕ) (o : Option HeldJoin) → slice_get os i ≡ Some o → joined_in o ≡ get_or (plain os) i (joined_in o)
plain_at [] i o e = absurd (none-some o e)
plain_at (x ∷ os) zero o e = ap (λ y. joined_in y) (sym (same_Some x o e))
plain_at (x ∷ os) (suc i) o e = plain_at os i o e

pub nth_is : (os : List (Option HeldJoin)) (i c : ℕ) (o : Option HeldJoin) → i + 1 ≡ c → slice_get os i ≡ Some o → nth_joined (plain os) c ≡ joined_in o
nth_is os i zero o at e = absurd (omega (arith, at))
nth_is os i (suc j) o at e =
    let same : j ≡ i = omega (arith, at) in
    ap flat (ap (λ n. slice_get (plain os) n) same ∙ plain_get os i o e)

pub set_nth : (os : List (Option HeldJoin)) (i c : ℕ) (new : Option HeldJoin) → i + 1 ≡ c → plain (set os i new) ≡ with_nth_joined (plain os) c (joined_in new)
set_nth os i zero new at = absurd (omega (arith, at))
set_nth os i (suc j) new at =
    let same : i ≡ j = omega (arith, at) in
    map-set joined_in os i new ∙ ap (λ n. set (plain os) n (joined_in new)) same

pub set_kept : (os : List (Option HeldJoin)) (i c : ℕ) (old new : Option HeldJoin) (f : Direction → Direction) → i + 1 ≡ c →
    slice_get os i ≡ Some old → joined_in new ≡ joined_with f (joined_in old) → plain (set os i new) ≡ with_nth_kept (plain os) c f
set_kept os i c old new f at e is =
    set_nth os i c new at ∙ ap (λ o. with_nth_joined (plain os) c o) (is ∙ ap (λ o. joined_with f o) (sym (nth_is os i c old at e)))

-- ---- buffers

buffers_set : (w : Buffer → ℕ) (os : List (Option HeldJoin)) (i : ℕ) (old new : Option HeldJoin) → slice_get os i ≡ Some old →
    weight w (buffers (set os i new)) + weight w (buffers_of old) ≡ weight w (buffers os) + weight w (buffers_of new)
buffers_set w [] i old new e = absurd (none-some old e)
buffers_set w (x ∷ os) zero old new e =
    let same = ap (λ o. weight w (buffers_of o)) (same_Some x old e) in
    let before = weight_append w (buffers_of x) (buffers os) in
    let after = weight_append w (buffers_of new) (buffers os) in
    omega (arith, same, before, after)
buffers_set w (x ∷ os) (suc i) old new e =
    let rest = buffers_set w os i old new e in
    let before = weight_append w (buffers_of x) (buffers os) in
    let after = weight_append w (buffers_of x) (buffers (set os i new)) in
    omega (arith, rest, before, after)

-- what a place holds is in use
pub holds_at : (pool : Pool) (os : List (Option HeldJoin)) (i : ℕ) (o : Option HeldJoin) → Holds pool (buffers os) →
    slice_get os i ≡ Some o → Holds pool (buffers_of o)
holds_at pool os i o all e w =
    let there = buffers_set w os i o None e in
    let within = all w in
    omega (arith, there, within)

-- a place gives its buffer back or takes one
pub balances_at : (before after : Pool) (os : List (Option HeldJoin)) (i : ℕ) (old new : Option HeldJoin) → slice_get os i ≡ Some old →
    Balances before (buffers_of old) after (buffers_of new) → Balances before (buffers os) after (buffers (set os i new))
balances_at before after os i old new e change = record {
  size = change.size;
  places = change.places;
  weights = λ w.
      let own = change.weights w in
      let all = buffers_set w os i old new e in
      omega (arith, own, all);
}

-- it holds what it held
pub buffers_same : (os : List (Option HeldJoin)) (i : ℕ) (old new : Option HeldJoin) → slice_get os i ≡ Some old →
    buffers_of new ≡ buffers_of old → buffers (set os i new) ≡ buffers os
buffers_same [] i old new e same = refl
buffers_same (x ∷ os) zero old new e same =
    ap (λ bs. bs ++ buffers os) (same ∙ ap (λ o. buffers_of o) (sym (same_Some x old e)))
buffers_same (x ∷ os) (suc i) old new e same = ap (λ bs. buffers_of x ++ bs) (buffers_same os i old new e same)

-- each channel holds at most one
one_held : (o : Option HeldJoin) (bs : List Buffer) → length (buffers_of o ++ bs) ≤ suc (length bs)
one_held None bs = omega arith
one_held (Some j) bs = one_of j.kept.gathered
  where
    one_of : (g : Option Gathering) → length (buffers_of (Some (record j { kept = record j.kept { gathered = g } })) ++ bs) ≤ suc (length bs)
    one_of None = omega arith
    one_of (Some g) = omega arith

pub few_held : (os : List (Option HeldJoin)) → length (buffers os) ≤ length (plain os)
few_held [] = omega arith
few_held (o ∷ os) = let rest = few_held os in let one = one_held o (buffers os) in omega (arith, rest, one)

pub few_after : (os : List (Option HeldJoin)) (i : ℕ) (new : Option HeldJoin) → length (buffers (set os i new)) ≤ length (plain os)
few_after os i new =
    let few = few_held (set os i new) in
    let same = plain_length (set os i new) in
    let length_kept = length-set os i new in
    let all = plain_length os in
    omega (arith, few, same, length_kept, all)

-- ---- the same by what contracts see

abbrev is_view : List (Option HeldJoin) → HeldJoins
is_view os = record { joined = plain os; held = buffers os }

pub own_place : (os : List (Option HeldJoin)) (x : HeldJoins) (i : ℕ) (o : Option HeldJoin) → is_view os ≡ x →
    i < length x.joined → o ≡ get_or os i o → slice_get os i ≡ Some o
own_place os x i o view lt e =
    let all = plain_length os in
    let same = ap (λ (y : HeldJoins). length y.joined) view in
    at_place os i o (omega (arith, lt, all, same)) e

pub own_holds : (os : List (Option HeldJoin)) (x : HeldJoins) (pool : Pool) (i : ℕ) (o : Option HeldJoin) → is_view os ≡ x →
    Holds pool x.held → slice_get os i ≡ Some o → Holds pool (buffers_of o)
own_holds os x pool i o view all e = holds_at pool os i o (subst (λ (y : HeldJoins). Holds pool y.held) (sym view) all) e

pub own_nth : (os : List (Option HeldJoin)) (x : HeldJoins) (i c : ℕ) (o : Option HeldJoin) → is_view os ≡ x →
    i + 1 ≡ c → slice_get os i ≡ Some o → joined_in o ≡ nth_joined x.joined c
own_nth os x i c o view at e = sym (nth_is os i c o at e) ∙ ap (λ (y : HeldJoins). nth_joined y.joined c) view

pub own_set : (os : List (Option HeldJoin)) (x : HeldJoins) (i c : ℕ) (new : Option HeldJoin) (o : Option Joined) → is_view os ≡ x →
    i + 1 ≡ c → joined_in new ≡ o → plain (set os i new) ≡ with_nth_joined x.joined c o
own_set os x i c new o view at is =
    set_nth os i c new at ∙ ap (λ (y : HeldJoins). with_nth_joined y.joined c (joined_in new)) view ∙ ap (λ p. with_nth_joined x.joined c p) is

pub own_kept : (os : List (Option HeldJoin)) (x : HeldJoins) (i c : ℕ) (old new : Option HeldJoin) (f : Direction → Direction) → is_view os ≡ x →
    i + 1 ≡ c → slice_get os i ≡ Some old → joined_in new ≡ joined_with f (joined_in old) →
    plain (set os i new) ≡ with_nth_kept x.joined c f
own_kept os x i c old new f view at e is =
    set_kept os i c old new f at e is ∙ ap (λ (y : HeldJoins). with_nth_kept y.joined c f) view

-- where it holds what it held
pub own_same : (os : List (Option HeldJoin)) (x : HeldJoins) (i c : ℕ) (old new : Option HeldJoin) (f : Direction → Direction) → is_view os ≡ x →
    i + 1 ≡ c → slice_get os i ≡ Some old → joined_in new ≡ joined_with f (joined_in old) → buffers_of new ≡ buffers_of old →
    is_view (set os i new) ≡ record x { joined = with_nth_kept x.joined c f }
own_same os x i c old new f view at e is same = λ k. record {
  joined = own_kept os x i c old new f view at e is k;
  held = (buffers_same os i old new e same ∙ ap (λ (y : HeldJoins). y.held) view) k;
}

pub own_balance : (os : List (Option HeldJoin)) (x : HeldJoins) (before after : Pool) (i : ℕ) (old new : Option HeldJoin) → is_view os ≡ x →
    slice_get os i ≡ Some old → Balances before (buffers_of old) after (buffers_of new) →
    Balances before x.held after (buffers (set os i new))
own_balance os x before after i old new view e change =
    subst (λ (y : HeldJoins). Balances before y.held after (buffers (set os i new))) view (balances_at before after os i old new e change)

pub own_few : (os : List (Option HeldJoin)) (x : HeldJoins) (i : ℕ) (new : Option HeldJoin) → is_view os ≡ x →
    length (buffers (set os i new)) ≤ length x.joined
own_few os x i new view = subst (λ (y : HeldJoins). length (buffers (set os i new)) ≤ length y.joined) view (few_after os i new)

pub own_few_same : (os : List (Option HeldJoin)) (x : HeldJoins) → is_view os ≡ x → length x.held ≤ length x.joined
own_few_same os x view = subst (λ (y : HeldJoins). length y.held ≤ length y.joined) view (few_held os)

-- ---- without joins

pub no_joins : (n : ℕ) → is_view (replicate n None) ≡ record { joined = replicate n None; held = [] }
no_joins zero = refl
no_joins (suc n) = λ i. record { joined = None ∷ (no_joins n i).joined; held = (no_joins n i).held }

joined_none : (o : Option HeldJoin) → joined_in o ≡ None → o ≡ None
joined_none None e = refl
joined_none (Some j) e = absurd (none-some (join_in j) (sym e))

-- where no channel is joined no buffer is held
pub none_held : (os : List (Option HeldJoin)) (js : List (Option Joined)) → plain os ≡ map (λ o. None) js → buffers os ≡ []
none_held [] js e = refl
none_held (o ∷ os) [] e = let none = ap (λ ps. length ps) e in absurd (omega (arith, none))
none_held (o ∷ os) (j ∷ js) e = ap (λ p. buffers_of p ++ buffers os) (joined_none o (ap (λ ps. get_or ps 0 None) e)) ∙ none_held os js (ap (λ ps. drop 1 ps) e)

-- all places were gone through
pub all_places : {X : Type 0} (n : ℕ) (xs ys : List X) → length xs ≡ length ys → n ≡ length ys → take n (xs ++ drop (length xs) ys) ≡ xs
all_places n xs ys same all =
    ap₂ (λ k zs. take k (xs ++ zs)) (all ∙ sym same) (ap (λ k. drop k ys) same ∙ drop-length ys)
    ∙ ap (λ zs. take (length xs) zs) (append-nil xs) ∙ take-length xs
