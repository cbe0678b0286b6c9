-- What one channel more or less makes of a set of channels.
use Rattle.std.proofs.Common.{◌≡◌, ◌≢◌, ℕ, ◌<◌, ◌⊎◌, inl, inr, Bool, true, false, not, ◌&&◌, ◌||◌, ◌==◌, List, length, get_or, set, Option, Some, None, refl, sym, ap, ap₂, ◌∙◌, true≢false, get_or-set_other, get_or-set_same, zero, suc}
use Rattle.std.specs.Prelude.{replicate}
use Rattle.std.proofs.lemmas.Nat.Bits.{bit_at-zero}
use Rattle.std.proofs.lemmas.Bool.{eq-eqb, ne_eqb, cases_eq, lt-ltb, or_parts}
use Rattle.number_set.specs.declared.NumberSet.{NumberSet}
use Rattle.number_set.specs.NumberSet as numbers
use Rattle.switch_joins.specs.ChannelSet.{empty, has, is_small, is_of_join}
use Rattle.switch_joins.specs.declared.channel_set.ChannelSet.{ChannelSet}
use Rattle.switch_joins.specs.Joins.{SwitchChannel, same_place}
use Rattle.switch_joins.proofs.Apart.{decided, place_is}

abbrev at : List NumberSet → SwitchChannel → Bool
at sets p = numbers.has (get_or sets p.line empty) p.channel

or_no : (b : Bool) → (b || false) ≡ b
or_no true = refl
or_no false = refl

pub and_yes : (b : Bool) → (b && true) ≡ b
and_yes true = refl
and_yes false = refl

or_and_no : (a b : Bool) → (a || (b && false)) ≡ a
or_and_no true true = refl
or_and_no true false = refl
or_and_no false true = refl
or_and_no false false = refl

pub and_not_no : (a b : Bool) → (a && not (b && false)) ≡ a
and_not_no true true = refl
and_not_no true false = refl
and_not_no false true = refl
and_not_no false false = refl

pub is_so_small : (x : SwitchChannel) → x.line < 64 → x.channel < 63 → is_small x ≡ true
is_so_small x line channel = ap₂ (λ (a b : Bool). a && b) (lt-ltb x.line 64 line) (lt-ltb x.channel 63 channel)

-- a channel is added
pub inserted : (sets : List NumberSet) (x p : SwitchChannel) (new : NumberSet) → x.line < length sets → x.line < 64 → x.channel < 63
    → ((n : ℕ) → numbers.has new n ≡ (numbers.has (get_or sets x.line empty) n || n == x.channel))
    → at (set sets x.line new) p ≡ (at sets p || (is_small x && same_place p x))
inserted sets x p new within line channel adds = by_line (cases_eq p.line x.line)
  where
    by_line : (p.line ≡ x.line) ⊎ (p.line ≡ x.line → ⊥) → at (set sets x.line new) p ≡ (at sets p || (is_small x && same_place p x))
    by_line (inl same) =
        ap (λ (s : NumberSet). numbers.has s p.channel) (ap (λ (n : ℕ). get_or (set sets x.line new) n empty) same ∙ get_or-set_same sets x.line new empty within)
        ∙ adds p.channel
        ∙ ap₂ (λ (n : ℕ) (b : Bool). numbers.has (get_or sets n empty) p.channel || (b && (p.channel == x.channel))) (sym same) (sym (eq-eqb p.line x.line same))
        ∙ ap (λ (b : Bool). at sets p || (b && same_place p x)) (sym (is_so_small x line channel))
    by_line (inr apart) =
        ap (λ (s : NumberSet). numbers.has s p.channel) (get_or-set_other sets x.line p.line new empty apart)
        ∙ sym (ap (λ (b : Bool). at sets p || (is_small x && (b && (p.channel == x.channel)))) (ne_eqb p.line x.line apart) ∙ or_and_no (at sets p) (is_small x))

-- a channel is neither this one nor the one that it is joined to
abbrev pub IsApart : (p leg : SwitchChannel) → (other : Option SwitchChannel) → Type 0
IsApart p leg None = Unit {0}
IsApart p leg (Some other) = (is_small leg ≡ true → p ≢ leg) × (is_small other ≡ true → p ≢ other)

-- a channel that is not in a set after a join was added
pub not_of_join : (s t : ChannelSet) (x : SwitchChannel) (other : Option SwitchChannel) → ((q : SwitchChannel) → has t q ≡ (has s q || is_of_join q x other))
    → (p : SwitchChannel) → has t p ≡ false → (has s p ≡ false) × IsApart p x other
not_of_join s t x None adds p out = (sym (adds p ∙ or_no (has s p)) ∙ out, tt)
not_of_join s t x (Some y) adds p out =
    let parts = or_parts (has s p) (is_of_join p x (Some y)) (sym (adds p) ∙ out) in
    let ends = or_parts (is_small x && same_place p x) (is_small y && same_place p y) parts.1 in
    (parts.0, (apart x ends.0, apart y ends.1))
  where
    apart : (z : SwitchChannel) → (is_small z && same_place p z) ≡ false → is_small z ≡ true → p ≢ z
    apart z none small same =
        let here : same_place p z ≡ true = ap₂ (λ (a b : Bool). a && b) (eq-eqb p.line z.line (ap (λ (q : SwitchChannel). q.line) same)) (eq-eqb p.channel z.channel (ap (λ (q : SwitchChannel). q.channel) same)) in
        true≢false (sym (ap₂ (λ (a b : Bool). a && b) small here) ∙ none)

-- a channel that is in a set after others may have been added
pub still_in : (a b : Bool) → a ≡ true → (a || b) ≡ true
still_in a b e = ap (λ (c : Bool). c || b) e

pub added_in : (a b c d : Bool) → b ≡ true → c ≡ true → d ≡ true → (a || (b && (c && d))) ≡ true
added_in a b c d e f g = ap₂ (λ (x y : Bool). a || (x && y)) e (ap₂ (λ (x y : Bool). x && y) f g) ∙ or_yes a
  where
    or_yes : (x : Bool) → (x || true) ≡ true
    or_yes true = refl
    or_yes false = refl

-- a channel that two takings out left out was out before, or is one of the two
pub taken_out : (s t u : ChannelSet) (x y p : SwitchChannel) → ((q : SwitchChannel) → has t q ≡ (has s q && not (is_small x && same_place q x)))
    → ((q : SwitchChannel) → has u q ≡ (has t q && not (is_small y && same_place q y)))
    → has u p ≡ false → (has s p ≡ false) ⊎ (p ≡ x) ⊎ (p ≡ y)
taken_out s t u x y p first second out = by_places (decided (has s p)) (decided (same_place p x)) (decided (same_place p y))
  where
    by_places : (has s p ≡ true) ⊎ (has s p ≡ false) → (same_place p x ≡ true) ⊎ (same_place p x ≡ false) → (same_place p y ≡ true) ⊎ (same_place p y ≡ false)
        → (has s p ≡ false) ⊎ (p ≡ x) ⊎ (p ≡ y)
    by_places (inr away) a b = inl away
    by_places (inl there) (inl a) b = inr (inl (place_is p x a))
    by_places (inl there) (inr a) (inl b) = inr (inr (place_is p y b))
    by_places (inl there) (inr a) (inr b) =
        absurd (true≢false (sym
        (second p
        ∙ ap₂ (λ (m n : Bool). m && not (is_small y && n))
        (first p ∙ ap₂ (λ (m n : Bool). m && not (is_small x && n)) there a ∙ and_not_no true (is_small x)) b
        ∙ and_not_no true (is_small y)) ∙ out))

-- a set is made
pub none_there : (count n : ℕ) (s : NumberSet) (c : ℕ) → ((k : ℕ) → numbers.has s k ≡ false) → numbers.has (get_or (replicate count s) n empty) c ≡ false
none_there zero n s c none = ap (λ (k : ℕ). k == 1) (bit_at-zero c)
none_there (suc count) zero s c none = none c
none_there (suc count) (suc n) s c none = none_there count n s c none

-- a channel that was taken out is not in a set
pub never_in : (a b c : Bool) → b ≡ true → c ≡ true → (a && not (b && c)) ≡ false
never_in a b c e f = ap₂ (λ (x y : Bool). a && not (x && y)) e f ∙ and_no a
  where
    and_no : (x : Bool) → (x && false) ≡ false
    and_no true = refl
    and_no false = refl
