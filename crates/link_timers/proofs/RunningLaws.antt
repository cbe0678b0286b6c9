-- The set of the places at which a timer runs goes with the ticks that are left there.
use Rattle.std.proofs.Common.{◌≡◌, ℕ, zero, suc, ◌+◌, ◌<◌, ◌≤◌, Bool, true, false, not, ◌&&◌, ◌==◌, ◌⊎◌, inl, inr}
use Rattle.std.proofs.Common.{length, get_or, set, [], ◌∷◌, refl, sym, ap, ◌∙◌, arith, get_or-set_other, get_or-set_same}
use Rattle.std.specs.Prelude.{slice_get, replicate, Option, Some, None, is_some, if◌then◌else◌}
use Rattle.std.specs.Option.{option_eq}
use Rattle.std.proofs.lemmas.Bool.{eq-eqb, ne_eqb, cases_eq, cases_lt}
use Rattle.std.proofs.lemmas.List.{length-set, length-replicate, ext_get_or}
use Rattle.link_timers.specs.Running.{AreCounts, IsFirst}
use Rattle.link_timers.specs.Timers.{Places, lowered, after_ticks, is_due, due_by}
use Rattle.link_timers.proofs.PlaceLaws.{past_end, none_at, lowered_at}

-- no timer runs
pub none_run : (count : ℕ) (running : ℕ → Bool) → ((n : ℕ) → running n ≡ false) → AreCounts count (replicate count None) running
none_run count running none =
    record { whole = length-replicate count None; runs = λ n. none n ∙ sym (ap is_some (none_at count n)) }

and_true : (b : Bool) → (b && not false) ≡ b
and_true true = refl
and_true false = refl

and_false : (b : Bool) → (b && not true) ≡ false
and_false true = refl
and_false false = refl

-- ---- ticks pass for one after the other of those that run

pub record IsLowered (ticks : ℕ) (old now : Places) (running rest : ℕ → Bool) : Type 0 where
  pub whole : length now ≡ length old
  pub left : (n : ℕ) → get_or now n None ≡ (if rest n then get_or old n None else lowered ticks (get_or old n None))
  pub among : (n : ℕ) → rest n ≡ true → running n ≡ true

and_left : (a b : Bool) → (a && b) ≡ true → a ≡ true
and_left true b is = refl
and_left false b is = absurd (cc)

-- a place that is set is one of a running timer
pub within_places : (count : ℕ) (timers : Places) (running : ℕ → Bool) (place : ℕ) → AreCounts count timers running → running place ≡ true →
    place < count
within_places count timers running place are there = go (cases_lt place count)
  where
    go : (place < count) ⊎ (count ≤ place) → place < count
    go (inl less) = less
    go (inr past) =
        let none : is_some (get_or timers place None) ≡ false = ap is_some (past_end timers place (omega (arith, are.whole))) in
        let some = are.runs place in
        absurd (cc)

pub lowered_more : (ticks : ℕ) (old now : Places) (running rest after : ℕ → Bool) (place : ℕ) →
    IsLowered ticks old now running rest → IsFirst rest place after → place < length now →
    IsLowered ticks old (set now place (lowered ticks (get_or now place None))) running after
lowered_more ticks old now running rest after place is found within = record {
  whole = length-set now place (lowered ticks (get_or now place None)) ∙ is.whole;
  left = λ n. go n (cases_eq n place);
  among = λ n there. is.among n (and_left (rest n) (not (n == place)) (sym (found.others n) ∙ there));
}
  where
    go : (n : ℕ) → (n ≡ place) ⊎ (n ≡ place → ⊥) → get_or (set now place (lowered ticks (get_or now place None))) n None
        ≡ (if after n then get_or old n None else lowered ticks (get_or old n None))
    go n (inl e) =
        let gone : after n ≡ false = found.others n
        ∙ ap (λ (b : Bool). rest n && not b) (eq-eqb n place e) ∙ and_false (rest n) in
        let was : get_or now place None ≡ get_or old place None = is.left place
        ∙ ap (λ (b : Bool). if b then get_or old place None else lowered ticks (get_or old place None)) found.there in
        ap (λ (m : ℕ). get_or (set now place (lowered ticks (get_or now place None))) m None) e
        ∙ get_or-set_same now place (lowered ticks (get_or now place None)) None within
        ∙ ap (lowered ticks) (was ∙ ap (λ (m : ℕ). get_or old m None) (sym e))
        ∙ sym (ap (λ (b : Bool). if b then get_or old n None else lowered ticks (get_or old n None)) gone)
    go n (inr apart) =
        let same : after n ≡ rest n = found.others n
        ∙ ap (λ (b : Bool). rest n && not b) (ne_eqb n place apart) ∙ and_true (rest n) in
        get_or-set_other now place n (lowered ticks (get_or now place None)) None apart ∙ is.left n
        ∙ sym (ap (λ (b : Bool). if b then get_or old n None else lowered ticks (get_or old n None)) same)

length_lowered : (ticks : ℕ) (timers : Places) → length (after_ticks timers ticks) ≡ length timers
length_lowered ticks [] = refl
length_lowered ticks (left ∷ timers) = ap suc (length_lowered ticks timers)

pub lowered_all : (ticks : ℕ) (old now : Places) (running rest : ℕ → Bool) → IsLowered ticks old now running rest →
    ((n : ℕ) → rest n ≡ false) → now ≡ after_ticks old ticks
lowered_all ticks old now running rest is none =
    ext_get_or None now (after_ticks old ticks) (is.whole ∙ sym (length_lowered ticks old))
    (λ n within. is.left n
    ∙ ap (λ (b : Bool). if b then get_or old n None else lowered ticks (get_or old n None)) (none n)
    ∙ sym (lowered_at old n ticks))

-- ---- the first one that has none left

-- none of those that were taken so far has none left
pub record IsPassed (timers : Places) (running rest : ℕ → Bool) : Type 0 where
  pub passed : (n : ℕ) → rest n ≡ false → is_due (get_or timers n None) ≡ false
  pub among : (n : ℕ) → rest n ≡ true → running n ≡ true

first_from : {A : Type 0} (name : ℕ → A) (place k : ℕ) (timers : Places) → k < length timers → is_due (get_or timers k None) ≡ true →
    ((n : ℕ) → n < k → is_due (get_or timers n None) ≡ false) →
    slice_get (due_by name place timers) 0 ≡ Some (name (place + k))
first_from name place k [] within due earlier = absurd (omega arith)
first_from name place zero (left ∷ timers) within due earlier =
    let same : place ≡ place + 0 = omega arith in
    ap (λ (b : Bool). slice_get (if b then name place ∷ due_by name (place + 1) timers else due_by name (place + 1) timers) 0) due
    ∙ ap (λ (p : ℕ). Some (name p)) same
first_from name place (suc k) (left ∷ timers) within due earlier =
    let same : place + 1 + k ≡ place + suc k = omega arith in
    ap (λ (b : Bool). slice_get (if b then name place ∷ due_by name (place + 1) timers else due_by name (place + 1) timers) 0)
    (earlier 0 (omega arith))
    ∙ first_from name (place + 1) k timers (omega (arith, within)) due (λ n less. earlier (suc n) (omega (arith, less)))
    ∙ ap (λ (p : ℕ). Some (name p)) same

no_first : {A : Type 0} (name : ℕ → A) (place : ℕ) (timers : Places) → ((n : ℕ) → is_due (get_or timers n None) ≡ false) →
    slice_get (due_by name place timers) 0 ≡ None
no_first name place [] none = refl
no_first name place (left ∷ timers) none =
    ap (λ (b : Bool). slice_get (if b then name place ∷ due_by name (place + 1) timers else due_by name (place + 1) timers) 0)
    (none 0)
    ∙ no_first name (place + 1) timers (λ n. none (suc n))

pub first_is : {A : Type 0} (name : ℕ → A) (timers : Places) (running rest after : ℕ → Bool) (place : ℕ) → IsPassed timers running rest →
    IsFirst rest place after → place < length timers → is_due (get_or timers place None) ≡ true →
    Some (name place) ≡ slice_get (due_by name 0 timers) 0
first_is name timers running rest after place is found within due =
    let same : 0 + place ≡ place = omega arith in
    sym (first_from name 0 place timers within due (λ n less. is.passed n (found.first n less))
    ∙ ap (λ (p : ℕ). Some (name p)) same)

pub first_none : {A : Type 0} (name : ℕ → A) (timers : Places) (running rest : ℕ → Bool) → IsPassed timers running rest →
    ((n : ℕ) → rest n ≡ false) → None ≡ slice_get (due_by name 0 timers) 0
first_none name timers running rest is none = sym (no_first name 0 timers (λ n. is.passed n (none n)))

-- a timer has none left
pub is_zero : (left : Option ℕ) → option_eq ◌==◌ left (Some 0) ≡ is_due left
is_zero None = refl
is_zero (Some n) = refl
