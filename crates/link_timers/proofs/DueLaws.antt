-- Which timers are among those that have no ticks left.
use Rattle.std.proofs.Common.{◌≡◌, ℕ, zero, suc, ◌+◌, ◌-◌, ◌<◌, ◌≤◌, ◌⊎◌, ◌↔◌, List, [], ◌∷◌, length, get_or, refl, sym, ◌∙◌, ap, subst, arith, Contains, inl, inr, ne_eqb, nat_eq, false}
use Rattle.std.specs.Prelude.{Option, Some, None}
use Rattle.std.proofs.lemmas.Bool.{cases_lt}
use Rattle.link_timers.specs.declared.timers.TimerId.{TimerId}
use Rattle.link_timers.specs.Timers.{Places, place_of, timer_at, IsTimer, left_of, due_from, due_timers}
use Rattle.link_timers.specs.Timers.{first_t11, first_t12, first_t13, first_t21, first_t22, first_t23, first_idle, places}
use Rattle.link_timers.proofs.PlaceLaws.{
  has_place,
  timer_or_none,
  past_end,
  place_within,
  at_T11,
  at_T12,
  at_T13,
  at_T21,
  at_T22,
  at_T23,
  at_Idle,
}

-- the place of the timer at a place
pub place_back : (place : ℕ) → place < places → place_of (timer_at place) ≡ place
place_back place below =
    first (cases_lt place first_t11) (cases_lt place first_t12) (cases_lt place first_t13) (cases_lt place first_t21)
    (cases_lt place first_t22) (cases_lt place first_t23) (cases_lt place first_idle)
  where
    early : (p : ℕ) → p < first_t11 → place_of (timer_at p) ≡ p
    early zero within = refl
    early (suc zero) within = refl
    early (suc (suc zero)) within = refl
    early (suc (suc (suc p))) within = absurd (omega arith)

    first : (place < first_t11) ⊎ (first_t11 ≤ place) → (place < first_t12) ⊎ (first_t12 ≤ place) →
        (place < first_t13) ⊎ (first_t13 ≤ place) → (place < first_t21) ⊎ (first_t21 ≤ place) →
        (place < first_t22) ⊎ (first_t22 ≤ place) → (place < first_t23) ⊎ (first_t23 ≤ place) →
        (place < first_idle) ⊎ (first_idle ≤ place) → place_of (timer_at place) ≡ place
    first (inl few) b c d e f g = early place few
    first (inr least) (inl most) c d e f g =
        ap place_of (at_T11 place least most)
        ∙ place_within first_t11 1 32 (place - first_t11 + 1) (omega arith) (omega arith) ∙ omega arith
    first (inr a) (inr least) (inl most) d e f g =
        ap place_of (at_T12 place least most)
        ∙ place_within first_t12 1 32 (place - first_t12 + 1) (omega arith) (omega arith) ∙ omega arith
    first (inr a) (inr b) (inr least) (inl most) e f g =
        ap place_of (at_T13 place least most)
        ∙ place_within first_t13 1 32 (place - first_t13 + 1) (omega arith) (omega arith) ∙ omega arith
    first (inr a) (inr b) (inr c) (inr least) (inl most) f g =
        ap place_of (at_T21 place least most)
        ∙ place_within first_t21 1 32 (place - first_t21 + 1) (omega arith) (omega arith) ∙ omega arith
    first (inr a) (inr b) (inr c) (inr d) (inr least) (inl most) g =
        ap place_of (at_T22 place least most)
        ∙ place_within first_t22 1 32 (place - first_t22 + 1) (omega arith) (omega arith) ∙ omega arith
    first (inr a) (inr b) (inr c) (inr d) (inr e) (inr least) (inl most) =
        ap place_of (at_T23 place least most)
        ∙ place_within first_t23 1 32 (place - first_t23 + 1) (omega arith) (omega arith) ∙ omega arith
    first (inr a) (inr b) (inr c) (inr d) (inr e) (inr f) (inr least) =
        ap place_of (at_Idle place least)
        ∙ place_within first_idle 0 15 (place - first_idle) (omega arith) (omega arith) ∙ omega arith

-- a timer that has some left is passed over
passed : (place n : ℕ) (timers : Places) → due_from place (Some (suc n) ∷ timers) ≡ due_from (place + 1) timers
passed place n timers = let more : nat_eq (suc n) 0 ≡ false = ne_eqb (suc n) 0 (λ e. omega arith) in rw more refl

-- a place at which a timer has none left
record IsDueAt (place : ℕ) (timers : Places) (id : TimerId) : Type 0 where
  pub at : ℕ
  pub within : at < length timers
  pub none_left : get_or timers at None ≡ Some 0
  pub is : timer_at (place + at) ≡ id

one_later : (place : ℕ) (left : Option ℕ) (timers : Places) (id : TimerId) → IsDueAt (place + 1) timers id →
    IsDueAt place (left ∷ timers) id
one_later place left timers id due =
    let same : place + 1 + due.at ≡ place + suc due.at = omega arith in
    record {
      at = suc due.at;
      within = omega (arith, due.within);
      none_left = due.none_left;
      is = subst (λ p. timer_at p ≡ id) same due.is;
    }

here : (place : ℕ) (timers : Places) (id : TimerId) → timer_at place ≡ id → IsDueAt place (Some 0 ∷ timers) id
here place timers id is =
    let same : place ≡ place + 0 = omega arith in
    record { at = 0; within = omega arith; none_left = refl; is = subst (λ p. timer_at p ≡ id) same is }

-- the first of a list, or one of the others
first_or_later : (place : ℕ) (timers : Places) (id : TimerId) (k : ℕ) → (Contains (due_from (place + 1) timers) id →
    IsDueAt (place + 1) timers id) → k < length (timer_at place ∷ due_from (place + 1) timers) → get_or (timer_at
    place ∷ due_from (place + 1) timers) k id ≡ id → IsDueAt place (Some 0 ∷ timers) id
first_or_later place timers id zero later within is = here place timers id is
first_or_later place timers id (suc k) later within is =
    one_later place (Some 0) timers id (later (k, omega (arith, within), is))

due_of_list : (place : ℕ) (timers : Places) (id : TimerId) → Contains (due_from place timers) id → IsDueAt place
    timers id
due_of_list place [] id h = absurd (omega (arith, h.1))
due_of_list place (None ∷ timers) id h = one_later place None timers id (due_of_list (place + 1) timers id h)
due_of_list place (Some (suc n) ∷ timers) id h =
    one_later place (Some (suc n)) timers id (due_of_list (place + 1) timers id (subst (λ ids. Contains ids id)
    (passed place n timers) h))
due_of_list place (Some zero ∷ timers) id h =
    first_or_later place timers id h.0 (λ g. due_of_list (place + 1) timers id g) h.1 h.2

list_of_due : (place : ℕ) (timers : Places) (k : ℕ) → k < length timers → get_or timers k None ≡ Some 0 →
    Contains (due_from place timers) (timer_at (place + k))
list_of_due place [] k within left = absurd (omega arith)
list_of_due place (None ∷ timers) zero within left = absurd (cc)
list_of_due place (Some (suc n) ∷ timers) zero within left = absurd (cc)
list_of_due place (Some zero ∷ timers) zero within left =
    let same : place ≡ place + 0 = omega arith in
    (0, omega arith, ap timer_at same)
list_of_due place (None ∷ timers) (suc k) within left =
    let same : place + 1 + k ≡ place + suc k = omega arith in
    subst (λ p. Contains (due_from (place + 1) timers) (timer_at p)) same (list_of_due (place + 1) timers k (omega
    arith) left)
list_of_due place (Some (suc n) ∷ timers) (suc k) within left =
    let same : place + 1 + k ≡ place + suc k = omega arith in
    let later : Contains (due_from (place + 1) timers) (timer_at (place + suc k)) =
    subst (λ p. Contains (due_from (place + 1) timers) (timer_at p)) same (list_of_due (place + 1) timers k
    (omega arith) left)
    in
    subst (λ ids. Contains ids (timer_at (place + suc k))) (sym (passed place n timers)) later
list_of_due place (Some zero ∷ timers) (suc k) within left =
    let same : place + 1 + k ≡ place + suc k = omega arith in
    let later : Contains (due_from (place + 1) timers) (timer_at (place + suc k)) =
    subst (λ p. Contains (due_from (place + 1) timers) (timer_at p)) same (list_of_due (place + 1) timers k
    (omega arith) left)
    in
    (suc later.0, omega (arith, later.1), later.2)

member_of_list : (timers : Places) (id : TimerId) → length timers ≡ places → Contains (due_timers timers) id →
    left_of timers id ≡ Some 0
member_of_list timers id whole h =
    let due = due_of_list 0 timers id h in
    let same : 0 + due.at ≡ due.at = omega arith in
    let is : timer_at due.at ≡ id = subst (λ p. timer_at p ≡ id) same due.is in
    let at_id : place_of id ≡ due.at = ap place_of (sym is) ∙ place_back due.at (omega (arith, due.within)) in
    ap (λ p. get_or timers p None) at_id ∙ due.none_left

list_of_member : (timers : Places) (id : TimerId) → length timers ≡ places → left_of timers id ≡ Some 0 → Contains
    (due_timers timers) id
list_of_member timers id whole left = go (timer_or_none id)
  where
    go : (place_of id ≡ places) ⊎ IsTimer id → Contains (due_timers timers) id
    go (inl none) = let past = past_end timers (place_of id) (omega arith) in absurd (cc)
    go (inr is) =
        let has = has_place id is in
        let same : 0 + place_of id ≡ place_of id = omega arith in
        subst (λ t. Contains (due_timers timers) t) (ap timer_at same ∙ has.back) (list_of_due 0 timers (place_of
        id) (omega (arith, has.below)) left)

-- the list has exactly the timers with none left
pub due_members : (timers : Places) (due : List TimerId) → due ≡ due_timers timers → length timers ≡ places → (id :
    TimerId) → Contains due id ↔ (left_of timers id ≡ Some 0)
due_members timers due is whole id = (
  λ h. member_of_list timers id whole (subst (λ ids. Contains ids id) is h),
  λ left. subst (λ ids. Contains ids id) (sym is) (list_of_member timers id whole left),
)
