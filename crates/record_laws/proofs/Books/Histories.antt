-- What a history says after a call was placed or accepted in it, or its present epoch grew.
use Rattle.std.specs.Prelude.{◌≡◌, ℕ, ◌⊎◌, Bool, true, false, ◌&&◌, ◌==◌}
use Rattle.std.proofs.Common.{inl, inr, refl, sym, ap, ◌∙◌, true≢false}
use Rattle.std.proofs.lemmas.Bool.{eq-eqb, ne_eqb}
use Rattle.packet_laws.specs.History.{Epoch, History, in_whole_use, is_use, grown, is_now}
use Rattle.record_laws.proofs.Books.Basics.{number_is, by_true, by_false}

and_true : (a b : Bool) → a ≡ true → b ≡ true → (a && b) ≡ true
and_true true b e h = h
and_true false b e h = absurd (true≢false (sym e))

and_left : (a b : Bool) → a ≡ false → (a && b) ≡ false
and_left true b e = absurd (true≢false e)
and_left false b e = refl

and_right : (a b : Bool) → b ≡ false → (a && b) ≡ false
and_right true b e = e
and_right false b e = refl

-- the present use, or another one
pub in_use_cases : (f : Epoch → Epoch) (st : History) (r u : ℕ)
    → (((r ≡ st.restart) × (u ≡ st.use_)) × ((g : ℕ) → (in_whole_use f st).epochs r u g ≡ f (st.epochs r u g)))
    ⊎ (((r ≡ st.restart) × (u ≡ st.use_) → ⊥) × ((g : ℕ) → (in_whole_use f st).epochs r u g ≡ st.epochs r u g))
in_use_cases f st r u =
    elim (number_is r st.restart) [
      | inl a ↦ elim (number_is u st.use_) [
        | inl b ↦ inl ((a, b), λ g. by_true (is_use st r u) (f (st.epochs r u g)) (st.epochs r u g) (and_true (r == st.restart) (u == st.use_) (eq-eqb r st.restart a) (eq-eqb u st.use_ b)))
        | inr b ↦ inr (λ h. b h.1, λ g. by_false (is_use st r u) (f (st.epochs r u g)) (st.epochs r u g) (and_right (r == st.restart) (u == st.use_) (ne_eqb u st.use_ b)))
      ]
      | inr a ↦ inr (λ h. a h.0, λ g. by_false (is_use st r u) (f (st.epochs r u g)) (st.epochs r u g) (and_left (r == st.restart) (u == st.use_) (ne_eqb r st.restart a)))
    ]

-- what a change of epochs keeps, it keeps of a history
pub in_use_keeps : {X : Type 0} (see : Epoch → X) (f : Epoch → Epoch) (st : History) → ((e : Epoch) → see (f e) ≡ see e) → (r u g : ℕ) → see ((in_whole_use f st).epochs r u g) ≡ see (st.epochs r u g)
in_use_keeps see f st h r u g =
    elim (in_use_cases f st r u) [
      | inl a ↦ ap see (a.1 g) ∙ h (st.epochs r u g)
      | inr a ↦ ap see (a.1 g)
    ]

pub grown_cases : (f : Epoch → Epoch) (st : History) (r u g : ℕ)
    → (((r ≡ st.restart) × (u ≡ st.use_) × (g ≡ st.epoch)) × ((grown f st).epochs r u g ≡ f (st.epochs r u g)))
    ⊎ (((r ≡ st.restart) × (u ≡ st.use_) × (g ≡ st.epoch) → ⊥) × ((grown f st).epochs r u g ≡ st.epochs r u g))
grown_cases f st r u g =
    elim (number_is r st.restart) [
      | inl a ↦ elim (number_is u st.use_) [
        | inl b ↦ elim (number_is g st.epoch) [
          | inl c ↦ inl (
            (a, b, c),
            by_true (is_now st r u g) (f (st.epochs r u g)) (st.epochs r u g)
                (and_true (r == st.restart) ((u == st.use_) && (g == st.epoch)) (eq-eqb r st.restart a) (and_true (u == st.use_) (g == st.epoch) (eq-eqb u st.use_ b) (eq-eqb g st.epoch c))),
          )
          | inr c ↦ inr (
            λ h. c h.2,
            by_false (is_now st r u g) (f (st.epochs r u g)) (st.epochs r u g)
                (and_right (r == st.restart) ((u == st.use_) && (g == st.epoch)) (and_right (u == st.use_) (g == st.epoch) (ne_eqb g st.epoch c))),
          )
        ]
        | inr b ↦ inr (
          λ h. b h.1,
          by_false (is_now st r u g) (f (st.epochs r u g)) (st.epochs r u g)
              (and_right (r == st.restart) ((u == st.use_) && (g == st.epoch)) (and_left (u == st.use_) (g == st.epoch) (ne_eqb u st.use_ b))),
        )
      ]
      | inr a ↦ inr (λ h. a h.0, by_false (is_now st r u g) (f (st.epochs r u g)) (st.epochs r u g) (and_left (r == st.restart) ((u == st.use_) && (g == st.epoch)) (ne_eqb r st.restart a)))
    ]

pub grown_keeps : {X : Type 0} (see : Epoch → X) (f : Epoch → Epoch) (st : History) → ((e : Epoch) → see (f e) ≡ see e) → (r u g : ℕ) → see ((grown f st).epochs r u g) ≡ see (st.epochs r u g)
grown_keeps see f st h r u g =
    elim (grown_cases f st r u g) [
      | inl a ↦ ap see a.1 ∙ h (st.epochs r u g)
      | inr a ↦ ap see a.1
    ]
