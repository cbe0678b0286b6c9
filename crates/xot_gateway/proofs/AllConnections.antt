-- All connections, one after the other.
use Rattle.std.proofs.Common.{◌≡◌, ◌≢◌, ℕ, ◌<◌, ◌≤◌, ◌+◌, List, [], ◌∷◌, length, set, slice_get, zero, suc, Some, refl, sym, ap, ◌∙◌, arith, inl, inr, subst}
use Rattle.std.proofs.Math.ListN.{length-set}
use Rattle.std.proofs.lemmas.Bool.{cases_eq}
use Rattle.std.proofs.lemmas.Option.{slice_get_within}
use Rattle.xot_gateway.specs.declared.connection.Connection.{Connection}
use Rattle.xot_gateway.specs.Calls.{AllChange}

slice_get-set_same : (xs : List Connection) (i : ℕ) (w : Connection) → i < length xs → slice_get (set xs i w) i ≡ Some w
slice_get-set_same [] i w h = absurd (omega arith)
slice_get-set_same (x ∷ xs) zero w h = refl
slice_get-set_same (x ∷ xs) (suc i) w h = slice_get-set_same xs i w (omega arith)

slice_get-set_other : (xs : List Connection) (i j : ℕ) (w : Connection) → j ≢ i → slice_get (set xs i w) j ≡ slice_get xs j
slice_get-set_other [] i j w apart = refl
slice_get-set_other (x ∷ xs) zero zero w apart = absurd (apart refl)
slice_get-set_other (x ∷ xs) zero (suc j) w apart = refl
slice_get-set_other (x ∷ xs) (suc i) zero w apart = refl
slice_get-set_other (x ∷ xs) (suc i) (suc j) w apart = slice_get-set_other xs i j w (λ e. apart (ap suc e))

-- the connections below a number changed so, and no other
pub record ChangeBelow (change : Connection → Connection) (below : ℕ) (before after : List Connection) : Type 0 where
  pub count : length after ≡ length before
  pub changed : (number : ℕ) (p : Connection) → number < below → slice_get before number ≡ Some p → slice_get after number ≡ Some (change p)
  pub same : (number : ℕ) → below ≤ number → slice_get after number ≡ slice_get before number

pub change_none : (change : Connection → Connection) (connections : List Connection) → ChangeBelow change 0 connections connections
change_none change connections = record {
  count = refl;
  changed = λ number p below there. absurd (omega arith);
  same = λ number above. refl;
}

changed_more : (change : Connection → Connection) (below : ℕ) (before after : List Connection) (p : Connection) → ChangeBelow change below before after
    → slice_get after below ≡ Some p → (number : ℕ) (q : Connection) → number < below + 1 → slice_get before number ≡ Some q
    → slice_get (set after below (change p)) number ≡ Some (change q)
changed_more change below before after p so_far there number q lower is = elim (cases_eq number below) [
  | inl e ↦
      let here : slice_get before below ≡ Some p = sym (so_far.same below (omega arith)) ∙ there in
      let found : slice_get before below ≡ Some q = ap (λ n. slice_get before n) (sym e) ∙ is in
      let same_one : p ≡ q = cc in
      ap (λ n. slice_get (set after below (change p)) n) e
      ∙ slice_get-set_same after below (change p) (slice_get_within after below p there) ∙ ap (λ r. Some (change r)) same_one
  | inr apart ↦
      let still : number < below = omega arith in
      slice_get-set_other after below number (change p) apart ∙ so_far.changed number q still is
]

pub change_more : (change : Connection → Connection) (below : ℕ) (before after : List Connection) (p q : Connection) → ChangeBelow change below before after
    → slice_get after below ≡ Some p → q ≡ change p → ChangeBelow change (below + 1) before (set after below q)
change_more change below before after p q so_far there is =
    subst (λ r. ChangeBelow change (below + 1) before (set after below r)) (sym is) (record {
      count = length-set after below (change p) ∙ so_far.count;
      changed = changed_more change below before after p so_far there;
      same = λ number above.
          let apart : number ≢ below = omega arith in
          slice_get-set_other after below number (change p) apart ∙ so_far.same number (omega arith);
    })

pub change_all : (change : Connection → Connection) (below : ℕ) (before after : List Connection) → ChangeBelow change below before after
    → length before ≤ below → AllChange change before after
change_all change below before after so_far all = record {
  count = so_far.count;
  each = λ number p there.
      let within = slice_get_within before number p there in
      let lower : number < below = omega arith in
      so_far.changed number p lower there;
}
