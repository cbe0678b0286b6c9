-- All ports, one after the other.
use Rattle.std.proofs.Common.{◌≡◌, ◌≢◌, ℕ, ◌<◌, ◌≤◌, ◌+◌, Bool, List, length, set, slice_get, Option, Some, refl, sym, ap, ◌∙◌, arith, inl, inr, subst}
use Rattle.std.proofs.Math.ListN.{length-set}
use Rattle.std.proofs.lemmas.Bool.{cases_eq}
use Rattle.std.proofs.lemmas.Option.{slice_get_within}
use Rattle.circular_buffer.proofs.Places.{slice_get-set_same, slice_get-set_other}
use Rattle.service.specs.declared.terminal.Terminal.{Terminal}
use Rattle.service.specs.Terminals.{AllChange}

-- the terminals below a number changed so, and no other
pub record ChangeBelow (change : Terminal → Terminal) (below : ℕ) (before after : List Terminal) : Type 0 where
  pub count : length after ≡ length before
  pub changed : (port : ℕ) (p : Terminal) → port < below → slice_get before port ≡ Some p → slice_get after port ≡ Some (change p)
  pub same : (port : ℕ) → below ≤ port → slice_get after port ≡ slice_get before port

pub change_none : (change : Terminal → Terminal) (terminals : List Terminal) → ChangeBelow change 0 terminals terminals
change_none change terminals = record {
  count = refl;
  changed = λ port p below there. absurd (omega arith);
  same = λ port above. refl;
}

changed_more : (change : Terminal → Terminal) (below : ℕ) (before after : List Terminal) (p : Terminal) → ChangeBelow change below before after
    → slice_get after below ≡ Some p → (port : ℕ) (q : Terminal) → port < below + 1 → slice_get before port ≡ Some q
    → slice_get (set after below (change p)) port ≡ Some (change q)
changed_more change below before after p so_far there port q lower is = elim (cases_eq port below) [
  | inl e ↦
      let here : slice_get before below ≡ Some p = sym (so_far.same below (omega arith)) ∙ there in
      let found : slice_get before below ≡ Some q = ap (λ n. slice_get before n) (sym e) ∙ is in
      let same_terminal : p ≡ q = cc in
      ap (λ n. slice_get (set after below (change p)) n) e
      ∙ slice_get-set_same after below (change p) (slice_get_within after below p there) ∙ ap (λ r. Some (change r)) same_terminal
  | inr apart ↦
      let still : port < below = omega arith in
      slice_get-set_other after below port (change p) apart ∙ so_far.changed port q still is
]

pub change_more : (change : Terminal → Terminal) (below : ℕ) (before after : List Terminal) (p q : Terminal) → ChangeBelow change below before after
    → slice_get after below ≡ Some p → q ≡ change p → ChangeBelow change (below + 1) before (set after below q)
change_more change below before after p q so_far there is =
    subst (λ r. ChangeBelow change (below + 1) before (set after below r)) (sym is) (record {
      count = length-set after below (change p) ∙ so_far.count;
      changed = changed_more change below before after p so_far there;
      same = λ port above.
          let apart : port ≢ below = omega arith in
          slice_get-set_other after below port (change p) apart ∙ so_far.same port (omega arith);
    })

pub change_all : (change : Terminal → Terminal) (below : ℕ) (before after : List Terminal) → ChangeBelow change below before after
    → length before ≤ below → AllChange change before after
change_all change below before after so_far all = record {
  count = so_far.count;
  each = λ port p there.
      let within = slice_get_within before port p there in
      let lower : port < below = omega arith in
      so_far.changed port p lower there;
}
