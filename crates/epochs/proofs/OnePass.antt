-- One pass over taken and sent epochs finds whether they match.
use Rattle.std.specs.Prelude.{◌≡◌, ◌↔◌, Bool, List, [], ◌∷◌, IsTrue}
use Rattle.std.proofs.Common.{inl, inr, sym, ◌∙◌}
use Rattle.std.proofs.lemmas.Bool.{cases_Bool, cond-true, cond-false, iff_false}
use Rattle.epochs.specs.Epoch.{Epoch, IsEmpty, IsPrefixOf}
use Rattle.epochs.specs.Match.{Match}
use Rattle.epochs.specs.Match.Match.{nothing, drop_empty, join, skip}
use Rattle.epochs.specs.Matching.Decision.{first_begun, one_pass}

-- a taken epoch may be forgotten
forgotten : {e : Epoch} {taken sent : List Epoch} → Match (e ∷ taken) sent → Match taken sent
forgotten (drop_empty g m) = m
forgotten (join p m) = skip m
forgotten (skip m) = skip (forgotten m)

-- what each step of the pass leaves to be matched
pub match-drop : {e : Epoch} {taken sent : List Epoch} → IsEmpty e → Match (e ∷ taken) sent ↔ Match taken sent
match-drop h = (λ m. forgotten m, λ m. drop_empty h m)

pub match-join : {e f : Epoch} {taken sent : List Epoch} → (IsEmpty e → ⊥) → IsPrefixOf e f
    → Match (e ∷ taken) (f ∷ sent) ↔ Match taken sent
match-join {e} {f} {taken} {sent} any p = (left, λ m. join p m)
  where
    left : Match (e ∷ taken) (f ∷ sent) → Match taken sent
    left (drop_empty g m) = absurd (any g)
    left (join q m) = m
    left (skip m) = forgotten m

pub match-skip : {e f : Epoch} {taken sent : List Epoch} → (IsEmpty e → ⊥) → (IsPrefixOf e f → ⊥)
    → Match (e ∷ taken) (f ∷ sent) ↔ Match (e ∷ taken) sent
match-skip {e} {f} {taken} {sent} any other = (left, λ m. skip m)
  where
    left : Match (e ∷ taken) (f ∷ sent) → Match (e ∷ taken) sent
    left (drop_empty g m) = absurd (any g)
    left (join q m) = absurd (other q)
    left (skip m) = m

pub match-none : {e : Epoch} {taken : List Epoch} → (IsEmpty e → ⊥) → Match (e ∷ taken) [] → ⊥
match-none any (drop_empty g m) = any g

through : {b c : Bool} {P Q : Type 0} → c ≡ b → (IsTrue b ↔ Q) → (P ↔ Q) → IsTrue c ↔ P
through same b p = (λ h. p.1 (b.0 (sym same ∙ h)), λ x. same ∙ b.1 (p.0 x))

first-decides : (begins : Epoch → Epoch → Bool) → ((e f : Epoch) → IsTrue (begins e f) ↔ IsPrefixOf e f)
    → (later : List Epoch → Bool) (taken : List Epoch) → ((l : List Epoch) → IsTrue (later l) ↔ Match taken l)
    → (e : Epoch) → (IsEmpty e → ⊥) → (sent : List Epoch)
    → IsTrue (first_begun begins later e sent) ↔ Match (e ∷ taken) sent
first-decides begins tells later taken rest e any [] = (λ h. cc, λ m. absurd (match-none any m))
first-decides begins tells later taken rest e any (f ∷ sent) =
    elim (cases_Bool (begins e f)) [
      | inl h ↦ through (cond-true _ _ _ h) (rest sent) (match-join any ((tells e f).0 h))
      | inr h ↦ through (cond-false _ _ _ h) (first-decides begins tells later taken rest e any sent)
          (match-skip any (iff_false (tells e f) h))
    ]

pub pass-decides : (begins : Epoch → Epoch → Bool) (is_empty : Epoch → Bool)
    → ((e f : Epoch) → IsTrue (begins e f) ↔ IsPrefixOf e f) → ((e : Epoch) → IsTrue (is_empty e) ↔ IsEmpty e)
    → (taken sent : List Epoch) → IsTrue (one_pass begins is_empty taken sent) ↔ Match taken sent
pass-decides begins is_empty tells knows [] sent = (λ h. nothing, λ m. cc)
pass-decides begins is_empty tells knows (e ∷ taken) sent =
    elim (cases_Bool (is_empty e)) [
      | inl h ↦ through (cond-true _ _ _ h) (pass-decides begins is_empty tells knows taken sent)
          (match-drop ((knows e).0 h))
      | inr h ↦ through (cond-false _ _ _ h)
          (first-decides begins tells (one_pass begins is_empty taken) taken
          (pass-decides begins is_empty tells knows taken) e (iff_false (knows e) h) sent)
          (λ m. m, λ m. m)
    ]
