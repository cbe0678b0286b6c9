-- What matches stands at rising places.
use Rattle.std.proofs.Common.{◌≡◌, ℕ, zero, suc, ◌<◌, List, [], ◌∷◌, Some, refl, subst, arith}
use Rattle.std.specs.Prelude.{slice_get}
use Rattle.std.proofs.lemmas.Option.{same_Some, none-some}
use Rattle.epochs.specs.Epoch.{Epoch, IsEmpty, IsPrefixOf}
use Rattle.epochs.specs.Match.{Match}
use Rattle.epochs.specs.Match.Match.{nothing, drop_empty, join, skip}
use Rattle.epochs.specs.Laws.{HasPassed, ComesOf}

-- the places of the epochs behind the first one, and one for it
abbrev first_at : ℕ → (ℕ → ℕ) → ℕ → ℕ
first_at p place zero = p
first_at p place (suc i) = place i

behind : {t : Epoch} {ts : List Epoch} {i : ℕ} {e : Epoch} → HasPassed (t ∷ ts) (suc i) e → HasPassed ts i e
behind h = record { there = h.there; not_empty = h.not_empty }

not_first : {t e : Epoch} {ts : List Epoch} → IsEmpty t → HasPassed (t ∷ ts) zero e → ⊥
not_first {t} {e} empty h = h.not_empty (subst IsEmpty (same_Some _ _ h.there) empty)

none_of_nothing : (i : ℕ) (e : Epoch) → HasPassed [] i e → ⊥
none_of_nothing i e h = none-some _ h.there

dropped : (t : Epoch) (ts sent : List Epoch) (place : ℕ → ℕ) → IsEmpty t → ComesOf place ts sent → ComesOf (first_at 0 place) (t ∷ ts) sent
dropped t ts sent place empty c = record { begins = begins; rises = rises }
  where
    begins : (i : ℕ) (e : Epoch) → HasPassed (t ∷ ts) i e → (f : Epoch) × (slice_get sent (first_at 0 place i) ≡ Some f) × IsPrefixOf e f
    begins zero e h = absurd (not_first empty h)
    begins (suc i) e h = c.begins i e (behind h)

    rises : (i j : ℕ) (d e : Epoch) → HasPassed (t ∷ ts) i d → HasPassed (t ∷ ts) j e → i < j → first_at 0 place i < first_at 0 place j
    rises zero j d e h k lt = absurd (not_first empty h)
    rises (suc i) zero d e h k lt = absurd (not_first empty k)
    rises (suc i) (suc j) d e h k lt = c.rises i j d e (behind h) (behind k) (omega arith)

joined : (t f : Epoch) (ts sent : List Epoch) (place : ℕ → ℕ) → IsPrefixOf t f → ComesOf place ts sent
    → ComesOf (first_at 0 (λ i. suc (place i))) (t ∷ ts) (f ∷ sent)
joined t f ts sent place p c = record { begins = begins; rises = rises }
  where
    begins : (i : ℕ) (e : Epoch) → HasPassed (t ∷ ts) i e
        → (g : Epoch) × (slice_get (f ∷ sent) (first_at 0 (λ i. suc (place i)) i) ≡ Some g) × IsPrefixOf e g
    begins zero e h = (f, refl, subst (λ x. IsPrefixOf x f) (same_Some _ _ h.there) p)
    begins (suc i) e h = c.begins i e (behind h)

    rises : (i j : ℕ) (d e : Epoch) → HasPassed (t ∷ ts) i d → HasPassed (t ∷ ts) j e → i < j
        → first_at 0 (λ i. suc (place i)) i < first_at 0 (λ i. suc (place i)) j
    rises zero zero d e h k lt = absurd (omega arith)
    rises zero (suc j) d e h k lt = omega arith
    rises (suc i) zero d e h k lt = absurd (omega arith)
    rises (suc i) (suc j) d e h k lt =
        let below = c.rises i j d e (behind h) (behind k) (omega arith) in omega arith

skipped : (f : Epoch) (ts sent : List Epoch) (place : ℕ → ℕ) → ComesOf place ts sent → ComesOf (λ i. suc (place i)) ts (f ∷ sent)
skipped f ts sent place c = record {
  begins = c.begins;
  rises = λ i j d e h k lt. let below = c.rises i j d e h k lt in omega arith;
}

pub match-rising : (taken sent : List Epoch) → Match taken sent → (place : ℕ → ℕ) × ComesOf place taken sent
match-rising [] sent nothing = (
  (λ i. 0),
  record {
    begins = λ i e h. absurd (none_of_nothing i e h);
    rises = λ i j d e h k lt. absurd (none_of_nothing i d h);
  },
)
match-rising (t ∷ ts) sent (drop_empty empty m) =
    let found = match-rising ts sent m in (first_at 0 found.0, dropped t ts sent found.0 empty found.1)
match-rising (t ∷ ts) (f ∷ sent) (join p m) =
    let found = match-rising ts sent m in (first_at 0 (λ i. suc (found.0 i)), joined t f ts sent found.0 p found.1)
match-rising taken (f ∷ sent) (skip m) =
    let found = match-rising taken sent m in ((λ i. suc (found.0 i)), skipped f taken sent found.0 found.1)
