-- Channels by place: each is another one or the same.
use Rattle.std.proofs.Common.{◌≡◌, ℕ, ◌⊎◌, inl, inr, Bool, true, false, ◌&&◌, ◌==◌, refl, sym, ap₂, ◌∙◌, true≢false}
use Rattle.std.proofs.lemmas.Bool.{eqb-true, eq-eqb}
use Rattle.switch_joins.specs.Joins.{SwitchChannel, same_place}

pub decided : (b : Bool) → (b ≡ true) ⊎ (b ≡ false)
decided true = inl refl
decided false = inr refl

pub and_both : (a b : Bool) → (a && b) ≡ true → (a ≡ true) × (b ≡ true)
and_both true b e = (refl, e)
and_both false b e = absurd (true≢false (sym e))

pub place_is : (p q : SwitchChannel) → same_place p q ≡ true → p ≡ q
place_is p q e =
    let b = and_both (p.line == q.line) (p.channel == q.channel) e in
    ap₂ (λ (l c : ℕ). record { line = l; channel = c }) (eqb-true p.line q.line b.0) (eqb-true p.channel q.channel b.1)

pub apart_by : (p q : SwitchChannel) → same_place p q ≡ false → (p.line ≡ q.line → ⊥) ⊎ ((p.line ≡ q.line) × (p.channel ≡ q.channel → ⊥))
apart_by p q e = by_line (decided (p.line == q.line))
  where
    by_line : ((p.line == q.line) ≡ true) ⊎ ((p.line == q.line) ≡ false) → (p.line ≡ q.line → ⊥) ⊎ ((p.line ≡ q.line) × (p.channel ≡ q.channel → ⊥))
    by_line (inl t) = inr (eqb-true p.line q.line t, λ c. true≢false (sym (ap₂ (λ (a b : Bool). a && b) t (eq-eqb p.channel q.channel c)) ∙ e))
    by_line (inr f) = inl (λ same. true≢false (sym (eq-eqb p.line q.line same) ∙ f))
