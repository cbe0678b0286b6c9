-- Of two switches of a tree, whether the one is above the other: on its way up over the trunks of which a switch is the DTE.
use Rattle.std.proofs.Common.{◌≡◌, ℕ, ◌≤◌, ◌⊎◌, inl, inr, List, refl, sym, subst, ◌∙◌, arith}
use Rattle.link_timers.specs.declared.role.Role.TheVariants.{Dte, Dce}
use Rattle.record_laws.specs.CallPaths.World.{Plan}
use Rattle.record_laws.specs.CallPaths.Tree.{IsTrunk, IsTree}

pub data Above : Plan → (a x : ℕ) → Type 0 where
  itself : {plan : Plan} {a : ℕ} → Above plan a a
  below : {plan : Plan} {a x : ℕ} (line : ℕ) → Above plan a (plan.node line Dce) → IsTrunk plan line → plan.node line Dte ≡ x → Above plan a x

-- what is above the DTE of a trunk is above its DCE
pub above_up : (plan : Plan) (line : ℕ) → IsTrunk plan line → (m x : ℕ) → Above plan m x → m ≡ plan.node line Dte → Above plan (plan.node line Dce) x
above_up plan line trunk m x itself e = below line itself trunk (sym e)
above_up plan line trunk m x (below l up t at) e = below l (above_up plan line trunk m (plan.node l Dce) up e) t at

module _ (plan : Plan) (switches : List ℕ) (tree : IsTree plan switches) where
  pub above_le : (a x : ℕ) → Above plan a x → a ≤ x
  above_le a x itself = omega arith
  above_le a x (below line up trunk e) =
      let before = above_le a (plan.node line Dce) up in
      let rises = tree.rises line trunk in
      let at : plan.node line Dte ≡ x = e in
      omega arith

  -- of two above one switch, the one is above the other
  pub comparable : (a b x : ℕ) → Above plan a x → Above plan b x → Above plan a b ⊎ Above plan b a
  comparable a b x itself q = inr q
  comparable a b x p itself = inl p
  comparable a b x (below l up t e) (below m over u f) =
      let same : m ≡ l = tree.one_up m l u t (f ∙ sym e) in
      comparable a b (plan.node l Dce) up (subst (λ (k : ℕ). Above plan b (plan.node k Dce)) same over)

  -- of two trunks down from one switch, nothing is below both
  not_above : (l m : ℕ) → IsTrunk plan l → IsTrunk plan m → (l ≡ m → ⊥) → plan.node l Dce ≡ plan.node m Dce → (a x : ℕ) → Above plan a x → a ≡ plan.node l Dte → x ≡ plan.node m Dte → ⊥
  not_above l m t u apart same a x itself e f = apart (tree.one_up l m t u (sym e ∙ f))
  not_above l m t u apart same a x (below k up v at) e f =
      let one : k ≡ m = tree.one_up k m v u (at ∙ f) in
      let less = above_le a (plan.node m Dce) (subst (λ (i : ℕ). Above plan a (plan.node i Dce)) one up) in
      let rises = tree.rises l t in
      absurd (omega arith)

  pub apart_below : (l m x : ℕ) → IsTrunk plan l → IsTrunk plan m → (l ≡ m → ⊥) → plan.node l Dce ≡ plan.node m Dce → Above plan (plan.node l Dte) x → Above plan (plan.node m Dte) x → ⊥
  apart_below l m x t u apart same p q =
      elim (comparable (plan.node l Dte) (plan.node m Dte) x p q) [
        | inl h ↦ not_above l m t u apart same (plan.node l Dte) (plan.node m Dte) h refl refl
        | inr h ↦ not_above m l u t (λ e. apart (sym e)) (sym same) (plan.node m Dte) (plan.node l Dte) h refl refl
      ]
