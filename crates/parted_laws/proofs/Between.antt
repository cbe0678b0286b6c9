-- The frames on their way in a direction of a line, when a process has other frames in flight there.
use Rattle.std.proofs.Common.{◌≡◌, ◌≢◌, ℕ, suc, List, [], ◌∷◌, ◌++◌, drop, Bool, true, false, ◌==◌, refl, sym, ap, ap₂, ◌∙◌, subst, inl, inr, append_assoc}
use Rattle.std.specs.Prelude.{◌⊎◌}
use Rattle.std.proofs.lemmas.Bool.{ne_eqb}
use Rattle.record_laws.proofs.Books.Basics.{number_is, eq_true}
use Rattle.link_timers.specs.declared.role.Role.{Role}
use Rattle.lapb.specs.Machine.{Octets}
use Rattle.frame_lines.specs.declared.line.Direction.{Direction}
use Rattle.frame_lines.specs.Lines.{Flights, flying}
use Rattle.net_nodes.specs.Steps.{hearer}
use Rattle.parted_laws.specs.Processes.{IsLeftOf, joined, sender, frames_between}
use Rattle.parted_laws.proofs.Left.{all_left, drop_left, same_left, left_and_left, left_of_left, joined_left}

abbrev pub Wire : Type 0
Wire = Direction → List Octets

-- ---- as processes have the same in flight

pub between_alike : (at : Role → ℕ) (old new : ℕ → Flights) (wire other : Wire) (d : Direction) → ((k : ℕ) → flying d (new k) ≡ flying d (old k)) → other d ≡ wire d
    → frames_between at new other d ≡ frames_between at old wire d
between_alike at old new wire other d same wires =
    ap₂ (λ (r w : List Octets). joined (at (hearer d) == at (sender d)) r w (flying d (new (at (sender d))))) (same (at (hearer d))) wires
    ∙ ap (λ (x : List Octets). joined (at (hearer d) == at (sender d)) (flying d (old (at (hearer d)))) (wire d) x) (same (at (sender d)))

pub between_same : (at : Role → ℕ) (flights : ℕ → Flights) (wire : Wire) (d : Direction) → at (hearer d) ≡ at (sender d)
    → frames_between at flights wire d ≡ flying d (flights (at (hearer d)))
between_same at flights wire d e =
    ap (λ (b : Bool). joined b (flying d (flights (at (hearer d)))) (wire d) (flying d (flights (at (sender d))))) (eq_true (at (hearer d)) (at (sender d)) e)

pub between_apart : (at : Role → ℕ) (flights : ℕ → Flights) (wire : Wire) (d : Direction) → at (hearer d) ≢ at (sender d)
    → frames_between at flights wire d ≡ flying d (flights (at (hearer d))) ++ (wire d ++ flying d (flights (at (sender d))))
between_apart at flights wire d ne =
    ap (λ (b : Bool). joined b (flying d (flights (at (hearer d)))) (wire d) (flying d (flights (at (sender d))))) (ne_eqb (at (hearer d)) (at (sender d)) ne)

-- some frames are gone at each place
pub between_left : (at : Role → ℕ) (old new : ℕ → Flights) (wire other : Wire) (d : Direction) → ((k : ℕ) → IsLeftOf (flying d (new k)) (flying d (old k))) → IsLeftOf (other d) (wire d)
    → IsLeftOf (frames_between at new other d) (frames_between at old wire d)
between_left at old new wire other d some wires = joined_left (at (hearer d) == at (sender d)) (some (at (hearer d))) wires (some (at (sender d)))

-- ---- one process has other frames in flight

module _ (at : Role → ℕ) (k : ℕ) (old new : ℕ → Flights) (others : (j : ℕ) → j ≢ k → new j ≡ old j) (d : Direction) where
  pub alike_but : flying d (new k) ≡ flying d (old k) → (j : ℕ) → flying d (new j) ≡ flying d (old j)
  alike_but here j = elim (number_is j k) [
    | inl e ↦ ap (λ (i : ℕ). flying d (new i)) e ∙ here ∙ ap (λ (i : ℕ). flying d (old i)) (sym e)
    | inr ne ↦ ap (λ (f : Flights). flying d f) (others j ne)
  ]

  pub left_but : IsLeftOf (flying d (new k)) (flying d (old k)) → (j : ℕ) → IsLeftOf (flying d (new j)) (flying d (old j))
  left_but here j = elim (number_is j k) [
    | inl e ↦ subst (λ (i : ℕ). IsLeftOf (flying d (new i)) (flying d (old i))) (sym e) here
    | inr ne ↦ same_left (flying d (new j)) (flying d (old j)) (ap (λ (f : Flights). flying d f) (others j ne))
  ]

  -- the hearer's process heard the first frame
  pub heard_between : (wire : Wire) (frame : Octets) → at (hearer d) ≡ k → flying d (old k) ≡ frame ∷ flying d (new k)
      → frames_between at old wire d ≡ frame ∷ frames_between at new wire d
  heard_between wire frame here first = elim (number_is (at (hearer d)) (at (sender d))) [
    | inl e ↦ between_same at old wire d e ∙ heard ∙ ap (λ (x : List Octets). frame ∷ x) (sym (between_same at new wire d e))
    | inr ne ↦
        between_apart at old wire d ne
        ∙ ap₂ (λ (x y : List Octets). x ++ (wire d ++ y)) heard (ap (λ (f : Flights). flying d f) (sym (others (at (sender d)) (λ e. ne (here ∙ sym e)))))
        ∙ ap (λ (x : List Octets). frame ∷ x) (sym (between_apart at new wire d ne))
  ]
    where
      heard : flying d (old (at (hearer d))) ≡ frame ∷ flying d (new (at (hearer d)))
      heard = subst (λ (i : ℕ). flying d (old i) ≡ frame ∷ flying d (new i)) (sym here) first

  -- the sender's process put frames
  pub put_between : (wire : Wire) (frames : List Octets) → at (sender d) ≡ k → flying d (new k) ≡ flying d (old k) ++ frames
      → frames_between at new wire d ≡ frames_between at old wire d ++ frames
  put_between wire frames here more = elim (number_is (at (hearer d)) (at (sender d))) [
    | inl e ↦
        between_same at new wire d e ∙ ap (λ (i : ℕ). flying d (new i)) e ∙ put
        ∙ ap (λ (x : List Octets). x ++ frames) (ap (λ (i : ℕ). flying d (old i)) (sym e) ∙ sym (between_same at old wire d e))
    | inr ne ↦
        between_apart at new wire d ne
        ∙ ap₂ (λ (x y : List Octets). x ++ (wire d ++ y)) (ap (λ (f : Flights). flying d f) (others (at (hearer d)) (λ e. ne (e ∙ sym here)))) put
        ∙ regrouped (flying d (old (at (hearer d)))) (wire d) (flying d (old (at (sender d))))
        ∙ ap (λ (x : List Octets). x ++ frames) (sym (between_apart at old wire d ne))
  ]
    where
      put : flying d (new (at (sender d))) ≡ flying d (old (at (sender d))) ++ frames
      put = subst (λ (i : ℕ). flying d (new i) ≡ flying d (old i) ++ frames) (sym here) more

      regrouped : (x y z : List Octets) → x ++ (y ++ (z ++ frames)) ≡ (x ++ (y ++ z)) ++ frames
      regrouped x y z = sym (append_assoc x (y ++ z) frames ∙ ap (λ (v : List Octets). x ++ v) (append_assoc y z frames))

  -- nothing is in flight in the process any more, and nothing is on its way to or from another one
  pub cleared_between : (wire : Wire) → (at (hearer d) ≡ k) ⊎ (at (sender d) ≡ k) → flying d (new k) ≡ []
      → ((role : Role) → at role ≢ k → (wire d ≡ []) × (flying d (old (at role)) ≡ [])) → frames_between at new wire d ≡ []
  cleared_between wire here none cut = elim (number_is (at (hearer d)) (at (sender d))) [
    | inl e ↦ between_same at new wire d e ∙ empty (hearer d)
    | inr ne ↦
        between_apart at new wire d ne
        ∙ ap₂ (λ (x y : List Octets). x ++ y) (empty (hearer d)) (ap₂ (λ (x y : List Octets). x ++ y) (wire_empty ne here) (empty (sender d)))
  ]
    where
      empty : (role : Role) → flying d (new (at role)) ≡ []
      empty role = elim (number_is (at role) k) [
        | inl e ↦ ap (λ (i : ℕ). flying d (new i)) e ∙ none
        | inr ne ↦ ap (λ (f : Flights). flying d f) (others (at role) ne) ∙ (cut role ne).1
      ]

      wire_empty : at (hearer d) ≢ at (sender d) → (at (hearer d) ≡ k) ⊎ (at (sender d) ≡ k) → wire d ≡ []
      wire_empty ne (inl e) = (cut (sender d) (λ f. ne (e ∙ sym f))).0
      wire_empty ne (inr e) = (cut (hearer d) (λ f. ne (f ∙ sym e))).0

  -- ---- frames that are carried

  -- the sender's process handed its first frame on
  pub handed_between : (wire other : Wire) (frame : Octets) → at (sender d) ≡ k → at (hearer d) ≢ k → flying d (old k) ≡ frame ∷ flying d (new k) → other d ≡ wire d ++ frame ∷ []
      → frames_between at new other d ≡ frames_between at old wire d
  handed_between wire other frame here away first wires =
      between_apart at new other d apart
      ∙ ap₂ (λ (x y : List Octets). x ++ y) (ap (λ (f : Flights). flying d f) (others (at (hearer d)) away))
      (ap (λ (y : List Octets). y ++ flying d (new (at (sender d)))) wires
      ∙ append_assoc (wire d) (frame ∷ []) (flying d (new (at (sender d))))
      ∙ ap (λ (y : List Octets). wire d ++ y) (sym (subst (λ (i : ℕ). flying d (old i) ≡ frame ∷ flying d (new i)) (sym here) first)))
      ∙ sym (between_apart at old wire d apart)
    where
      apart : at (hearer d) ≢ at (sender d)
      apart e = away (e ∙ here)

  -- the hearer's process put a frame of the connection, or lost it; those before it are lost
  pub received_between : (wire other : Wire) (frame : Octets) (lost : ℕ) → at (hearer d) ≡ k → at (sender d) ≢ k → drop lost (wire d) ≡ frame ∷ other d
      → IsLeftOf (flying d (new k)) (flying d (old k) ++ frame ∷ []) → IsLeftOf (frames_between at new other d) (frames_between at old wire d)
  received_between wire other frame lost here away first some =
      subst (λ (x : List Octets). IsLeftOf x (frames_between at old wire d)) (sym (between_apart at new other d apart))
      (subst (λ (x : List Octets). IsLeftOf (flying d (new (at (hearer d))) ++ (other d ++ flying d (new (at (sender d))))) x) (sym (between_apart at old wire d apart))
      (left_of_left (left_and_left (subst (λ (i : ℕ). IsLeftOf (flying d (new i)) (flying d (old i) ++ frame ∷ [])) (sym here) some) (all_left (other d ++ flying d (new (at (sender d))))))
      (subst (λ (x : List Octets). IsLeftOf x (flying d (old (at (hearer d))) ++ (wire d ++ flying d (old (at (sender d)))))) (sym (append_assoc (flying d (old (at (hearer d)))) (frame ∷ []) (other d ++ flying d (new (at (sender d))))))
      (left_and_left (all_left (flying d (old (at (hearer d)))))
      (left_and_left (subst (λ (x : List Octets). IsLeftOf x (wire d)) first (drop_left lost (wire d))) (same_left _ _ (ap (λ (f : Flights). flying d f) (others (at (sender d)) away))))))))
    where
      apart : at (hearer d) ≢ at (sender d)
      apart e = away (sym e ∙ here)
