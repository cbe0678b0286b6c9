-- The edit of one step more.
use Rattle.std.proofs.Common.{◌≡◌, ◌≢◌, ℕ, ◌+◌, ◌-◌, ◌<◌, ◌≤◌, Bool, true, false, not, ◌&&◌, ◌||◌, ◌==◌, List, [], ◌∷◌, ◌++◌, length, Option, Some, None, refl, IfSome, arith, lit<, length-append, if◌then◌else◌, nat_lt}
use Rattle.std.proofs.Math.ListN.{length-take}
use borrow.Author.Tests.{eqb-false, ltb-true}
use Rattle.x3_params.specs.Values.{value}
use Rattle.x3_params.specs.Forwarding.{is_forwarding}
use Rattle.x3_params.specs.Settings.{has_editing}
use Rattle.x3_params.specs.declared.editing.EditingFunction.{EditingFunction}
use Rattle.x3_params.specs.declared.editing.EditingFunction.TheVariants.{CharacterDelete, LineDelete, LineDisplay}
use Rattle.pad_editing.specs.Edited.{Step, Edit, Effect, ends, holds, one_more, edit_from, edit_of, effect_of, editing, inserted, after_text, after_typed, after_editing, after_key, after_idle, limit}
use Rattle.pad_editing.specs.Edited.Step.{key, idle}

-- one step more, whatever was there before
pub edit_from_more : (steps : List Step) (e : Edit) (s : Step) → edit_from e (steps ++ s ∷ []) ≡ one_more (edit_from e steps) s
edit_from_more [] e s = refl
edit_from_more (t ∷ steps) e s = edit_from_more steps (one_more e t) s

-- the edit of a list with one step more is that of the list, with that step
pub edit_of_more : (steps : List Step) (s : Step) → edit_of (steps ++ s ∷ []) ≡ one_more (edit_of steps) s
edit_of_more steps s = edit_from_more steps _ s

-- held text is shorter than a block, and a block has 1 to 128 octets
pub record AreBounded (f : Effect) : Type 0 where
  pub held : length f.held < limit
  pub block : IfSome f.block (λ b. (1 ≤ length b) × (length b ≤ limit))

bounded_if : (b : Bool) (x y : Effect) → (b ≡ true → AreBounded x) → (b ≡ false → AreBounded y) → AreBounded (if b then x else y)
bounded_if true x y t f = t refl
bounded_if false x y t f = f refl

and_second : (a b : Bool) → (a && b) ≡ true → b ≡ true
and_second true b h = h
and_second false b h = cc

short_if : (b : Bool) (x : ℕ) → length (if b then x ∷ [] else []) ≤ 1
short_if true x = omega arith
short_if false x = omega arith

second_false : (a b : Bool) → (a || b) ≡ false → b ≡ false
second_false false b h = h
second_false true b h = cc

text_bounds : (p : List ℕ) (o : ℕ) (text : List ℕ) → 1 ≤ length text → length text ≤ limit → AreBounded (after_text p o text)
text_bounds p o text some fits =
    bounded_if (is_forwarding p o || (length text == limit)) (ends text []) (holds text)
    (λ _. record { held = lit< tt; block = (some, fits) })
    (λ no. let short : length text ≢ limit = eqb-false _ _ (second_false _ _ no) in record { held = omega arith; block = tt })

typed_bounds : (p : List ℕ) (o : ℕ) (held : List ℕ) → length held < limit → AreBounded (after_typed p o (held ++ o ∷ []))
typed_bounds p o held lt =
    let text = held ++ o ∷ [] in
    let size : length text ≡ length held + 1 = length-append held (o ∷ []) in
    let short : length (inserted p o) ≤ 1 = short_if _ 0x0A in
    let all : length (text ++ inserted p o) ≡ length text + length (inserted p o) = length-append text (inserted p o) in
    bounded_if (length text == limit) (ends text (inserted p o)) (after_text p o (text ++ inserted p o))
    (λ _. record { held = omega arith; block = (omega arith, omega arith) })
    (λ no. let other : length text ≢ limit = eqb-false _ _ no in text_bounds p o (text ++ inserted p o) (omega arith) (omega arith))

editing_bounds : (e : Option EditingFunction) (p : List ℕ) (o : ℕ) (held : List ℕ) → length held < limit → AreBounded (after_editing e p o held)
editing_bounds (Some CharacterDelete) p o held lt = record { held = omega (arith, length-take (length held - 1) held); block = tt }
editing_bounds (Some LineDelete) p o held lt = record { held = lit< tt; block = tt }
editing_bounds (Some LineDisplay) p o held lt = record { held = lt; block = tt }
editing_bounds None p o held lt = typed_bounds p o held lt

-- a key or an idle time leaves fewer than 128 octets held, and ends a block of 1 to 128
pub effect_of_bounds : (s : Step) (held : List ℕ) → length held < limit → AreBounded (effect_of s held)
unfolding after_key after_idle
effect_of_bounds (key o p) held lt = editing_bounds (editing p o) p o held lt
effect_of_bounds (idle p) held lt =
    bounded_if (nat_lt 0 (value p 4) && not (has_editing p) && nat_lt 0 (length held)) (ends held []) (holds held)
    (λ yes. let some : 0 < length held = ltb-true _ _ (and_second _ _ yes) in record { held = lit< tt; block = (omega arith, omega arith) })
    (λ _. record { held = lt; block = tt })
