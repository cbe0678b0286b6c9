-- Acts on one line, one after the other.
use Rattle.std.specs.Prelude.{◌≡◌, ◌≢◌, ℕ, ◌⊎◌, Bool, true, false, ◌==◌, if◌then◌else◌, List, [], ◌∷◌, ◌++◌, slice_get, Option, Some, None}
use Rattle.std.proofs.Common.{inl, inr, refl, sym, ap, ◌∙◌}
use Rattle.std.proofs.lemmas.Option.{none-some, same_Some}
use Rattle.std.proofs.lemmas.Bool.{eqb-true, eq-eqb}
use Rattle.link_timers.specs.declared.role.Role.TheVariants.{Dce}
use Rattle.packet_layer.specs.Layer.{Layer}
use Rattle.call_records.specs.Book.{Book}
use Rattle.switch_lines.specs.Lines.{changed}
use Rattle.switch_laws.specs.World.{Act, line_of, layer_after, after_act, after_acts}
use Rattle.switch_laws.proofs.Lists.{not_equal}
use Rattle.switch_laws.proofs.Turning.{changed_at, changed_none, changed_twice, changed_same, got_changed}
use Rattle.switched_call_laws.specs.SwitchRecords.Written.{Books, writes, writes_at, books_after, books_after_all}
use Rattle.switch_joins.proofs.Apart.{decided}
use Rattle.switch_lines.proofs.Places.{get_unchanged}

abbrev pub AllOn : ℕ → List Act → Type 0
AllOn n [] = Unit {0}
AllOn n (a ∷ more) = (line_of a ≡ n) × AllOn n more

-- what they make of the layer of the line, and of its book
abbrev pub chain : List Act → Layer → Layer
chain [] l = l
chain (a ∷ more) l = chain more (layer_after a l)

abbrev pub chain_writes : List Act → Layer → Book → Book
chain_writes [] l b = b
chain_writes (a ∷ more) l b = chain_writes more (layer_after a l) (writes Dce a l b)

pub on_append : (n : ℕ) (as_ bs : List Act) → AllOn n as_ → AllOn n bs → AllOn n (as_ ++ bs)
on_append n [] bs o p = p
on_append n (a ∷ as_) bs o p = (o.0, on_append n as_ bs o.1 p)

if_here : {X : Type 0} (n m : ℕ) (x y : X) → n ≡ m → (if n == m then x else y) ≡ x
if_here n m x y e = ap (λ (v : Bool). if v then x else y) (eq-eqb n m e)

if_apart : {X : Type 0} (k n : ℕ) (x y : X) → k ≢ n → (if k == n then x else y) ≡ y
if_apart k n x y ne = by_test (decided (k == n))
  where
    by_test : ((k == n) ≡ true) ⊎ ((k == n) ≡ false) → (if k == n then x else y) ≡ y
    by_test (inl t) = absurd (ne (eqb-true k n t))
    by_test (inr f) = ap (λ (v : Bool). if v then x else y) f

-- ---- on the line

pub layers_chain : (acts : List Act) (n : ℕ) (ys : List Layer) (l : Layer) → AllOn n acts → slice_get ys n ≡ Some l → after_acts acts ys ≡ changed n (λ y. chain acts l) ys
layers_chain [] n ys l o e = sym (changed_same n ys l e)
layers_chain (a ∷ more) n ys l o e =
    let one : after_act a ys ≡ changed n (λ y. layer_after a l) ys = ap (λ (k : ℕ). changed k (λ y. layer_after a y) ys) o.0 ∙ changed_at n (λ y. layer_after a y) (λ y. layer_after a l) ys l e refl in
    let got : slice_get (after_act a ys) n ≡ Some (layer_after a l) = ap (λ (zs : List Layer). slice_get zs n) one ∙ got_changed n (λ y. layer_after a l) ys l e in
    layers_chain more n (after_act a ys) (layer_after a l) o.1 got ∙ (ap (λ (zs : List Layer). changed n (λ y. chain more (layer_after a l)) zs) one ∙ changed_twice n (λ y. chain more (layer_after a l)) (λ y. layer_after a l) ys)

pub layers_none : (acts : List Act) (n : ℕ) (ys : List Layer) → AllOn n acts → slice_get ys n ≡ None → after_acts acts ys ≡ ys
layers_none [] n ys o e = refl
layers_none (a ∷ more) n ys o e =
    let one : after_act a ys ≡ ys = ap (λ (k : ℕ). changed k (λ y. layer_after a y) ys) o.0 ∙ changed_none n (λ y. layer_after a y) ys e in
    layers_none more n (after_act a ys) o.1 (ap (λ (zs : List Layer). slice_get zs n) one ∙ e) ∙ one

pub books_chain : (acts : List Act) (n : ℕ) (ys : List Layer) (bs : Books) (l : Layer) → AllOn n acts → slice_get ys n ≡ Some l → books_after_all acts ys bs n ≡ chain_writes acts l (bs n)
books_chain [] n ys bs l o e = refl
books_chain (a ∷ more) n ys bs l o e =
    let one : after_act a ys ≡ changed n (λ y. layer_after a l) ys = ap (λ (k : ℕ). changed k (λ y. layer_after a y) ys) o.0 ∙ changed_at n (λ y. layer_after a y) (λ y. layer_after a l) ys l e refl in
    let got : slice_get (after_act a ys) n ≡ Some (layer_after a l) = ap (λ (zs : List Layer). slice_get zs n) one ∙ got_changed n (λ y. layer_after a l) ys l e in
    let here : books_after a ys bs n ≡ writes Dce a l (bs n) = if_here n (line_of a) (writes_at a (slice_get ys n) (bs n)) (bs n) (sym o.0) ∙ ap (λ (y : Option Layer). writes_at a y (bs n)) e in
    books_chain more n (after_act a ys) (books_after a ys bs) (layer_after a l) o.1 got ∙ ap (λ (b : Book). chain_writes more (layer_after a l) b) here

-- ---- on the others

pub books_apart : (acts : List Act) (n k : ℕ) (ys : List Layer) (bs : Books) → AllOn n acts → k ≢ n → books_after_all acts ys bs k ≡ bs k
books_apart [] n k ys bs o ne = refl
books_apart (a ∷ more) n k ys bs o ne =
    books_apart more n k (after_act a ys) (books_after a ys bs) o.1 ne ∙ if_apart k (line_of a) (writes_at a (slice_get ys k) (bs k)) (bs k) (λ e. ne (e ∙ o.0))

-- ---- lists of acts

pub books_then : (as_ more : List Act) (ys : List Layer) (bs : Books) → books_after_all (as_ ++ more) ys bs ≡ books_after_all more (after_acts as_ ys) (books_after_all as_ ys bs)
books_then [] more ys bs = refl
books_then (a ∷ as_) more ys bs = books_then as_ more (after_act a ys) (books_after a ys bs)

-- ---- one line changed

pub data Changed {X : Type 0} (n : ℕ) (f : X → X) (xs : List X) (k : ℕ) (x : X) : Type 0 where
  here : (old : X) → k ≡ n → slice_get xs n ≡ Some old → f old ≡ x → Changed n f xs k x
  apart : k ≢ n → slice_get xs k ≡ Some x → Changed n f xs k x

pub was_changed : {X : Type 0} (n : ℕ) (f : X → X) (xs : List X) (k : ℕ) (x : X) → slice_get (changed n f xs) k ≡ Some x → Changed n f xs k x
was_changed {X} n f xs k x e = by_test (decided (k == n))
  where
    by_there : (o : Option X) → slice_get xs n ≡ o → k ≡ n → Changed n f xs k x
    by_there None g is = apart_none (sym (ap (λ zs. slice_get zs n) (changed_none n f xs g) ∙ g))
      where
        apart_none : None ≡ slice_get (changed n f xs) n → Changed n f xs k x
        apart_none h = absurd (none-some x (h ∙ (ap (λ (i : ℕ). slice_get (changed n f xs) i) (sym is) ∙ e)))
    by_there (Some old) g is = here old is g (same_Some (f old) x (sym (got_changed n f xs old g) ∙ (ap (λ (i : ℕ). slice_get (changed n f xs) i) (sym is) ∙ e)))

    by_test : ((k == n) ≡ true) ⊎ ((k == n) ≡ false) → Changed n f xs k x
    by_test (inl t) = by_there (slice_get xs n) refl (eqb-true k n t)
    by_test (inr no_) = apart (not_equal k n no_) (sym (get_unchanged n k f xs (not_equal k n no_)) ∙ e)
