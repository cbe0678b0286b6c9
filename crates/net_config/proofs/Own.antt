-- The lines that end at a node.
use Rattle.std.proofs.Common.{◌≡◌, ℕ, zero, suc, ◌+◌, ◌++◌, Bool, true, false, cond, inl, inr, List, [], ◌∷◌, length, Some, refl, ap, subst, ◌∙◌, arith}
use Rattle.std.specs.Prelude.{slice_get}
use Rattle.std.specs.List.{filter}
use Rattle.std.proofs.lemmas.Option.{none-some, same_Some}
use Rattle.std.proofs.lemmas.Bool.{cases_Bool}
use Rattle.net_config.specs.Served.{has_end}
use Rattle.net_config.specs.Plan.{lines_from}
use Rattle.net_config.specs.declared.config.LineConfig.{LineConfig}

-- ---- one more line

pushes : (b : Bool) (n : ℕ) (zs ws : List ℕ) → cond b (n ∷ zs ++ ws) (zs ++ ws) ≡ cond b (n ∷ zs) zs ++ ws
pushes true n zs ws = refl
pushes false n zs ws = refl

pub lines_more : (first : ℕ) (name : List ℕ) (lines : List LineConfig) (l : LineConfig) → has_end name l ≡ true
    → lines_from first name (lines ++ l ∷ []) ≡ lines_from first name lines ++ (first + length lines) ∷ []
lines_more first name [] l h =
    let none : first ≡ first + length {A = LineConfig} [] = omega arith in
    ap (λ b. cond b (first ∷ []) []) h ∙ ap (λ n. n ∷ []) none
lines_more first name (x ∷ lines) l h =
    let rest = lines_more (suc first) name lines l h in
    let at : suc first + length lines ≡ first + length (x ∷ lines) = omega arith in
    ap (λ zs. cond (has_end name x) (first ∷ zs) zs) (rest ∙ ap (λ n. lines_from (suc first) name lines ++ n ∷ []) at)
    ∙ pushes (has_end name x) first (lines_from (suc first) name lines) ((first + length (x ∷ lines)) ∷ [])

pub lines_same : (first : ℕ) (name : List ℕ) (lines : List LineConfig) (l : LineConfig) → has_end name l ≡ false
    → lines_from first name (lines ++ l ∷ []) ≡ lines_from first name lines
lines_same first name [] l h = ap (λ b. cond b (first ∷ []) []) h
lines_same first name (x ∷ lines) l h =
    ap (λ zs. cond (has_end name x) (first ∷ zs) zs) (lines_same (suc first) name lines l h)

-- ---- how many there are

counts : (b : Bool) (n : ℕ) (zs : List ℕ) (x : LineConfig) (ys : List LineConfig) → length zs ≡ length ys
    → length (cond b (n ∷ zs) zs) ≡ length (cond b (x ∷ ys) ys)
counts true n zs x ys h = ap suc h
counts false n zs x ys h = h

pub lines_count : (first : ℕ) (name : List ℕ) (lines : List LineConfig)
    → length (lines_from first name lines) ≡ length (filter (has_end name) lines)
lines_count first name [] = refl
lines_count first name (x ∷ lines) =
    counts (has_end name x) first (lines_from (suc first) name lines) x (filter (has_end name) lines)
    (lines_count (suc first) name lines)

-- ---- each is one that ends there

pub record Ends (first : ℕ) (name : List ℕ) (lines : List LineConfig) (number : ℕ) : Type 0 where
  pub place : ℕ
  pub line : LineConfig
  pub there : slice_get lines place ≡ Some line
  pub ends : has_end name line ≡ true
  pub number_is : number ≡ first + place

ends_more : (first : ℕ) (name : List ℕ) (x : LineConfig) (lines : List LineConfig) (number : ℕ)
    → Ends (suc first) name lines number → Ends first name (x ∷ lines) number
ends_more first name x lines number e = record {
  place = suc e.place;
  line = e.line;
  there = e.there;
  ends = e.ends;
  number_is = let is = e.number_is in omega (arith, is);
}

first_ends : (first : ℕ) (name : List ℕ) (x : LineConfig) (lines : List LineConfig) (own number : ℕ)
    → has_end name x ≡ true → ((at : ℕ) → slice_get (lines_from (suc first) name lines) at ≡ Some number → Ends (suc first) name lines number)
    → slice_get (first ∷ lines_from (suc first) name lines) own ≡ Some number → Ends first name (x ∷ lines) number
first_ends first name x lines zero number q later e =
    let is = same_Some first number e in
    record { place = 0; line = x; there = refl; ends = q; number_is = omega (arith, is) }
first_ends first name x lines (suc own) number q later e = ends_more first name x lines number (later own e)

pub line_ends : (first : ℕ) (name : List ℕ) (lines : List LineConfig) (own number : ℕ)
    → slice_get (lines_from first name lines) own ≡ Some number → Ends first name lines number
line_ends first name [] own number e = absurd (none-some number e)
line_ends first name (x ∷ lines) own number e =
    let rest = lines_from (suc first) name lines in
    elim (cases_Bool (has_end name x)) [
      | inl q ↦
          first_ends first name x lines own number q (λ at. line_ends (suc first) name lines at number)
          (subst (λ b. slice_get (cond b (first ∷ rest) rest) own ≡ Some number) q e)
      | inr q ↦
          ends_more first name x lines number
          (line_ends (suc first) name lines own number (subst (λ b. slice_get (cond b (first ∷ rest) rest) own ≡ Some number) q e))
    ]

-- ---- none is there twice

none_later : (first : ℕ) (name : List ℕ) (lines : List LineConfig) (own number : ℕ)
    → slice_get (lines_from (suc first) name lines) own ≡ Some number → first ≡ number → ⊥
none_later first name lines own number e same =
    let is = (line_ends (suc first) name lines own number e).number_is in omega (arith, is, same)

first_apart : (first : ℕ) (name : List ℕ) (lines : List LineConfig) (own other number : ℕ)
    → ((at to : ℕ) → slice_get (lines_from (suc first) name lines) at ≡ Some number
    → slice_get (lines_from (suc first) name lines) to ≡ Some number → at ≡ to)
    → slice_get (first ∷ lines_from (suc first) name lines) own ≡ Some number
    → slice_get (first ∷ lines_from (suc first) name lines) other ≡ Some number → own ≡ other
first_apart first name lines zero zero number later e f = refl
first_apart first name lines zero (suc other) number later e f =
    absurd (none_later first name lines other number f (same_Some first number e))
first_apart first name lines (suc own) zero number later e f =
    absurd (none_later first name lines own number e (same_Some first number f))
first_apart first name lines (suc own) (suc other) number later e f = ap suc (later own other e f)

pub lines_apart : (first : ℕ) (name : List ℕ) (lines : List LineConfig) (own other number : ℕ)
    → slice_get (lines_from first name lines) own ≡ Some number
    → slice_get (lines_from first name lines) other ≡ Some number → own ≡ other
lines_apart first name [] own other number e f = absurd (none-some number e)
lines_apart first name (x ∷ lines) own other number e f =
    let rest = lines_from (suc first) name lines in
    elim (cases_Bool (has_end name x)) [
      | inl q ↦
          first_apart first name lines own other number (λ at to. lines_apart (suc first) name lines at to number)
          (subst (λ b. slice_get (cond b (first ∷ rest) rest) own ≡ Some number) q e)
          (subst (λ b. slice_get (cond b (first ∷ rest) rest) other ≡ Some number) q f)
      | inr q ↦
          lines_apart (suc first) name lines own other number
          (subst (λ b. slice_get (cond b (first ∷ rest) rest) own ≡ Some number) q e)
          (subst (λ b. slice_get (cond b (first ∷ rest) rest) other ≡ Some number) q f)
    ]

-- ---- each that ends there is one of them

pub record Found (first : ℕ) (name : List ℕ) (lines : List LineConfig) (place : ℕ) : Type 0 where
  pub own : ℕ
  pub there : slice_get (lines_from first name lines) own ≡ Some (first + place)

pub line_found : (first : ℕ) (name : List ℕ) (lines : List LineConfig) (place : ℕ) (l : LineConfig)
    → slice_get lines place ≡ Some l → has_end name l ≡ true → Found first name lines place
line_found first name [] place l e h = absurd (none-some l e)
line_found first name (x ∷ lines) zero l e h =
    let rest = lines_from (suc first) name lines in
    let none : first ≡ first + 0 = omega arith in
    record {
      own = 0;
      there = ap (λ b. slice_get (cond b (first ∷ rest) rest) 0) (ap (has_end name) (same_Some x l e) ∙ h) ∙ ap (λ n. Some n) none;
    }
line_found first name (x ∷ lines) (suc place) l e h =
    let rest = lines_from (suc first) name lines in
    let f = line_found (suc first) name lines place l e h in
    let at : suc first + place ≡ first + suc place = omega arith in
    let there = f.there ∙ ap (λ n. Some n) at in
    elim (cases_Bool (has_end name x)) [
      | inl q ↦ record { own = suc f.own; there = ap (λ b. slice_get (cond b (first ∷ rest) rest) (suc f.own)) q ∙ there }
      | inr q ↦ record { own = f.own; there = ap (λ b. slice_get (cond b (first ∷ rest) rest) f.own) q ∙ there }
    ]
