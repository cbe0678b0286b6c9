-- What becomes of keys that wait.
use Rattle.std.proofs.Common.{◌≡◌, ℕ, suc, Bool, true, false, List, [], ◌∷◌, ◌++◌, ◌<◌, ◌+◌, length, take, drop, slice_get, Option, Some, None, refl, sym, ap, ◌∙◌, arith, subst, append_assoc, cond, not}
use Rattle.std.specs.Prelude.{nat_lt, position}
use Rattle.std.proofs.lemmas.Bool.Decides.{nat_tests}
use Rattle.std.specs.List.{position_or_len}
use Rattle.service_ports.specs.declared.input.Key.{Key}
use Rattle.service_ports.specs.declared.input.Key.TheVariants.{Octet, Break}
use Rattle.service_ports.specs.Ports.{is_break_or, is_octet}
use Rattle.service.specs.Serving.{Fate, pressed, hastened, overtaken, Befall, begins_urgently, overtaken_in, xon}

-- ---- fates after fates

pub befall-then : (has_xon : Bool) (xs ys : List Fate) (keys typed between more left : List Key) → Befall has_xon xs keys typed between
    → Befall has_xon ys between more left → Befall has_xon (xs ++ ys) keys (typed ++ more) left
befall-then has_xon [] ys keys typed between more left (same, none) two =
    subst (λ k. Befall has_xon ys k (typed ++ more) left) (sym same) (subst (λ t. Befall has_xon ys between (t ++ more) left) (sym none) two)
befall-then has_xon (pressed key ∷ xs) ys keys typed between more left (rest, later, is, first, on) two =
    (rest, later ++ more, is, ap (λ t. t ++ more) first, befall-then has_xon xs ys rest later between more left on two)
befall-then has_xon (hastened before ∷ xs) ys keys typed between more left (rest, later, may, is, first, on) two =
    (rest, later ++ more, may, is, ap (λ t. t ++ more) first, befall-then has_xon xs ys (before ++ rest) later between more left on two)
befall-then has_xon (overtaken first ∷ xs) ys keys typed between more left (rest, is, urgent, on) two =
    (rest, is, urgent, befall-then has_xon xs ys rest typed between more left on two)

pub overtaken_in-append : (xs ys : List Fate) → overtaken_in (xs ++ ys) ≡ overtaken_in xs + overtaken_in ys
overtaken_in-append [] ys = omega arith
overtaken_in-append (pressed key ∷ xs) ys = overtaken_in-append xs ys
overtaken_in-append (hastened before ∷ xs) ys = overtaken_in-append xs ys
overtaken_in-append (overtaken first ∷ xs) ys = omega (arith, overtaken_in-append xs ys)

-- ---- keys that come later wait behind

urgent-more : (rest more : List Key) → begins_urgently rest ≡ true → begins_urgently (rest ++ more) ≡ true
urgent-more [] more urgent = cc
urgent-more (key ∷ rest) more urgent = urgent

pub befall-more : (has_xon : Bool) (fates : List Fate) (keys typed left more : List Key) → Befall has_xon fates keys typed left
    → Befall has_xon fates (keys ++ more) typed (left ++ more)
befall-more has_xon [] keys typed left more (same, none) = (ap (λ k. k ++ more) same, none)
befall-more has_xon (pressed key ∷ fates) keys typed left more (rest, later, is, first, on) =
    (rest ++ more, later, ap (λ k. k ++ more) is, first, befall-more has_xon fates rest later left more on)
befall-more has_xon (hastened before ∷ fates) keys typed left more (rest, later, may, is, first, on) = (
  rest ++ more,
  later,
  may,
  ap (λ k. k ++ more) is ∙ append_assoc before (xon ∷ rest) more,
  first,
  subst (λ k. Befall has_xon fates k later (left ++ more)) (append_assoc before rest more) (befall-more has_xon fates (before ++ rest) later left more on),
)
befall-more has_xon (overtaken first ∷ fates) keys typed left more (rest, is, urgent, on) =
    (rest ++ more, ap (λ k. k ++ more) is ∙ append_assoc first rest more, urgent-more rest more urgent, befall-more has_xon fates rest typed left more on)

-- ---- one key

pub first_and_rest : (keys : List Key) (key : Key) → slice_get keys 0 ≡ Some key → keys ≡ key ∷ drop 1 keys
first_and_rest [] key first = cc
first_and_rest (other ∷ keys) key first = let is : other ≡ key = cc in ap (λ k. k ∷ keys) is

lt_from : (a b : ℕ) → nat_lt a b ≡ true → a < b
lt_from a b is = grind (arith, nat_tests)

-- the first element that passes a test, between those before it and those after it
abbrev pub Found : {X : Type 0} → (test : X → Bool) → List X → ℕ → Type 0
Found {X} test xs place = (x : X) × (test x ≡ true) × (slice_get xs place ≡ Some x) × (xs ≡ take place xs ++ x ∷ drop (suc place) xs)

found_by : {X : Type 0} (test : X → Bool) (x : X) (xs : List X) (b : Bool) → test x ≡ b
    → cond (not b) (1 + position_or_len test xs) 0 < suc (length xs)
    → (position_or_len test xs < length xs → Found test xs (position_or_len test xs))
    → Found test (x ∷ xs) (cond (not b) (1 + position_or_len test xs) 0)
found_by test x xs true passes within later = (x, passes, refl, refl)
found_by test x xs false passes within later =
    let on = later (omega arith) in
    let next : 1 + position_or_len test xs ≡ suc (position_or_len test xs) = omega arith in
    subst (λ n. Found test (x ∷ xs) n) (sym next) (on.0, on.1, on.2, ap (λ rest. x ∷ rest) on.3)

found_at : {X : Type 0} (test : X → Bool) (xs : List X) → position_or_len test xs < length xs → Found test xs (position_or_len test xs)
found_at test [] within = absurd (omega arith)
found_at test (x ∷ xs) within = found_by test x xs (test x) refl within (λ later. found_at test xs later)

place_is : (b : Bool) (n place : ℕ) → cond b (Some n) None ≡ Some place → (b ≡ true) × (n ≡ place)
place_is true n place is = (refl, cc)
place_is false n place is = cc

within_place : {X : Type 0} (test : X → Bool) (xs : List X) (place : ℕ) → position test xs ≡ Some place
    → (position_or_len test xs < length xs) × (position_or_len test xs ≡ place)
within_place test xs place is =
    let found = place_is (nat_lt (position_or_len test xs) (length xs)) (position_or_len test xs) place is in
    (lt_from (position_or_len test xs) (length xs) found.0, found.1)

pub first_found : {X : Type 0} (test : X → Bool) (xs : List X) (place : ℕ) → position test xs ≡ Some place → Found test xs place
first_found test xs place is =
    let found = within_place test xs place is in
    subst (λ n. Found test xs n) found.1 (found_at test xs found.0)

pub found_within : {X : Type 0} (test : X → Bool) (xs : List X) (place : ℕ) → position test xs ≡ Some place → place < length xs
found_within test xs place is =
    let found = within_place test xs place is in
    subst (λ n. n < length xs) found.1 found.0

urgent_by : (key : Key) (keys : List Key) (b : Bool) → is_break_or 16 key ≡ b
    → cond (not b) (1 + position_or_len (is_break_or 16) keys) 0 < suc (length keys)
    → (position_or_len (is_break_or 16) keys < length keys → begins_urgently (drop (position_or_len (is_break_or 16) keys) keys) ≡ true)
    → begins_urgently (drop (cond (not b) (1 + position_or_len (is_break_or 16) keys) 0) (key ∷ keys)) ≡ true
urgent_by key keys true passes within later = passes
urgent_by key keys false passes within later =
    let next : 1 + position_or_len (is_break_or 16) keys ≡ suc (position_or_len (is_break_or 16) keys) = omega arith in
    subst (λ n. begins_urgently (drop n (key ∷ keys)) ≡ true) (sym next) (later (omega arith))

urgent_from : (keys : List Key) → position_or_len (is_break_or 16) keys < length keys
    → begins_urgently (drop (position_or_len (is_break_or 16) keys) keys) ≡ true
urgent_from [] within = absurd (omega arith)
urgent_from (key ∷ keys) within = urgent_by key keys (is_break_or 16 key) refl within (λ later. urgent_from keys later)

pub urgent_found : (keys : List Key) (place : ℕ) → position (is_break_or 16) keys ≡ Some place → begins_urgently (drop place keys) ≡ true
urgent_found keys place is =
    let found = within_place (is_break_or 16) keys place is in
    subst (λ n. begins_urgently (drop n keys) ≡ true) found.1 (urgent_from keys found.0)

pub is_xon : (key : Key) → is_octet 17 key ≡ true → key ≡ xon
is_xon (Octet octet) is = let same : octet ≡ 17 = grind (arith, nat_tests) in ap Octet same
is_xon Break is = cc

pub xon_found : (has_xon : Bool) (found : Option ℕ) (place : ℕ) → cond has_xon found None ≡ Some place → (has_xon ≡ true) × (found ≡ Some place)
xon_found true found place is = (refl, is)
xon_found false found place is = cc
