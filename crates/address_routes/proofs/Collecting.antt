-- The map of those prefixes that have a line.
use Rattle.std.proofs.Common.{◌≡◌, ◌⊎◌, inl, inr, ℕ, zero, suc, ◌≤◌, Bool, true, false, cond, ◌||◌, List, [], ◌∷◌, map, length, Option, Some, None, refl, sym, ap, ◌∙◌, arith, leb, leb-true}
use Rattle.std.specs.declared.cmp.Ordering.{Ordering}
use Rattle.std.specs.declared.cmp.Ordering.TheVariants.{Less, Equal, Greater}
use Rattle.std.specs.Ordering.{eq_by_cmp, nat_cmp, is_eq}
use Rattle.std.specs.Cmp.{tied_itself}
use Rattle.std.specs.Cmp.Lexicographic.{nat_list_cmp_total}
use Rattle.std.specs.List.{list_any, flat_map}
use Rattle.std.specs.FinMap.{get, find, insert, empty, get-empty, get-insert, get-from_entries, same_map, slice_cmp-IsAntisymmetric, nat_cmp-IsAntisymmetric}
use Rattle.std.proofs.lemmas.List.Folds.{list_any-append}
use Rattle.std.proofs.lemmas.Bool.{and_parts, or_left, or_right, cond-true}
use Rattle.packet_codec.specs.Address.{are_decimal}
use Rattle.address_routes.specs.Routes.{by_digits}
use Rattle.address_routes.specs.RoutesView.{ten_digits, of_length, up_to, prefixes, with_entry, entries_of, collected}

-- the same digits, by the test of the map
abbrev pub same : List ℕ → List ℕ → Bool
same p q = eq_by_cmp by_digits p q

equal_is : (o : Ordering) → is_eq o ≡ true → o ≡ Equal
equal_is Less e = absurd (cc)
equal_is Equal e = refl
equal_is Greater e = absurd (cc)

pub same_is : (p q : List ℕ) → same p q ≡ true → p ≡ q
same_is p q e = slice_cmp-IsAntisymmetric nat_cmp-IsAntisymmetric p q (equal_is (by_digits p q) e)

pub same_itself : (p : List ℕ) → same p p ≡ true
same_itself p = ap is_eq (tied_itself nat_list_cmp_total p)

-- which of two lists of digits it is
abbrev pub among : List (List ℕ) → List ℕ → Bool
among ps p = list_any (same p) ps

any-map : (p : List ℕ) (d e : ℕ) (ps : List (List ℕ)) → d ≡ e → among ps p ≡ true
    → among (map (λ digits. e ∷ digits) ps) (d ∷ p) ≡ true
any-map p d e [] is found = absurd (cc)
any-map p d e (q ∷ ps) is found =
    elim (same p q) as (λ b. same p q ≡ b → (b || among ps p) ≡ true
    → (same (d ∷ p) (e ∷ q) || among (map (λ digits. e ∷ digits) ps) (d ∷ p)) ≡ true) [
      | true ↦ λ at _. or_left _ _
          (ap (λ r. same (d ∷ p) (e ∷ r)) (sym (same_is p q at)) ∙ ap (λ f. same (d ∷ p) (f ∷ p)) (sym is)
          ∙ same_itself (d ∷ p))
      | false ↦ λ _ later. or_right (same (d ∷ p) (e ∷ q)) _ (any-map p d e ps is later)
    ] refl found

in_flat : (p : List ℕ) (d : ℕ) (ps : List (List ℕ)) (ds : List ℕ) → list_any (λ e. is_eq (nat_cmp d e)) ds ≡ true
    → among ps p ≡ true
    → among (flat_map (λ e. map (λ digits. e ∷ digits) ps) ds) (d ∷ p) ≡ true
in_flat p d ps [] at found = absurd (cc)
in_flat p d ps (e ∷ ds) at found =
    list_any-append (same (d ∷ p)) (map (λ digits. e ∷ digits) ps) (flat_map (λ e. map (λ digits. e ∷ digits) ps) ds)
    ∙ elim (is_eq (nat_cmp d e)) as (λ b. is_eq (nat_cmp d e) ≡ b → (b || list_any (λ e. is_eq (nat_cmp d e)) ds) ≡ true
    → (among (map (λ digits. e ∷ digits) ps) (d ∷ p) || among (flat_map (λ e. map (λ digits. e ∷ digits) ps) ds)
    (d ∷ p)) ≡ true) [
      | true ↦ λ here _. or_left _ _
          (any-map p d e ps (nat_cmp-IsAntisymmetric d e (equal_is (nat_cmp d e) here)) found)
      | false ↦ λ _ later. or_right (among (map (λ digits. e ∷ digits) ps) (d ∷ p)) _ (in_flat p d ps ds later found)
    ] refl at

-- a decimal digit is one of the ten
a_digit : (d : ℕ) → d ≤ 9 → list_any (λ e. is_eq (nat_cmp d e)) ten_digits ≡ true
a_digit zero h = refl
a_digit (suc zero) h = refl
a_digit (suc (suc zero)) h = refl
a_digit (suc (suc (suc zero))) h = refl
a_digit (suc (suc (suc (suc zero)))) h = refl
a_digit (suc (suc (suc (suc (suc zero))))) h = refl
a_digit (suc (suc (suc (suc (suc (suc zero)))))) h = refl
a_digit (suc (suc (suc (suc (suc (suc (suc zero))))))) h = refl
a_digit (suc (suc (suc (suc (suc (suc (suc (suc zero)))))))) h = refl
a_digit (suc (suc (suc (suc (suc (suc (suc (suc (suc zero))))))))) h = refl
a_digit (suc (suc (suc (suc (suc (suc (suc (suc (suc (suc d)))))))))) h = absurd (omega arith)

in_length : (p : List ℕ) → are_decimal p ≡ true → among (of_length (length p)) p ≡ true
unfolding of_length
in_length [] h = refl
in_length (d ∷ p) h =
    let parts : (leb d 9 ≡ true) × (are_decimal p ≡ true) = and_parts (leb d 9) (are_decimal p) h in
    in_flat p d (of_length (length p)) ten_digits (a_digit d (leb-true d 9 parts.0)) (in_length p parts.1)

at_most : (m n : ℕ) → m ≤ suc n → (m ≤ n) ⊎ (m ≡ suc n)
at_most zero n h = inl (omega arith)
at_most (suc m) zero h = inr (omega arith)
at_most (suc m) (suc n) h = elim (at_most m n (omega arith)) [ inl less ↦ inl (omega arith) | inr is ↦ inr (ap suc is) ]

in_up_to : (n : ℕ) (p : List ℕ) → are_decimal p ≡ true → 1 ≤ length p → length p ≤ n → among (up_to n) p ≡ true
unfolding up_to
in_up_to zero p h some most = absurd (omega arith)
in_up_to (suc n) p h some most =
    list_any-append (same p) (of_length (suc n)) (up_to n)
    ∙ elim (at_most (length p) n most) [
      | inl less ↦ or_right (among (of_length (suc n)) p) _ (in_up_to n p h some less)
      | inr is ↦ or_left _ _ (ap (λ k. among (of_length k) p) (sym is) ∙ in_length p h)
    ]

-- the digits of an address are among all that may be a prefix
pub is_prefix : (p : List ℕ) → are_decimal p ≡ true → 1 ≤ length p → length p ≤ 15 → among prefixes p ≡ true
unfolding prefixes
is_prefix p h some most = in_up_to 15 p h some most

twice : (b : Bool) (o : Option ℕ) → o ≡ cond b o o
twice true o = refl
twice false o = refl

found : (line : List ℕ → Option ℕ) (p q : List ℕ) (ps : List (List ℕ)) (o : Option ℕ) → line q ≡ o → (b : Bool)
    → same p q ≡ b
    → find by_digits p (entries_of line ps) ≡ cond (among ps p) (line p) None
    → find by_digits p (with_entry q o (entries_of line ps)) ≡ cond (b || among ps p) (line p) None
found line p q ps None is true at later =
    later ∙ ap (λ o. cond (among ps p) o None) (ap line (same_is p q at) ∙ is) ∙ sym (twice (among ps p) None)
    ∙ sym (ap line (same_is p q at) ∙ is)
found line p q ps None is false at later = later
found line p q ps (Some x) is true at later =
    ap (λ b. cond b (Some x) (find by_digits p (entries_of line ps))) at ∙ sym (ap line (same_is p q at) ∙ is)
found line p q ps (Some x) is false at later =
    ap (λ b. cond b (Some x) (find by_digits p (entries_of line ps))) at ∙ later

find_entry : (line : List ℕ → Option ℕ) (p : List ℕ) (ps : List (List ℕ))
    → find by_digits p (entries_of line ps) ≡ cond (among ps p) (line p) None
find_entry line p [] = refl
find_entry line p (q ∷ ps) = found line p q ps (line q) refl (same p q) refl (find_entry line p ps)

either : {l : ℕ} (b : Bool) (o : Option ℕ) → cond b o None ≡ Some l → o ≡ Some l
either true o is = is
either false o is = absurd (cc)

pub get_collected : (line : List ℕ → Option ℕ) (p : List ℕ)
    → get (collected line) p ≡ cond (among prefixes p) (line p) None
get_collected line p = get-from_entries nat_list_cmp_total (entries_of line prefixes) p ∙ find_entry line p prefixes

-- of a prefix, the map says what the function says
pub get_prefix : (line : List ℕ → Option ℕ) (p : List ℕ) → among prefixes p ≡ true → get (collected line) p ≡ line p
get_prefix line p is = get_collected line p ∙ cond-true (among prefixes p) (line p) None is

-- and where the map has a line, the function has it
pub get_back : (line : List ℕ → Option ℕ) (p : List ℕ) (l : ℕ) → get (collected line) p ≡ Some l → line p ≡ Some l
get_back line p l has = either (among prefixes p) (line p) (sym (get_collected line p) ∙ has)

-- no lines, no entries
pub collected_none : (line : List ℕ → Option ℕ) → ((p : List ℕ) → line p ≡ None) → collected line ≡ empty
collected_none line none =
    same_map nat_list_cmp_total (slice_cmp-IsAntisymmetric nat_cmp-IsAntisymmetric) (collected line) empty
    (λ p. get_collected line p ∙ ap (λ o. cond (among prefixes p) o None) (none p)
    ∙ sym (twice (among prefixes p) None) ∙ sym (get-empty by_digits p))

swap : (b among_them : Bool) (x o : Option ℕ) → (b ≡ true → among_them ≡ true)
    → cond among_them (cond b x o) None ≡ cond b x (cond among_them o None)
swap true true x o h = refl
swap true false x o h = (let wrong : false ≡ true = h refl in absurd (cc))
swap false them x o h = refl

-- one line more, one entry more
pub collected_more : (old new : List ℕ → Option ℕ) (prefix : List ℕ) (l : ℕ) → among prefixes prefix ≡ true
    → ((p : List ℕ) → new p ≡ cond (same p prefix) (Some l) (old p)) → collected new ≡ insert (collected old) prefix l
collected_more old new prefix l is more =
    same_map nat_list_cmp_total (slice_cmp-IsAntisymmetric nat_cmp-IsAntisymmetric) (collected new)
    (insert (collected old) prefix l)
    (λ p.
    get_collected new p
    ∙ ap (λ o. cond (among prefixes p) o None) (more p)
    ∙ swap (same p prefix) (among prefixes p) (Some l) (old p) (λ at. ap (among prefixes) (same_is p prefix at) ∙ is)
    ∙ sym (get-insert nat_list_cmp_total (collected old) prefix l p
    ∙ ap (cond (same p prefix) (Some l)) (get_collected old p)))
