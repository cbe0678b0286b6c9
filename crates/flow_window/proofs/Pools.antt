-- A place of a pool comes into use and is freed: the sums over the places in use and over the spare ones.
use Rattle.std.proofs.Common.{◌≡◌, ℕ, suc, zero, ◌+◌, ◌<◌, ◌≤◌, List, [], ◌∷◌, ◌++◌, length, set, replicate, Option, Some, None, cond, ◌==◌, refl, ap, ◌∙◌, sym, arith, inl, inr}
use Rattle.std.specs.Prelude.{slice_get}
use Rattle.std.proofs.lemmas.Option.{same_Some, none-some}
use Rattle.std.proofs.lemmas.Bool.{cases_eq}
use Rattle.std.proofs.lemmas.List.{length-map, map-set}
use Rattle.flow_window.specs.Pool.{Buffer, weight_from}
use Rattle.flow_window.specs.Slot.{Slot}
use Rattle.flow_window.specs.PoolView.{contents, listed, spare_from, AreSpare}

abbrev pub buffer : ℕ → List ℕ → Buffer
buffer number octets = record { number = number; octets = octets }

-- ---- places in use

pub weight_put : (w : Buffer → ℕ) (k : ℕ) (places : List (Option (List ℕ))) (n m : ℕ) (octets : List ℕ) → m ≡ k + n →
    slice_get places n ≡ Some None →
    weight_from w k (set places n (Some octets)) ≡ weight_from w k places + w (buffer m octets)
weight_put w k [] n m octets e get = absurd (none-some None get)
weight_put w k (place ∷ places) zero m octets e get =
    let here : m ≡ k = omega (arith, e) in
    let empty : place ≡ None = same_Some place None get in
    rw (here, empty) (omega arith)
weight_put w k (place ∷ places) (suc n) m octets e get =
    let rest = weight_put w (k + 1) places n m octets (omega (arith, e)) get in
    omega (arith, rest)

pub weight_free : (w : Buffer → ℕ) (k : ℕ) (places : List (Option (List ℕ))) (n m : ℕ) (octets : List ℕ) →
    m ≡ k + n → slice_get places n ≡ Some (Some octets) →
    weight_from w k (set places n None) + w (buffer m octets) ≡ weight_from w k places
weight_free w k [] n m octets e get = absurd (none-some (Some octets) get)
weight_free w k (place ∷ places) zero m octets e get =
    let here : m ≡ k = omega (arith, e) in
    let full : place ≡ Some octets = same_Some place (Some octets) get in
    rw (here, full) (omega arith)
weight_free w k (place ∷ places) (suc n) m octets e get =
    let rest = weight_free w (k + 1) places n m octets (omega (arith, e)) get in
    omega (arith, rest)

-- ---- spare places

pub spare_put : (w : ℕ → ℕ) (k : ℕ) (places : List (Option (List ℕ))) (n m : ℕ) (octets : List ℕ) → m ≡ k + n →
    slice_get places n ≡ Some None →
    spare_from w k (set places n (Some octets)) + w m ≡ spare_from w k places
spare_put w k [] n m octets e get = absurd (none-some None get)
spare_put w k (place ∷ places) zero m octets e get =
    let here : m ≡ k = omega (arith, e) in
    let empty : place ≡ None = same_Some place None get in
    rw (here, empty) (omega arith)
spare_put w k (place ∷ places) (suc n) m octets e get =
    let rest = spare_put w (k + 1) places n m octets (omega (arith, e)) get in
    omega (arith, rest)

pub spare_free : (w : ℕ → ℕ) (k : ℕ) (places : List (Option (List ℕ))) (n m : ℕ) (octets : List ℕ) → m ≡ k + n →
    slice_get places n ≡ Some (Some octets) →
    spare_from w k (set places n None) ≡ spare_from w k places + w m
spare_free w k [] n m octets e get = absurd (none-some (Some octets) get)
spare_free w k (place ∷ places) zero m octets e get =
    let here : m ≡ k = omega (arith, e) in
    let full : place ≡ Some octets = same_Some place (Some octets) get in
    rw (here, full) (omega arith)
spare_free w k (place ∷ places) (suc n) m octets e get =
    let rest = spare_free w (k + 1) places n m octets (omega (arith, e)) get in
    omega (arith, rest)

-- 1 at one number
abbrev pub only : ℕ → ℕ → ℕ
only m n = cond (n == m) 1 0

only_itself : (m : ℕ) → only m m ≡ 1
only_itself m = grind (arith)

pub spare_there : (m k : ℕ) (places : List (Option (List ℕ))) → 1 ≤ spare_from (only m) k places →
    (n : ℕ) × (m ≡ k + n) × (slice_get places n ≡ Some None)
spare_there m k [] some = absurd (omega (arith, some))
spare_there m k (Some octets ∷ places) some =
    let rest = spare_there m (k + 1) places (omega (arith, some)) in
    (suc rest.0, omega (arith, rest.1), rest.2)
spare_there m k (None ∷ places) some =
    elim (cases_eq k m) [
      | inl e ↦ (0, omega (arith, e), refl)
      | inr ne ↦
          let none : only m k ≡ 0 = grind (arith, ne) in
          let rest = spare_there m (k + 1) places (omega (arith, some, none)) in
          (suc rest.0, omega (arith, rest.1), rest.2)
    ]

-- ---- numbers

pub listed_append : (w : ℕ → ℕ) (ms ns : List ℕ) → listed w (ms ++ ns) ≡ listed w ms + listed w ns
listed_append w [] ns = omega arith
listed_append w (m ∷ ms) ns = let rest = listed_append w ms ns in omega (arith, rest)

pub listed_ones : (ns : List ℕ) → listed (λ _. 1) ns ≡ length ns
listed_ones [] = refl
listed_ones (n ∷ ns) = let rest = listed_ones ns in omega (arith, rest)

-- the last of the spare numbers is that of a place not in use
pub last_spare : (numbers rest : List ℕ) (m : ℕ) (places : List (Option (List ℕ))) → AreSpare numbers places →
    numbers ≡ rest ++ m ∷ [] → slice_get places m ≡ Some None
last_spare numbers rest m places spare e =
    let sum = sym (spare (only m)) ∙ ap (listed (only m)) e ∙ listed_append (only m) rest (m ∷ []) in
    let one = only_itself m in
    let found = spare_there m 0 places (omega (arith, sum, one)) in
    let at : found.0 ≡ m = omega (arith, found.1) in
    ap (slice_get places) (sym at) ∙ found.2

-- the last of them is taken for its place
pub spare_popped : (numbers rest : List ℕ) (m : ℕ) (places : List (Option (List ℕ))) (octets : List ℕ) →
    AreSpare numbers places → numbers ≡ rest ++ m ∷ [] → AreSpare rest (set places m (Some octets))
spare_popped numbers rest m places octets spare e w =
    let before = spare w in
    let parts = ap (listed w) e ∙ listed_append w rest (m ∷ []) in
    let after = spare_put w 0 places m m octets (omega arith) (last_spare numbers rest m places spare e) in
    omega (arith, before, parts, after)

-- a place is freed
pub spare_pushed : (numbers : List ℕ) (m : ℕ) (places : List (Option (List ℕ))) (octets : List ℕ) →
    AreSpare numbers places → slice_get places m ≡ Some (Some octets) →
    AreSpare (numbers ++ m ∷ []) (set places m None)
spare_pushed numbers m places octets spare get w =
    let before = spare w in
    let parts = listed_append w numbers (m ∷ []) in
    let after = spare_free w 0 places m m octets (omega arith) get in
    omega (arith, before, parts, after)

-- each place is in use or spare
pub all_counted : (k : ℕ) (places : List (Option (List ℕ))) →
    weight_from (λ _. 1) k places + spare_from (λ _. 1) k places ≡ length places
all_counted k [] = refl
all_counted k (None ∷ places) = let rest = all_counted (k + 1) places in omega (arith, rest)
all_counted k (Some octets ∷ places) = let rest = all_counted (k + 1) places in omega (arith, rest)

-- where one is in use not all are spare
pub room_to_free : (numbers : List ℕ) (m : ℕ) (places : List (Option (List ℕ))) (octets : List ℕ) →
    AreSpare numbers places → slice_get places m ≡ Some (Some octets) → length numbers < length places
room_to_free numbers m places octets spare get =
    let ones = listed_ones numbers in
    let same = spare (λ _. 1) in
    let counted = all_counted 0 places in
    let one = weight_free (λ _. 1) 0 places m m octets (omega arith) get in
    omega (arith, ones, same, counted, one)

pub contents_set : (slots : List Slot) (n : ℕ) (s : Slot) → contents (set slots n s) ≡ set (contents slots) n s.content
contents_set slots n s = map-set (λ (t : Slot). t.content) slots n s

pub contents_length : (slots : List Slot) → length (contents slots) ≡ length slots
contents_length slots = length-map slots (λ (t : Slot). t.content)

-- ---- a pool with nothing in use

pub none_in_use : (w : Buffer → ℕ) (k n : ℕ) → weight_from w k (replicate n None) ≡ 0
none_in_use w k zero = refl
none_in_use w k (suc n) = let rest = none_in_use w (k + 1) n in omega (arith, rest)

pub contents_new : (n size : ℕ) → contents (replicate n (record { size = size; content = None })) ≡ replicate n None
contents_new zero size = refl
contents_new (suc n) size = ap (λ places. None ∷ places) (contents_new n size)

pub spare_more : (w : ℕ → ℕ) (k : ℕ) (places : List (Option (List ℕ))) →
    spare_from w k (places ++ None ∷ []) ≡ spare_from w k places + w (k + length places)
spare_more w k [] = let at : k + 0 ≡ k = omega arith in rw at (omega arith)
spare_more w k (place ∷ places) =
    let rest = spare_more w (k + 1) places in
    let at : k + suc (length places) ≡ k + 1 + length places = omega arith in
    rw at (omega (arith, rest))
