-- What becomes of a packet between lines of any two sizes: no item is lost, D stands on the last packet, no packet is
-- longer than the far line's size, less than a packet is left, and few packets are made.
use Rattle.std.proofs.Common.{◌≡◌, ℕ, suc, ◌+◌, ◌-◌, ◌*◌, ◌<◌, ◌≤◌, Bool, true, false, not, ◌&&◌, ◌==◌, if◌then◌else◌, List, [], ◌∷◌, ◌++◌, length, refl, sym, ap, ap₂, subst, ◌∙◌, arith, true≢false}
use Rattle.std.specs.Prelude.{nat_le, nat_lt}
use Rattle.std.proofs.lemmas.Bool.{leb-true, leb-false, eqb-true, eq-eqb}
use Rattle.std.proofs.lemmas.List.{append-nil, append_assoc}
use Rattle.std.proofs.Common.{length-append}
use Rattle.std.proofs.Math.Nat.{div-lt_iff_lt-mul}
use Rattle.epochs.specs.Item.{Item, DataPacket, items_of, all_items}
use Rattle.epochs.proofs.Prefixes.{all_items-append}
use Rattle.data_transfer.specs.Cutting.{full_packets, cut}
use Rattle.switch_joins.specs.Turning.{Sizes, Gathered, nothing_gathered, Turn, all_made, going_on, flushed, same_bit, is_full, joined, turned}
use Rattle.switch_joins.specs.Turning.{items_gathered, IsGathered}
use Rattle.switch_joins.proofs.Apart.{and_both}
use Rattle.switch_joins.proofs.Cut.{items_joined, cut_items, cut_ends, cut_count}

-- ---- the cases

-- the octets wait, of a packet with M = 1 and D = 0, or they go
joined_by : (P : Turn → Type 0) (s : Sizes) (before : List DataPacket) (octets : List ℕ) (d : DataPacket) →
    (d.more ≡ true → d.delivery ≡ false → length octets + s.near ≤ s.far
    → P (record { made = before; left = record { octets = octets; qualified = d.qualified } })) →
    P (all_made (before ++ record d { octets = octets } ∷ [])) →
    P (joined s before octets d)
joined_by P s before octets d waits goes = go (is_full s.near d && nat_le (length octets + s.near) s.far) refl
  where
    no_delivery : (m e f : Bool) → ((m && not e) && f) ≡ true → (m ≡ true) × (e ≡ false)
    no_delivery true false f h = (refl, refl)
    no_delivery true true f h = absurd (true≢false (sym h))
    no_delivery false e f h = absurd (true≢false (sym h))

    go : (b : Bool) → (is_full s.near d && nat_le (length octets + s.near) s.far) ≡ b →
        P (if b then record { made = before; left = record { octets = octets; qualified = d.qualified } }
        else all_made (before ++ record d { octets = octets } ∷ []))
    go true h =
        let parts = and_both (is_full s.near d) (nat_le (length octets + s.near) s.far) h in
        let bits = no_delivery d.more d.delivery (length d.octets == s.near) parts.0 in
        waits bits.0 bits.1 (leb-true (length octets + s.near) s.far parts.1)
    go false h = goes

same_is : (a b : Bool) → same_bit a b ≡ true → a ≡ b
same_is true b h = sym h
same_is false true h = absurd (true≢false (sym h))
same_is false false h = refl

turned_by : (P : Turn → Type 0) (s : Sizes) (g : Gathered) (d : DataPacket) →
    (s.near ≡ s.far → length g.octets ≡ 0 → P (all_made (d ∷ []))) →
    (s.far < length (g.octets ++ d.octets) → P (all_made (flushed g ++ cut s.far d))) →
    (length (g.octets ++ d.octets) ≤ s.far → g.qualified ≡ d.qualified → P (joined s [] (g.octets ++ d.octets) d)) →
    (length (g.octets ++ d.octets) ≤ s.far → P (joined s (flushed g) d.octets d)) →
    P (turned s g d)
turned_by P s g d whole over same behind =
    by_sizes ((s.near == s.far) && (length g.octets == 0)) refl
    (by_length (nat_lt s.far (length (g.octets ++ d.octets))) refl
    (λ fits. by_bit (same_bit g.qualified d.qualified) refl fits))
  where
    by_bit : (c : Bool) → same_bit g.qualified d.qualified ≡ c → length (g.octets ++ d.octets) ≤ s.far →
        P (if c then joined s [] (g.octets ++ d.octets) d else joined s (flushed g) d.octets d)
    by_bit true h fits = same fits (same_is g.qualified d.qualified h)
    by_bit false h fits = behind fits

    by_length : {rest : Turn} (b : Bool) → nat_lt s.far (length (g.octets ++ d.octets)) ≡ b →
        (length (g.octets ++ d.octets) ≤ s.far → P rest) →
        P (if b then all_made (flushed g ++ cut s.far d) else rest)
    by_length true h fits = over (omega (arith, leb-true (suc s.far) (length (g.octets ++ d.octets)) h))
    by_length false h fits = fits (omega (arith, leb-false (suc s.far) (length (g.octets ++ d.octets)) h))

    by_sizes : {rest : Turn} (a : Bool) → ((s.near == s.far) && (length g.octets == 0)) ≡ a → P rest →
        P (if a then all_made (d ∷ []) else rest)
    by_sizes true h rest =
        let parts = and_both (s.near == s.far) (length g.octets == 0) h in
        whole (eqb-true s.near s.far parts.0) (eqb-true (length g.octets) 0 parts.1)
    by_sizes false h rest = rest

-- ---- items

empty_items : (octets : List ℕ) (qualified : Bool) → length octets ≡ 0 →
    items_gathered (record { octets = octets; qualified = qualified }) ≡ []
empty_items [] true h = refl
empty_items [] false h = refl
empty_items (x ∷ xs) qualified h = absurd (omega (arith, h))

flushed_items : (g : Gathered) → all_items (flushed g) ≡ items_gathered g
flushed_items g = by_length (length g.octets == 0) refl
  where
    by_length : (b : Bool) → (length g.octets == 0) ≡ b → all_items (if b then [] else going_on g ∷ []) ≡ items_gathered g
    by_length true h = sym (empty_items g.octets g.qualified (eqb-true (length g.octets) 0 h))
    by_length false h = append-nil (items_gathered g)

-- the items of a packet do not tell its D
going_items : (octets : List ℕ) (more qualified delivery : Bool) → more ≡ true →
    items_of (record { octets = octets; more = more; qualified = qualified; delivery = delivery })
    ≡ items_gathered (record { octets = octets; qualified = qualified })
going_items octets more qualified delivery e =
    ap (λ m. items_of (record { octets = octets; more = m; qualified = qualified; delivery = delivery })) e

made_items : (before : List DataPacket) (d : DataPacket) → all_items (before ++ d ∷ []) ++ [] ≡ all_items before ++ items_of d
made_items before d =
    append-nil (all_items (before ++ d ∷ [])) ∙ all_items-append before (d ∷ []) ∙ ap (λ is. all_items before ++ is) (append-nil (items_of d))

joined_keeps : (s : Sizes) (before : List DataPacket) (octets : List ℕ) (d : DataPacket) (all : List Item) →
    all ≡ all_items before ++ items_of (record d { octets = octets }) →
    all ≡ all_items (joined s before octets d).made ++ items_gathered (joined s before octets d).left
joined_keeps s before octets d all e =
    joined_by (λ (t : Turn). all ≡ all_items t.made ++ items_gathered t.left) s before octets d
    (λ more delivery fits. e ∙ ap (λ is. all_items before ++ is) (going_items octets d.more d.qualified d.delivery more))
    (e ∙ sym (made_items before (record d { octets = octets })))

pub turned_items : (s : Sizes) (g : Gathered) (d : DataPacket) →
    items_gathered g ++ items_of d ≡ all_items (turned s g d).made ++ items_gathered (turned s g d).left
turned_items s g d =
    turned_by (λ (t : Turn). items_gathered g ++ items_of d ≡ all_items t.made ++ items_gathered t.left) s g d
    (λ sizes empty. ap (λ is. is ++ items_of d) (empty_items g.octets g.qualified empty) ∙ sym (made_items [] d))
    (λ long.
    ap₂ (λ is js. is ++ js) (sym (flushed_items g)) (sym (cut_items (full_packets s.far d.octets) s.far d))
    ∙ sym (append-nil (all_items (flushed g ++ cut s.far d)) ∙ all_items-append (flushed g) (cut s.far d)))
    (λ fits bit. joined_keeps s [] (g.octets ++ d.octets) d (items_gathered g ++ items_of d)
    (ap (λ q. items_gathered (record { octets = g.octets; qualified = q }) ++ items_of d) bit
    ∙ items_joined g.octets d.octets d.more d.qualified d.delivery))
    (λ fits. joined_keeps s (flushed g) d.octets d (items_gathered g ++ items_of d)
    (ap (λ is. is ++ items_of d) (sym (flushed_items g))))

-- ---- D

abbrev EndsWith : (delivery : Bool) → Turn → Type 0
EndsWith delivery t =
    (items_gathered t.left ≡ [])
    × (front : List DataPacket) × (last : DataPacket) × (front ++ last ∷ [] ≡ t.made) × (last.delivery ≡ delivery)

joined_ends : (s : Sizes) (before : List DataPacket) (octets : List ℕ) (d : DataPacket) → d.delivery ≡ true →
    EndsWith true (joined s before octets d)
joined_ends s before octets d e =
    joined_by (EndsWith true) s before octets d
    (λ more delivery fits. absurd (true≢false (sym e ∙ delivery)))
    (refl, before, record d { octets = octets }, refl, e)

-- where a packet has D = 1 nothing is left, and the last packet that is made has D = 1
pub turned_delivery : (s : Sizes) (g : Gathered) (d : DataPacket) → d.delivery ≡ true →
    (items_gathered (turned s g d).left ≡ [])
    × (front : List DataPacket) × (last : DataPacket) × (front ++ last ∷ [] ≡ (turned s g d).made) × (last.delivery ≡ true)
turned_delivery s g d e =
    turned_by (EndsWith true) s g d
    (λ sizes empty. (refl, [], d, refl, e))
    (λ long.
    let ends = cut_ends (full_packets s.far d.octets) s.far d in
    (refl, flushed g ++ ends.0, ends.1, append_assoc (flushed g) ends.0 (ends.1 ∷ []) ∙ ap (λ ds. flushed g ++ ds) ends.2, ends.3 ∙ e))
    (λ fits bit. joined_ends s [] (g.octets ++ d.octets) d e)
    (λ fits. joined_ends s (flushed g) d.octets d e)

-- ---- what is gathered

-- nothing is gathered at first
pub nothing_is : (s : Sizes) → IsGathered s nothing_gathered
nothing_is s = record { nothing = λ le. refl; less = λ le. omega (arith, le) }

joined_gathered : (s : Sizes) (before : List DataPacket) (octets : List ℕ) (d : DataPacket) → IsGathered s (joined s before octets d).left
joined_gathered s before octets d =
    joined_by (λ (t : Turn). IsGathered s t.left) s before octets d
    (λ more delivery fits. record { nothing = λ le. omega (arith, le, fits); less = λ le. fits })
    (nothing_is s)

pub turned_gathered : (s : Sizes) (g : Gathered) (d : DataPacket) → IsGathered s (turned s g d).left
turned_gathered s g d =
    turned_by (λ (t : Turn). IsGathered s t.left) s g d
    (λ sizes empty. nothing_is s)
    (λ long. nothing_is s)
    (λ fits bit. joined_gathered s [] (g.octets ++ d.octets) d)
    (λ fits. joined_gathered s (flushed g) d.octets d)

-- what is left fits a packet of the far line
joined_left : (s : Sizes) (before : List DataPacket) (octets : List ℕ) (d : DataPacket) → length (joined s before octets d).left.octets ≤ s.far
joined_left s before octets d =
    joined_by (λ (t : Turn). length t.left.octets ≤ s.far) s before octets d
    (λ more delivery fits. omega (arith, fits))
    (omega arith)

pub turned_left : (s : Sizes) (g : Gathered) (d : DataPacket) → length (turned s g d).left.octets ≤ s.far
turned_left s g d =
    turned_by (λ (t : Turn). length t.left.octets ≤ s.far) s g d
    (λ sizes empty. omega arith)
    (λ long. omega arith)
    (λ fits bit. joined_left s [] (g.octets ++ d.octets) d)
    (λ fits. joined_left s (flushed g) d.octets d)

-- ---- how many

flushed_none : (g : Gathered) → length g.octets ≡ 0 → flushed g ≡ []
flushed_none g e = ap (λ (b : Bool). if b then [] else going_on g ∷ []) (eq-eqb (length g.octets) 0 e)

flushed_few : (g : Gathered) → length (flushed g) ≤ 1
flushed_few g = by_length (length g.octets == 0)
  where
    by_length : (b : Bool) → length (if b then [] else going_on g ∷ []) ≤ 1
    by_length true = omega arith
    by_length false = omega arith

joined_few : (s : Sizes) (before : List DataPacket) (octets : List ℕ) (d : DataPacket) → length before ≤ 1 →
    length (joined s before octets d).made ≤ 8
joined_few s before octets d le =
    joined_by (λ (t : Turn). length t.made ≤ 8) s before octets d
    (λ more delivery fits. omega (arith, le))
    (omega (arith, le, length-append before (record d { octets = octets } ∷ [])))

few_full : (size : ℕ) (octets : List ℕ) → 1 ≤ size → length octets ≤ 8 * size → full_packets size octets < 8
few_full size octets some le = (div-lt_iff_lt-mul {k = size} {x = length octets - 1} {y = 8} some).1 (omega (arith, some, le))

-- no more packets are made than a send queue has places
pub turned_few : (s : Sizes) (g : Gathered) (d : DataPacket) → s.near ≤ 8 * s.far → length d.octets ≤ s.near → IsGathered s g →
    length (turned s g d).made ≤ 8
turned_few s g d sizes le is =
    turned_by (λ (t : Turn). length t.made ≤ 8) s g d
    (λ same empty. omega arith)
    over
    (λ fits bit. joined_few s [] (g.octets ++ d.octets) d (omega arith))
    (λ fits. joined_few s (flushed g) d.octets d (flushed_few g))
  where
    over : s.far < length (g.octets ++ d.octets) → length (flushed g ++ cut s.far d) ≤ 8
    over long = by_order (nat_le s.far s.near) refl
      where
        by_order : (b : Bool) → nat_le s.far s.near ≡ b → length (flushed g ++ cut s.far d) ≤ 8
        by_order true h =
            let empty = is.nothing (leb-true s.far s.near h) in
            let all = length-append g.octets d.octets in
            let full = few_full s.far d.octets (omega (arith, sizes, le, long, empty, all)) (omega (arith, sizes, le)) in
            let count = cut_count (full_packets s.far d.octets) s.far d in
            subst (λ ds. length (ds ++ cut s.far d) ≤ 8) (sym (flushed_none g empty)) (omega (arith, full, count))
        by_order false h =
            let all = length-append g.octets d.octets in
            let under = leb-false s.far s.near h in
            let less = is.less (omega (arith, under)) in
            absurd (omega (arith, long, all, less, le))

-- ---- lines of one size

-- between lines of one size a packet goes as it is
pub one_size : (s : Sizes) (g : Gathered) (d : DataPacket) → s.near ≡ s.far → length g.octets ≡ 0 → turned s g d ≡ all_made (d ∷ [])
one_size s g d same empty =
    ap₂ (λ (a b : Bool).
    if a && b then all_made (d ∷ [])
    else if nat_lt s.far (length (g.octets ++ d.octets)) then all_made (flushed g ++ cut s.far d)
    else if same_bit g.qualified d.qualified then joined s [] (g.octets ++ d.octets) d
    else joined s (flushed g) d.octets d)
    (eq-eqb s.near s.far same) (eq-eqb (length g.octets) 0 empty)
