-- A packet that is cut: its items are kept, its bits stand on the last piece, and no piece is longer than the size.
use Rattle.std.proofs.Common.{◌≡◌, ℕ, zero, suc, ◌+◌, ◌-◌, ◌*◌, ◌≤◌, Bool, true, false, ◌&&◌, List, [], ◌∷◌, ◌++◌, length, take, drop, map, refl, ap, ap₂, ◌∙◌, arith}
use Rattle.std.proofs.lemmas.Bool.{le-leb}
use Rattle.std.proofs.lemmas.List.{append-nil, length-take, length-drop, take-append-drop}
use Rattle.std.proofs.Math.Nat.{lt-div-mul-add, div-eq_of_lt, div-zero}
use Rattle.epochs.specs.Item.{Item, DataPacket, items_of, all_items}
use Rattle.data_transfer.specs.Held.{are_short}
use Rattle.data_transfer.specs.Cutting.{full_packets, cut_after, cut}

-- ---- items

spliced : (f : ℕ → Item) (xs ys : List ℕ) (ends : List Item) → (map f xs ++ []) ++ (map f ys ++ ends) ≡ map f (xs ++ ys) ++ ends
spliced f [] ys ends = refl
spliced f (x ∷ xs) ys ends = ap (λ is. f x ∷ is) (spliced f xs ys ends)

-- octets that go before those of a packet, by themselves or in it
pub items_joined : (xs ys : List ℕ) (more qualified delivery : Bool) →
    items_of (record { octets = xs; more = true; qualified = qualified; delivery = false })
    ++ items_of (record { octets = ys; more = more; qualified = qualified; delivery = delivery })
    ≡ items_of (record { octets = xs ++ ys; more = more; qualified = qualified; delivery = delivery })
items_joined xs ys true true delivery = spliced Item.QualifiedOctet xs ys []
items_joined xs ys false true delivery = spliced Item.QualifiedOctet xs ys (Item.QualifiedEnd ∷ [])
items_joined xs ys true false delivery = spliced Item.Octet xs ys []
items_joined xs ys false false delivery = spliced Item.Octet xs ys (Item.End ∷ [])

pub cut_items : (full size : ℕ) (d : DataPacket) → all_items (cut_after full size d) ≡ items_of d
cut_items zero size d = append-nil (items_of d)
cut_items (suc full) size d =
    ap (λ is. items_of (record { octets = take size d.octets; more = true; qualified = d.qualified; delivery = false }) ++ is)
    (cut_items full size (record d { octets = drop size d.octets }))
    ∙ items_joined (take size d.octets) (drop size d.octets) d.more d.qualified d.delivery
    ∙ ap (λ xs. items_of (record d { octets = xs })) (take-append-drop size d.octets)

-- ---- the last piece

pub cut_ends : (full size : ℕ) (d : DataPacket) →
    (front : List DataPacket) × (last : DataPacket) × (front ++ last ∷ [] ≡ cut_after full size d) × (last.delivery ≡ d.delivery)
cut_ends zero size d = ([], d, refl, refl)
cut_ends (suc full) size d =
    let rest = cut_ends full size (record d { octets = drop size d.octets }) in
    let piece = record d { octets = take size d.octets; more = true; delivery = false } in
    (piece ∷ rest.0, rest.1, ap (λ ps. piece ∷ ps) rest.2, rest.3)

-- ---- lengths

pub cut_count : (full size : ℕ) (d : DataPacket) → length (cut_after full size d) ≡ full + 1
cut_count zero size d = refl
cut_count (suc full) size d = let rest = cut_count full size (record d { octets = drop size d.octets }) in omega (arith, rest)

pub short_first : (size : ℕ) (d : DataPacket) (ds : List DataPacket) → length d.octets ≤ size → are_short size ds ≡ true → are_short size (d ∷ ds) ≡ true
short_first size d ds le short = ap₂ (λ (a b : Bool). a && b) (le-leb (length d.octets) size le) short

cut_after_short : (full size : ℕ) (d : DataPacket) → length d.octets ≤ full * size + size → are_short size (cut_after full size d) ≡ true
cut_after_short zero size d le = short_first size d [] (omega (arith, le)) refl
cut_after_short (suc full) size d le =
    short_first size (record d { octets = take size d.octets; more = true; delivery = false }) (cut_after full size (record d { octets = drop size d.octets }))
    (omega (arith, length-take size d.octets))
    (cut_after_short full size (record d { octets = drop size d.octets }) (omega (arith, le, length-drop size d.octets)))

pub all_cut : (size : ℕ) (octets : List ℕ) → 1 ≤ size → length octets ≤ full_packets size octets * size + size
all_cut size octets some = let below = lt-div-mul-add {a = length octets - 1} {b = size} some in omega (arith, below)

pub cut_short : (size : ℕ) (d : DataPacket) → 1 ≤ size → are_short size (cut size d) ≡ true
cut_short size d some = cut_after_short (full_packets size d.octets) size d (all_cut size d.octets some)

-- a packet that is no longer than the size is one piece
pub cut_whole : (size : ℕ) (d : DataPacket) → length d.octets ≤ size → cut size d ≡ d ∷ []
cut_whole zero d le = ap (λ full. cut_after full zero d) (div-zero (length d.octets - 1))
cut_whole (suc size) d le =
    ap (λ full. cut_after full (suc size) d) (div-eq_of_lt {n = length d.octets - 1} {m = suc size} (omega (arith, le)))
