-- How many items are confirmed, by the packets that are covered or released.
use Rattle.std.proofs.Common.{◌≡◌, ℕ, zero, suc, ◌+◌, ◌≤◌, Bool, true, false, List, [], ◌∷◌, ◌++◌, length, refl, sym, ap, ◌∙◌, arith}
use Rattle.std.specs.Prelude.{if◌then◌else◌}
use Rattle.std.proofs.lemmas.List.{length-append}
use Rattle.epochs.specs.Prefix.{IsListPrefix}
use Rattle.epochs.specs.Item.{DataPacket, items_of, all_items}
use Rattle.epochs.specs.Confirmed.{confirmed_from}
use Rattle.epochs.specs.ConfirmedLaws.{RelayConfirms, AreReleasedWhenCovered}

found_within : (d : Bool) (b f k : ℕ) → f ≤ b → (if d then b + k else f) ≤ b + k
found_within true b f k h = omega arith
found_within false b f k h = omega arith

found_before : (d : Bool) (b f k : ℕ) → f ≤ b → f ≤ (if d then b + k else f)
found_before true b f k h = omega arith
found_before false b f k h = omega arith

-- those found stay, and none is beyond the items
pub at_least : (b f n : ℕ) (ps : List DataPacket) → f ≤ b → f ≤ confirmed_from b f n ps
at_least b f zero ps h = omega arith
at_least b f (suc n) [] h = omega arith
at_least b f (suc n) (p ∷ ps) h =
    let here = found_before p.delivery b f (length (items_of p)) h in
    let rest = at_least (b + length (items_of p)) (if p.delivery then b + length (items_of p) else f) n ps (found_within p.delivery b f (length (items_of p)) h) in
    omega arith

pub within : (b f n : ℕ) (ps : List DataPacket) → f ≤ b → confirmed_from b f n ps ≤ b + length (all_items ps)
within b f zero ps h = omega arith
within b f (suc n) [] h = omega arith
within b f (suc n) (p ∷ ps) h =
    let rest = within (b + length (items_of p)) (if p.delivery then b + length (items_of p) else f) n ps (found_within p.delivery b f (length (items_of p)) h) in
    let sum = length-append (items_of p) (all_items ps) in
    omega arith

pub more : (b f m n : ℕ) (ps : List DataPacket) → f ≤ b → m ≤ n → confirmed_from b f m ps ≤ confirmed_from b f n ps
more b f zero n ps h le = at_least b f n ps h
more b f (suc m) zero ps h le = absurd (omega arith)
more b f (suc m) (suc n) [] h le = omega arith
more b f (suc m) (suc n) (p ∷ ps) h le =
    more (b + length (items_of p)) (if p.delivery then b + length (items_of p) else f) m n ps (found_within p.delivery b f (length (items_of p)) h) (omega arith)

-- only the packets at the front count
same_front : (b f n : ℕ) (ps rest : List DataPacket) → n ≤ length ps → confirmed_from b f n (ps ++ rest) ≡ confirmed_from b f n ps
same_front b f zero ps rest h = refl
same_front b f (suc n) [] rest h = absurd (omega arith)
same_front b f (suc n) (p ∷ ps) rest h =
    same_front (b + length (items_of p)) (if p.delivery then b + length (items_of p) else f) n ps rest (omega arith)

pub same_of_prefix : (n : ℕ) (ps qs : List DataPacket) → IsListPrefix DataPacket ps qs → n ≤ length ps → confirmed_from 0 0 n qs ≡ confirmed_from 0 0 n ps
same_of_prefix n ps qs p h = ap (λ (l : List DataPacket). confirmed_from 0 0 n l) (sym p.whole) ∙ same_front 0 0 n ps p.rest h

-- ---- a packet with D = 1 is released when it is covered

behind : (released covered : ℕ) (p : DataPacket) (ps : List DataPacket) → AreReleasedWhenCovered (suc released) (suc covered) (p ∷ ps)
    → AreReleasedWhenCovered released covered ps
behind released covered p ps h i q there d less =
    let bound = h (suc i) q there d (omega arith) in omega arith

none_behind : (released : ℕ) (p : DataPacket) (ps : List DataPacket) → AreReleasedWhenCovered (suc released) 0 (p ∷ ps) → AreReleasedWhenCovered released 0 ps
none_behind released p ps h i q there d less =
    let bound = h (suc i) q there d (omega arith) in absurd (omega arith)

no_delivery : (d : Bool) → (d ≡ true → ⊥) → (b f : ℕ) → (if d then b else f) ≡ f
no_delivery true h b f = absurd (h refl)
no_delivery false h b f = refl

none_found : (b f r : ℕ) (ps : List DataPacket) → AreReleasedWhenCovered r 0 ps → confirmed_from b f r ps ≡ f
none_found b f zero ps h = refl
none_found b f (suc r) [] h = refl
none_found b f (suc r) (p ∷ ps) h =
    none_found (b + length (items_of p)) (if p.delivery then b + length (items_of p) else f) r ps (none_behind r p ps h)
    ∙ no_delivery p.delivery (λ d. let bound = h 0 p refl d (omega arith) in absurd (omega arith)) (b + length (items_of p)) f

released_from : (b f r c : ℕ) (ps : List DataPacket) → f ≤ b → AreReleasedWhenCovered r c ps → confirmed_from b f r ps ≤ confirmed_from b f c ps
released_from b f zero c ps h k = at_least b f c ps h
released_from b f (suc r) zero ps h k =
    let none = none_found b f (suc r) ps k in omega arith
released_from b f (suc r) (suc c) [] h k = omega arith
released_from b f (suc r) (suc c) (p ∷ ps) h k =
    released_from (b + length (items_of p)) (if p.delivery then b + length (items_of p) else f) r c ps (found_within p.delivery b f (length (items_of p)) h)
    (behind r c p ps k)

pub relay_confirms : RelayConfirms
relay_confirms released covered packets h = released_from 0 0 released covered packets (omega arith) h
