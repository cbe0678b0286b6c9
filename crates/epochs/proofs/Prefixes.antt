-- Prefixes of lists and of epochs: reflexive, transitive, and kept by the items of packets.
use Rattle.std.proofs.Common.{◌≡◌, ℕ, List, [], ◌∷◌, ◌++◌, refl, sym, ap, ◌∙◌, append_assoc}
use Rattle.epochs.specs.Prefix.{IsListPrefix}
use Rattle.epochs.specs.Item.{Item, DataPacket, items_of, all_items}
use Rattle.epochs.specs.Epoch.{Epoch, IsPrefixOf, IsEmpty}

pub append-nil : (A : Type 0) (xs : List A) → xs ++ [] ≡ xs
append-nil A [] = refl
append-nil A (x ∷ xs) = ap (λ ys. x ∷ ys) (append-nil A xs)

pub whole-list : (A : Type 0) (xs : List A) → IsListPrefix A xs xs
whole-list A xs = record { rest = []; whole = append-nil A xs }

pub list-prefix-trans : {A : Type 0} {xs ys zs : List A} → IsListPrefix A xs ys → IsListPrefix A ys zs → IsListPrefix A xs zs
list-prefix-trans {A} {xs} p q = record {
  rest = p.rest ++ q.rest;
  whole = sym (append_assoc {A = A} xs p.rest q.rest) ∙ ap (λ l. l ++ q.rest) p.whole ∙ q.whole;
}

pub prefix-refl : (e : Epoch) → IsPrefixOf e e
prefix-refl e = record { items = whole-list Item e.items; interrupts = whole-list (List ℕ) e.interrupts }

pub prefix-trans : {e f g : Epoch} → IsPrefixOf e f → IsPrefixOf f g → IsPrefixOf e g
prefix-trans p q =
    record { items = list-prefix-trans p.items q.items; interrupts = list-prefix-trans p.interrupts q.interrupts }

nil-front : {A : Type 0} (xs ys : List A) → xs ++ ys ≡ [] → xs ≡ []
nil-front [] ys e = refl
nil-front (x ∷ xs) ys e = cc

-- a prefix of an empty epoch is empty
pub empty-prefix : {e f : Epoch} → IsPrefixOf e f → IsEmpty f → IsEmpty e
empty-prefix {e} p h = record {
  items = nil-front e.items p.items.rest (p.items.whole ∙ h.items);
  interrupts = nil-front e.interrupts p.interrupts.rest (p.interrupts.whole ∙ h.interrupts);
}

pub all_items-append : (ps qs : List DataPacket) → all_items (ps ++ qs) ≡ all_items ps ++ all_items qs
all_items-append [] qs = refl
all_items-append (p ∷ ps) qs =
    ap (λ l. items_of p ++ l) (all_items-append ps qs) ∙ sym (append_assoc {A = Item} (items_of p) (all_items ps) (all_items qs))

pub all_items-prefix : {ps qs : List DataPacket} → IsListPrefix DataPacket ps qs → IsListPrefix Item (all_items ps) (all_items qs)
all_items-prefix {ps} p =
    record { rest = all_items p.rest; whole = sym (all_items-append ps p.rest) ∙ ap all_items p.whole }
