-- Where each packet with D = 1 is covered, what is confirmed ends with the last one.
use Rattle.std.specs.Prelude.{◌≡◌, ℕ, zero, suc, ◌+◌, ◌<◌, Bool, true, false, cond, List, [], ◌∷◌, ◌++◌, length}
use Rattle.std.proofs.Common.{refl, sym, ap, ◌∙◌, arith}
use Rattle.epochs.specs.Item.{DataPacket, items_of}
use Rattle.epochs.specs.Confirmed.{confirmed_from}
use Rattle.record_laws.specs.Books.Delivery.{DeliveryLaw}

-- each packet with D = 1 is among the first so many
abbrev Within : ℕ → List DataPacket → Type 0
Within count ps = (before after : List DataPacket) (p : DataPacket) → before ++ p ∷ after ≡ ps → p.delivery ≡ true → length before < count

rest_within : (count : ℕ) (p : DataPacket) (ps : List DataPacket) → Within (suc count) (p ∷ ps) → Within count ps
rest_within count p ps w before after q e marked = let h = w (p ∷ before) after q (ap (λ (l : List DataPacket). p ∷ l) e) marked in omega arith

none_rest : (p : DataPacket) (ps : List DataPacket) → Within 0 (p ∷ ps) → Within 0 ps
none_rest p ps w before after q e marked = let h = w (p ∷ before) after q (ap (λ (l : List DataPacket). p ∷ l) e) marked in absurd (omega arith)

not_first : (b : Bool) → (b ≡ true → 0 < 0) → (x y : ℕ) → cond b x y ≡ y
not_first true h x y = absurd (let l = h refl in omega arith)
not_first false h x y = refl

none_confirmed : (before found : ℕ) (ps : List DataPacket) → Within 0 ps → confirmed_from before found (length ps) ps ≡ found
none_confirmed before found [] w = refl
none_confirmed before found (p ∷ ps) w =
    none_confirmed (before + length (items_of p)) (cond p.delivery (before + length (items_of p)) found) ps (none_rest p ps w)
    ∙ not_first p.delivery (λ marked. w [] ps p refl marked) (before + length (items_of p)) found

all_confirmed : (before found count : ℕ) (ps : List DataPacket) → Within count ps → confirmed_from before found count ps ≡ confirmed_from before found (length ps) ps
all_confirmed before found zero ps w = sym (none_confirmed before found ps w)
all_confirmed before found (suc count) [] w = refl
all_confirmed before found (suc count) (p ∷ ps) w =
    all_confirmed (before + length (items_of p)) (cond p.delivery (before + length (items_of p)) found) count ps (rest_within count p ps w)

pub delivery_whole : DeliveryLaw
delivery_whole s w = all_confirmed 0 0 s.covered s.packets w
