-- Of what a switch sent in an epoch no more is confirmed than of what it took.
use Rattle.std.specs.Prelude.{◌≡◌, ℕ, zero, suc, ◌+◌, ◌-◌, ◌≤◌, Bool, true, false, if◌then◌else◌, nat_le, List, [], ◌∷◌, ◌++◌, length}
use Rattle.std.proofs.Common.{refl, sym, ap, ap₂, subst, ◌∙◌, append_assoc, append-nil, length-append, arith}
use Rattle.std.proofs.lemmas.Bool.{leb-true, leb-false}
use Rattle.epochs.specs.Item.{Item, DataPacket, items_of, all_items}
use Rattle.epochs.specs.Confirmed.{Has, confirmed_from, sent_confirmed, taken_confirmed}
use Rattle.epochs.proofs.Confirming.{at_least, within}
use Rattle.packet_laws.specs.History.{Epoch, empty_epoch}
use Rattle.switch_laws.specs.Clause.{Handled, packets_of, made_of, EndsWithDelivery, Turned, AreTurned, AreCovered, Carries, nothing_sent, taken_part, sent_part}
use Rattle.switch_laws.proofs.Directions.{carried_items, packets_append, made_append}
use Rattle.switched_call_laws.specs.SwitchRecords.Records.{sent_of, taken_of}

-- packets that all count, with others behind them
over : (before found count : ℕ) (ps qs : List DataPacket) → length ps ≤ count
    → confirmed_from before found count (ps ++ qs) ≡ confirmed_from (before + length (all_items ps)) (confirmed_from before found (length ps) ps) (count - length ps) qs
over before found count [] qs le =
    let here : before ≡ before + 0 = omega arith in
    let all : count ≡ count - 0 = omega arith in
    ap₂ (λ (b n : ℕ). confirmed_from b found n qs) here all
over before found zero (p ∷ ps) qs le = absurd (omega arith)
over before found (suc count) (p ∷ ps) qs le =
    let n = length (items_of p) in
    let now = if p.delivery then before + n else found in
    let size = length-append (items_of p) (all_items ps) in
    let next : before + n + length (all_items ps) ≡ before + length (items_of p ++ all_items ps) = omega arith in
    let fewer : count - length ps ≡ suc count - suc (length ps) = omega arith in
    over (before + n) now count ps qs (omega arith) ∙ ap₂ (λ (b m : ℕ). confirmed_from b (confirmed_from (before + n) now (length ps) ps) m qs) next fewer

-- all is confirmed where the last packet has D = 1
all_found : (before found : ℕ) (front : List DataPacket) (last : DataPacket) → last.delivery ≡ true
    → confirmed_from before found (length (front ++ last ∷ [])) (front ++ last ∷ []) ≡ before + length (all_items (front ++ last ∷ []))
all_found before found [] last e =
    ap (λ (v : Bool). if v then before + length (items_of last) else found) e ∙ ap (λ (is : List Item). before + length is) (sym (append-nil (items_of last)))
all_found before found (p ∷ front) last e =
    let n = length (items_of p) in
    let size = length-append (items_of p) (all_items (front ++ last ∷ [])) in
    all_found (before + n) (if p.delivery then before + n else found) front last e ∙ omega arith

delivered : (before found : ℕ) (ps : List DataPacket) → EndsWithDelivery ps → confirmed_from before found (length ps) ps ≡ before + length (all_items ps)
delivered before found ps e =
    subst (λ (qs : List DataPacket). confirmed_from before found (length qs) qs ≡ before + length (all_items qs)) e.parts (all_found before found e.front e.last e.delivery)

-- one packet and what it made due: `near` items were taken before it and `far` sent, so as many more as are left over, and
-- `rest` packets more are covered from this place on
one_more : (h : Handled) (ps qs : List DataPacket) (left between : List Item) (covered place rest near taken far sent count : ℕ) → Turned left h between
    → (h.packet.delivery ≡ true → place + length h.made ≤ covered) → rest ≡ covered - place → near ≡ far + length left → taken ≤ sent → sent ≤ far
    → ((now m then_ : ℕ) → m ≡ covered - (place + length h.made) → near + length (items_of h.packet) ≡ far + length (all_items h.made) + length between → now ≤ then_
    → then_ ≤ far + length (all_items h.made) → confirmed_from (near + length (items_of h.packet)) now count ps ≤ confirmed_from (far + length (all_items h.made)) then_ m qs)
    → confirmed_from near taken (suc count) (h.packet ∷ ps) ≤ confirmed_from far sent rest (h.made ++ qs)
one_more h ps qs left between covered place rest near taken far sent count t among r e le bound onward = by_delivery h.packet.delivery refl
  where
    n : ℕ
    n = length (items_of h.packet)

    made : ℕ
    made = length (all_items h.made)

    found : ℕ
    found = confirmed_from far sent (length h.made) h.made

    even : near + n ≡ far + made + length between
    even =
        let same : length left + n ≡ made + length between =
        sym (length-append left (items_of h.packet)) ∙ ap (λ (is : List Item). length is) t.items ∙ length-append (all_items h.made) between in
        omega arith

    by_covered : (v : Bool) → nat_le (length h.made) rest ≡ v → confirmed_from (near + n) taken count ps ≤ confirmed_from far sent rest (h.made ++ qs)
    by_covered true f =
        let enough = leb-true (length h.made) rest f in
        let least = at_least far sent (length h.made) h.made bound in
        subst (λ (k : ℕ). confirmed_from (near + n) taken count ps ≤ k) (sym (over far sent rest h.made qs enough))
        (onward taken (rest - length h.made) found (omega (arith, r)) even (omega (arith, least, le)) (within far sent (length h.made) h.made bound))
    by_covered false f =
        let few = leb-false (length h.made) rest f in
        let more = at_least far sent rest (h.made ++ qs) bound in
        let less = onward taken 0 sent (omega (arith, r, few)) even le (omega (arith, bound)) in
        omega (arith, more, less)

    by_delivery : (v : Bool) → h.packet.delivery ≡ v → confirmed_from (near + n) (if v then near + n else taken) count ps ≤ confirmed_from far sent rest (h.made ++ qs)
    by_delivery false is = by_covered (nat_le (length h.made) rest) refl
    by_delivery true is =
        let all = among is in
        let ends = t.delivery is in
        let none : length between ≡ 0 = ap (λ (is : List Item). length is) ends.0 in
        let last = delivered far sent h.made ends.1 in
        subst (λ (k : ℕ). confirmed_from (near + n) (near + n) count ps ≤ k) (sym (over far sent rest h.made qs (omega (arith, all, r))))
        (onward (near + n) (rest - length h.made) found (omega (arith, r)) even (omega (arith, last, even, none)) (omega (arith, last)))

-- so it is of all of them
no_more : (hs : List Handled) (ps qs : List DataPacket) (left after : List Item) (covered place rest near taken far sent : ℕ) → AreTurned left hs after
    → AreCovered covered place hs → rest ≡ covered - place → near ≡ far + length left → taken ≤ sent → sent ≤ far
    → confirmed_from near taken (length hs) (packets_of hs ++ ps) ≤ confirmed_from far sent rest (made_of hs ++ qs)
no_more [] ps qs left after covered place rest near taken far sent t c r e le bound = let more = at_least far sent rest qs bound in omega arith
no_more (h ∷ hs) ps qs left after covered place rest near taken far sent t c r e le bound =
    subst (λ (ds : List DataPacket). confirmed_from near taken (suc (length hs)) (h.packet ∷ (packets_of hs ++ ps)) ≤ confirmed_from far sent rest ds) (sym (append_assoc h.made (made_of hs) qs))
    (one_more h (packets_of hs ++ ps) (made_of hs ++ qs) left t.0 covered place rest near taken far sent (length hs) t.1 c.0 r e le bound
    (λ now m then_ f even less most.
    no_more hs ps qs t.0 after covered (place + length h.made) m (near + length (items_of h.packet)) now (far + length (all_items h.made)) then_ t.2 c.1 f even less most))

turned_first : (before : List Item) (xs ys : List Handled) (after : List Item) → AreTurned before (xs ++ ys) after → (between : List Item) × AreTurned before xs between
turned_first before [] ys after t = (before, refl)
turned_first before (x ∷ xs) ys after t = let rest = turned_first t.0 xs ys after t.2 in (rest.0, (t.0, t.1, rest.1))

confirmed : (n f : Epoch) (left : List Item) → Carries (taken_part n) (sent_part f) left → confirmed_from 0 0 n.released n.taken ≤ confirmed_from 0 0 f.covered f.sent
confirmed n f left c =
    let front = turned_first [] c.out c.kept left c.turned in
    let less = no_more c.out (packets_of c.kept) (made_of c.kept) [] front.0 f.covered 0 f.covered 0 0 0 0 front.1 c.covered (omega arith) (omega arith) (omega arith) (omega arith) in
    subst (λ (k : ℕ). confirmed_from 0 0 k n.taken ≤ confirmed_from 0 0 f.covered f.sent) (sym c.released)
    (subst (λ (ps : List DataPacket). confirmed_from 0 0 (length c.out) ps ≤ confirmed_from 0 0 f.covered f.sent) (sym (packets_append c.out c.kept) ∙ c.taken)
    (subst (λ (qs : List DataPacket). confirmed_from 0 0 (length c.out) (packets_of c.out ++ packets_of c.kept) ≤ confirmed_from 0 0 f.covered qs) (sym (made_append c.out c.kept) ∙ c.made) less))

pub carries_has : (n f : Epoch) (left : List Item) → Carries (taken_part n) (sent_part f) left → Has (sent_confirmed (sent_of f)) (taken_confirmed (taken_of n))
carries_has n f left c = record {
  begins = record {
    items = record { rest = left; whole = sym (carried_items (taken_part n) (sent_part f) left c) };
    interrupts = record { rest = []; whole = append-nil f.interrupts_sent ∙ c.interrupts };
  };
  confirmed = confirmed n f left c;
}

-- where nothing was sent, nothing that was taken is confirmed
pub none_confirmed : (n : Epoch) (left : List Item) → Carries (taken_part n) nothing_sent left → (taken_confirmed (taken_of n)).items ≡ 0
none_confirmed n left c = let less = confirmed n empty_epoch left c in omega arith
