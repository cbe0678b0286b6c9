-- What the switch keeps of a direction stays right when a packet is sent on, covered, released.
use Rattle.std.proofs.Common.{◌≡◌, ℕ, zero, suc, ◌+◌, ◌-◌, ◌<◌, ◌≤◌, Bool, true, false, if◌then◌else◌, List, [], ◌∷◌, ◌++◌, length, map, take, refl, sym, ap, ap₂, subst, ◌∙◌, append_assoc, append-nil, length-append, arith, true≢false}
use Rattle.epochs.specs.Item.{Item, items_of, all_items}
use Rattle.epochs.proofs.Prefixes.{all_items-append}
use Rattle.data_transfer.specs.Packets.{Datum}
use Rattle.switch_joins.specs.Turning.{Sizes, Gathered, Turn, turned, items_gathered}
use Rattle.switch_joins.specs.Direction.{Direction, new_direction, more_sent, carried, covered_by, releasable, unreleasable, released}
use Rattle.switch_joins.proofs.Turning.{turned_items, turned_delivery}
use Rattle.switch_laws.proofs.Sequences.{turned_only}
use Rattle.switch_laws.specs.Clause.{Handled, packets_of, made_of, Turned, AreTurned, TakenPart, SentPart, Carries, AreCovered, needs, IsDirection}

-- ---- packets that were handled

pub packets_append : (xs ys : List Handled) → packets_of (xs ++ ys) ≡ packets_of xs ++ packets_of ys
packets_append [] ys = refl
packets_append (x ∷ xs) ys = ap (λ ds. x.packet ∷ ds) (packets_append xs ys)

packets_length : (hs : List Handled) → length (packets_of hs) ≡ length hs
packets_length [] = refl
packets_length (h ∷ hs) = ap (λ (n : ℕ). suc n) (packets_length hs)

pub made_append : (xs ys : List Handled) → made_of (xs ++ ys) ≡ made_of xs ++ made_of ys
made_append [] ys = refl
made_append (x ∷ xs) ys = ap (λ ds. x.made ++ ds) (made_append xs ys) ∙ sym (append_assoc x.made (made_of xs) (made_of ys))

made_length : (xs ys : List Handled) → length (made_of (xs ++ ys)) ≡ length (made_of xs) + length (made_of ys)
made_length xs ys = ap (λ (ds : List Datum). length ds) (made_append xs ys) ∙ length-append (made_of xs) (made_of ys)

-- no item is lost, and none is made
handled_items : (before : List Item) (hs : List Handled) (after : List Item) → AreTurned before hs after → before ++ all_items (packets_of hs) ≡ all_items (made_of hs) ++ after
handled_items before [] after t = append-nil before ∙ t
handled_items before (h ∷ hs) after t =
    sym (append_assoc before (items_of h.packet) (all_items (packets_of hs))) ∙ ap (λ is. is ++ all_items (packets_of hs)) t.1.items
    ∙ append_assoc (all_items h.made) t.0 (all_items (packets_of hs)) ∙ ap (λ is. all_items h.made ++ is) (handled_items t.0 hs after t.2)
    ∙ sym (append_assoc (all_items h.made) (all_items (made_of hs)) after) ∙ ap (λ is. is ++ after) (sym (all_items-append h.made (made_of hs)))

pub carried_items : (n : TakenPart) (f : SentPart) (left : List Item) → Carries n f left → all_items n.packets ≡ all_items f.packets ++ left
carried_items n f left c =
    ap (λ (ds : List Datum). all_items ds) (sym c.taken) ∙ handled_items [] (c.out ++ c.kept) left c.turned ∙ ap (λ (ds : List Datum). all_items ds ++ left) c.made

turned_more : (before : List Item) (hs : List Handled) (h : Handled) (between after : List Item) → AreTurned before hs between → Turned between h after → AreTurned before (hs ++ h ∷ []) after
turned_more before [] h between after e t = (after, subst (λ (is : List Item). Turned is h after) (sym e) t, refl)
turned_more before (x ∷ hs) h between after e t = (e.0, e.1, turned_more e.0 hs h between after e.2 t)

-- what a packet makes due has its items, and D if it has
turns : (sizes : Sizes) (g : Gathered) (d : Datum)
    → Turned (items_gathered g) (record { packet = d; made = (turned sizes g d).made }) (items_gathered (turned sizes g d).left)
turns sizes g d = record {
  items = turned_items sizes g d;
  delivery = λ e. let ends = turned_delivery sizes g d e in (ends.0, record { front = ends.1; last = ends.2; parts = ends.3; delivery = ends.4 });
  no_other = turned_only sizes g d;
}

taken_length : (n : TakenPart) (f : SentPart) (left : List Item) → (c : Carries n f left) → length c.out + length c.kept ≡ length n.packets
taken_length n f left c = sym (length-append c.out c.kept) ∙ sym (packets_length (c.out ++ c.kept)) ∙ ap (λ (l : List Datum). length l) c.taken

-- nothing that was taken makes nothing due
pub none_made : (n : TakenPart) (f : SentPart) (left : List Item) → Carries n f left → n.packets ≡ [] → f.packets ≡ []
none_made n f left c none = sym c.made ∙ ap made_of (nothing (c.out ++ c.kept) (c.taken ∙ none))
  where
    nothing : (hs : List Handled) → packets_of hs ≡ [] → hs ≡ []
    nothing [] e = refl
    nothing (h ∷ hs) e = cc

-- ---- what is to be covered

needs_append : (c i : ℕ) (xs ys : List Handled) → needs c i (xs ++ ys) ≡ needs c i xs ++ needs c (i + length (made_of xs)) ys
needs_append c i [] ys = let same : i ≡ i + 0 = omega arith in ap (λ (k : ℕ). needs c k ys) same
needs_append c i (x ∷ xs) ys =
    let size = length-append x.made (made_of xs) in
    let same : i + length x.made + length (made_of xs) ≡ i + length (x.made ++ made_of xs) = omega arith in
    ap (λ l. (if x.packet.delivery then i + length x.made - c else 0) ∷ l) (needs_append c (i + length x.made) xs ys ∙ ap (λ k. needs c (i + length x.made) xs ++ needs c k ys) same)

needs_length : (c i : ℕ) (hs : List Handled) → length (needs c i hs) ≡ length hs
needs_length c i [] = refl
needs_length c i (h ∷ hs) = ap (λ (n : ℕ). suc n) (needs_length c (i + length h.made) hs)

less_again : (b : Bool) (p c n : ℕ) → (if b then p - c else 0) - n ≡ (if b then p - (c + n) else 0)
less_again true p c n = omega arith
less_again false p c n = omega arith

needs_covered : (n c i : ℕ) (xs : List Handled) → map (λ h. h - n) (needs c i xs) ≡ needs (c + n) i xs
needs_covered n c i [] = refl
needs_covered n c i (x ∷ xs) = ap₂ (λ (h : ℕ) (l : List ℕ). h ∷ l) (less_again x.packet.delivery (i + length x.made) c n) (needs_covered n c (i + length x.made) xs)

covered_more : (n c i : ℕ) (xs : List Handled) → AreCovered c i xs → AreCovered (c + n) i xs
covered_more n c i [] a = tt
covered_more n c i (x ∷ xs) a = (λ m. let le = a.0 m in omega arith, covered_more n c (i + length x.made) xs a.1)

covered_append : (c i : ℕ) (xs ys : List Handled) → AreCovered c i xs → AreCovered c (i + length (made_of xs)) ys → AreCovered c i (xs ++ ys)
covered_append c i [] ys a b = let same : i + 0 ≡ i = omega arith in subst (λ (k : ℕ). AreCovered c k ys) same b
covered_append c i (x ∷ xs) ys a b =
    let size = length-append x.made (made_of xs) in
    let same : i + length (x.made ++ made_of xs) ≡ i + length x.made + length (made_of xs) = omega arith in
    (a.0, covered_append c (i + length x.made) xs ys a.1 (subst (λ (k : ℕ). AreCovered c k ys) same b))

-- ---- nothing yet

pub direction_begins : IsDirection new_direction (record { packets = []; interrupts = []; released = 0 }) (record { packets = []; interrupts = []; covered = 0 })
direction_begins = record {
  carries = record { out = []; kept = []; taken = refl; made = refl; turned = refl; interrupts = refl; released = refl; covered = tt };
  outstanding = refl;
  octet = omega arith;
  held = refl;
}

-- ---- sent on

pub direction_interrupts : (octets : List ℕ) (v : Direction) (n : TakenPart) (f : SentPart) → IsDirection v n f
    → IsDirection v (record n { interrupts = n.interrupts ++ octets ∷ [] }) (record f { interrupts = f.interrupts ++ octets ∷ [] })
direction_interrupts octets v n f i =
    let k = i.carries in
    record {
      carries = record { out = k.out; kept = k.kept; taken = k.taken; made = k.made; turned = k.turned; interrupts = ap (λ (l : List (List ℕ)). l ++ octets ∷ []) k.interrupts; released = k.released; covered = k.covered };
      outstanding = i.outstanding;
      octet = i.octet;
      held = i.held;
    }

-- there is a place for one packet more
kept_whole : (n : ℕ) (hs : List ℕ) → length hs ≤ n → take n hs ≡ hs
kept_whole zero [] le = refl
kept_whole zero (h ∷ hs) le = absurd (omega arith)
kept_whole (suc n) [] le = refl
kept_whole (suc n) (h ∷ hs) le = ap (λ ks. h ∷ ks) (kept_whole n hs (omega arith))

carried_whole : (delivery : Bool) (turn : Turn) (v : Direction) → length v.held < 32 → v.outstanding + length turn.made ≤ 255 →
    carried delivery turn v
    ≡ record {
      held = v.held ++ (if delivery then v.outstanding + length turn.made else 0) ∷ [];
      outstanding = v.outstanding + length turn.made;
      gathered = turn.left;
    }
carried_whole delivery turn v few room =
    let after = more_sent (length turn.made) v.outstanding in
    let more : after ≡ v.outstanding + length turn.made = omega (arith, room) in
    let size = length-append v.held ((if delivery then after else 0) ∷ []) in
    ap (λ (hs : List ℕ). record { held = hs; outstanding = after; gathered = turn.left })
    (kept_whole 32 (v.held ++ (if delivery then after else 0) ∷ []) (omega arith))
    ∙ ap (λ (n : ℕ). record { held = v.held ++ (if delivery then n else 0) ∷ []; outstanding = n; gathered = turn.left }) more

carries_more : (d : Datum) (turn : Turn) (v : Direction) (n : TakenPart) (f : SentPart) → v.outstanding + length turn.made ≤ 255
    → Turned (items_gathered v.gathered) (record { packet = d; made = turn.made }) (items_gathered turn.left) → IsDirection v n f
    → IsDirection (record {
      held = v.held ++ (if d.delivery then v.outstanding + length turn.made else 0) ∷ [];
      outstanding = v.outstanding + length turn.made;
      gathered = turn.left;
    }) (record n { packets = n.packets ++ d ∷ [] }) (record f { packets = f.packets ++ turn.made })
carries_more d turn v n f room t i =
    let k = i.carries in
    let h : Handled = record { packet = d; made = turn.made } in
    let more = length-append f.packets turn.made in
    let sent : length (made_of k.out) + length (made_of k.kept) ≡ length f.packets = sym (made_length k.out k.kept) ∙ ap (λ (l : List Datum). length l) k.made in
    let left = i.outstanding in
    let place : v.outstanding + length turn.made ≡ length (made_of k.out) + length (made_of k.kept) + length turn.made - f.covered = omega arith in
    let whole : (k.out ++ k.kept) ++ h ∷ [] ≡ k.out ++ (k.kept ++ h ∷ []) = append_assoc k.out k.kept (h ∷ []) in
    record {
      carries = record {
        out = k.out;
        kept = k.kept ++ h ∷ [];
        taken = ap packets_of (sym whole) ∙ packets_append (k.out ++ k.kept) (h ∷ []) ∙ ap (λ (l : List Datum). l ++ d ∷ []) k.taken;
        made = ap made_of (sym whole) ∙ made_append (k.out ++ k.kept) (h ∷ []) ∙ ap₂ (λ (l ds : List Datum). l ++ ds) k.made (append-nil turn.made);
        turned = subst (λ (hs : List Handled). AreTurned [] hs (items_gathered turn.left)) whole
            (turned_more [] (k.out ++ k.kept) h (items_gathered v.gathered) (items_gathered turn.left) k.turned t);
        interrupts = k.interrupts;
        released = k.released;
        covered = k.covered;
      };
      outstanding = omega arith;
      octet = room;
      held = ap₂ (λ (hs : List ℕ) (p : ℕ). hs ++ (if d.delivery then p else 0) ∷ []) i.held place ∙ sym (needs_append f.covered (length (made_of k.out)) k.kept (h ∷ []));
    }

pub direction_carries : (sizes : Sizes) (d : Datum) (v : Direction) (n : TakenPart) (f : SentPart) → length n.packets < n.released + 32
    → v.outstanding + length (turned sizes v.gathered d).made ≤ 255 → IsDirection v n f
    → IsDirection (carried d.delivery (turned sizes v.gathered d) v) (record n { packets = n.packets ++ d ∷ [] })
    (record f { packets = f.packets ++ (turned sizes v.gathered d).made })
direction_carries sizes d v n f few room i =
    let turn = turned sizes v.gathered d in
    let size : length v.held ≡ length i.carries.kept = ap (λ (hs : List ℕ). length hs) i.held ∙ needs_length f.covered (length (made_of i.carries.out)) i.carries.kept in
    let whole = taken_length n f (items_gathered v.gathered) i.carries in
    let out = i.carries.released in
    subst (λ (w : Direction). IsDirection w (record n { packets = n.packets ++ d ∷ [] }) (record f { packets = f.packets ++ turn.made }))
    (sym (carried_whole d.delivery turn v (omega arith) room)) (carries_more d turn v n f room (turns sizes v.gathered d) i)

-- ---- covered

pub direction_covered : (more : ℕ) (v : Direction) (n : TakenPart) (f : SentPart) → f.covered + more ≤ length f.packets → IsDirection v n f
    → IsDirection (covered_by more v) n (record f { covered = f.covered + more })
direction_covered more v n f le i =
    let k = i.carries in
    let left = i.outstanding in
    record {
      carries = record { out = k.out; kept = k.kept; taken = k.taken; made = k.made; turned = k.turned; interrupts = k.interrupts; released = k.released; covered = covered_more more f.covered 0 k.out k.covered };
      outstanding = omega arith;
      octet = let octet = i.octet in omega arith;
      held = ap (λ (l : List ℕ). map (λ h. h - more) l) i.held ∙ needs_covered more f.covered (length (made_of k.out)) k.kept;
    }

-- ---- released

-- the first packets of those kept, which may be released, and the others
record Split (c i : ℕ) (kept : List Handled) (hs : List ℕ) : Type 0 where
  first : List Handled
  rest : List Handled
  parts : first ++ rest ≡ kept
  count : releasable hs ≡ length first
  covered : AreCovered c i first
  left : unreleasable hs ≡ needs c (i + length (made_of first)) rest

due : (b : Bool) (p c : ℕ) → (if b then p - c else 0) ≡ 0 → b ≡ true → p ≤ c
due true p c e m = omega arith
due false p c e m = absurd (true≢false (sym m))

split_head : (c i : ℕ) (x : Handled) (xs : List Handled) (h : ℕ) → (if x.packet.delivery then i + length x.made - c else 0) ≡ h → Split c (i + length x.made) xs (needs c (i + length x.made) xs)
    → Split c i (x ∷ xs) (h ∷ needs c (i + length x.made) xs)
split_head c i x xs zero e s =
    let size = length-append x.made (made_of s.first) in
    let same : i + length x.made + length (made_of s.first) ≡ i + length (x.made ++ made_of s.first) = omega arith in
    record {
      first = x ∷ s.first;
      rest = s.rest;
      parts = ap (λ (l : List Handled). x ∷ l) s.parts;
      count = ap (λ (k : ℕ). suc k) s.count;
      covered = (due x.packet.delivery (i + length x.made) c e, s.covered);
      left = s.left ∙ ap (λ (k : ℕ). needs c k s.rest) same;
    }
split_head c i x xs (suc h) e s =
    let same : i ≡ i + 0 = omega arith in
    record {
      first = [];
      rest = x ∷ xs;
      parts = refl;
      count = refl;
      covered = tt;
      left = ap (λ (k : ℕ). k ∷ needs c (i + length x.made) xs) (sym e) ∙ ap (λ (k : ℕ). needs c k (x ∷ xs)) same;
    }

split : (c i : ℕ) (hs : List Handled) → Split c i hs (needs c i hs)
split c i [] = record { first = []; rest = []; parts = refl; count = refl; covered = tt; left = refl }
split c i (x ∷ xs) = split_head c i x xs _ refl (split c (i + length x.made) xs)

pub direction_released : (v : Direction) (n : TakenPart) (f : SentPart) → IsDirection v n f
    → IsDirection (released v) (record n { released = n.released + releasable v.held }) f
direction_released v n f i =
    let k = i.carries in
    let place = length (made_of k.out) in
    let s : Split f.covered place k.kept v.held = subst (λ (hs : List ℕ). Split f.covered place k.kept hs) (sym i.held) (split f.covered place k.kept) in
    let some = s.count in
    let out = k.released in
    let more = length-append k.out s.first in
    let size = made_length k.out s.first in
    let first : place ≡ 0 + place = omega arith in
    let next : place + length (made_of s.first) ≡ length (made_of (k.out ++ s.first)) = omega arith in
    let whole : (k.out ++ s.first) ++ s.rest ≡ k.out ++ k.kept = append_assoc k.out s.first s.rest ∙ ap (λ (l : List Handled). k.out ++ l) s.parts in
    record {
      carries = record {
        out = k.out ++ s.first;
        kept = s.rest;
        taken = ap packets_of whole ∙ k.taken;
        made = ap made_of whole ∙ k.made;
        turned = subst (λ (hs : List Handled). AreTurned [] hs (items_gathered v.gathered)) (sym whole) k.turned;
        interrupts = k.interrupts;
        released = omega arith;
        covered = covered_append f.covered 0 k.out s.first k.covered (subst (λ (j : ℕ). AreCovered f.covered j s.first) first s.covered);
      };
      outstanding = i.outstanding;
      octet = i.octet;
      held = s.left ∙ ap (λ (j : ℕ). needs f.covered j s.rest) next;
    }

-- no more may be released than was taken and is not released
pub releasable_within : (v : Direction) (n : TakenPart) (f : SentPart) → IsDirection v n f → n.released + releasable v.held ≤ length n.packets
releasable_within v n f i =
    let k = (direction_released v n f i).carries in
    let out : n.released + releasable v.held ≡ length k.out = k.released in
    let whole = taken_length (record n { released = n.released + releasable v.held }) f (items_gathered v.gathered) k in
    omega arith

pub releasable_none : (hs : List ℕ) → releasable (unreleasable hs) ≡ 0
releasable_none [] = refl
releasable_none (zero ∷ hs) = releasable_none hs
releasable_none (suc h ∷ hs) = refl
