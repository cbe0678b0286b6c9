-- The rounds of relaying and offering come to an end: then no link takes a packet that its layer has.
use Rattle.std.proofs.Common.{◌≡◌, ℕ, zero, suc, ◌+◌, ◌-◌, ◌≤◌, ◌<◌, ◌⊎◌, inl, inr, Bool, true, false, cond, if◌then◌else◌, ◌||◌, List, [], ◌∷◌, ◌++◌, map, length, Option, Some, None, is_some, refl, sym, ap, ap₂, subst, ◌∙◌, true≢false, length-append, arith, nat_le}
use Rattle.std.specs.List.{list_any}
use Rattle.std.proofs.lemmas.Bool.{leb-true, leb-false}
use Rattle.lapb.specs.Machine.{Octets, Link, can_offer}
use Rattle.line_end.specs.End.{End}
use Rattle.data_transfer.specs.Traffic.{Taken}
use Rattle.packet_channel.specs.Channel.{Request}
use Rattle.packet_channel.specs.Channel.Request.{Taking, Releasing}
use Rattle.packet_layer.specs.Layer.{Next, next_packet}
use Rattle.packet_layer.specs.Events.{written_packet}
use Rattle.packet_end.specs.PacketEnd.{PacketEnd, offered, all_offered, with_next}
use Rattle.packet_end.proofs.Offering.{takes_none, longer, one_offered}
use Rattle.switch_joins.specs.Direction.{releasable}
use Rattle.switch_joins.specs.declared.channels.SwitchChannel.{SwitchChannel}
use Rattle.switch_joins.specs.Joins.{Joined}
use Rattle.switch_lines.specs.Lines.{SwitchLine, changed, joined_at, with_joined, ask, ask_all, front_at, sizes_at, takes_at}
use Rattle.switch_lines.specs.Relay.{carried_by, due_at, moved, moved_if, moved_front, moved_joined, relayed, relayed_from, places_first, relayed_first, most_moves}
use Rattle.switch_lines.specs.Switch.{with_end, may_offer, offering_from, offered_from, rounds}
use Rattle.switch_laws.proofs.Lists.{map_unchanged}
use Rattle.switch_joins.proofs.Apart.{and_both, decided}

-- ---- the relay changes no link

abbrev pub lines_of : List SwitchLine → List End
lines_of ls = map (λ l. l.end.line) ls

pub asked_lines : (p : SwitchChannel) (q : Request) (ls : List SwitchLine) → lines_of (ask p q ls) ≡ lines_of ls
asked_lines p q ls = map_unchanged (λ l. l.end.line) _ p.line ls (λ l. refl)

pub joined_lines : (p : SwitchChannel) (o : Option Joined) (ls : List SwitchLine) → lines_of (with_joined p o ls) ≡ lines_of ls
joined_lines p o ls = map_unchanged (λ l. l.end.line) _ p.line ls (λ l. refl)

asks_lines : (p : SwitchChannel) (qs : List Request) (ls : List SwitchLine) → lines_of (ask_all p qs ls) ≡ lines_of ls
asks_lines p [] ls = refl
asks_lines p (q ∷ qs) ls = asks_lines p qs (ask p q ls) ∙ asked_lines p q ls

if_lines : (b : Bool) (t : Taken) (p : SwitchChannel) (j : Joined) (ls : List SwitchLine) → lines_of (moved_if b t p j ls) ≡ lines_of ls
if_lines false t p j ls = refl
if_lines true t p j ls =
    joined_lines p _ _ ∙ (asked_lines p (Releasing (releasable (carried_by (sizes_at ls p j.other) t j.kept).held)) (ask_all j.other (due_at ls p j t) (ask p Taking ls))
    ∙ (asks_lines j.other (due_at ls p j t) (ask p Taking ls) ∙ asked_lines p Taking ls))

front_lines : (o : Option Taken) (p : SwitchChannel) (j : Joined) (ls : List SwitchLine) → lines_of (moved_front o p j ls) ≡ lines_of ls
front_lines None p j ls = refl
front_lines (Some t) p j ls = if_lines (takes_at ls j.other (due_at ls p j t)) t p j ls

moved_lines : (o : Option Joined) (p : SwitchChannel) (ls : List SwitchLine) → lines_of (moved_joined o p ls) ≡ lines_of ls
moved_lines None p ls = refl
moved_lines (Some j) p ls = front_lines (front_at ls p) p j ls

relayed_lines : (most : ℕ) (p : SwitchChannel) (ls : List SwitchLine) → lines_of (relayed most p ls) ≡ lines_of ls
relayed_lines zero p ls = refl
relayed_lines (suc most) p ls = relayed_lines most p (moved p ls) ∙ moved_lines (joined_at ls p) p ls

pub from_lines : (ps : List SwitchChannel) (ls : List SwitchLine) → lines_of (relayed_from ps ls) ≡ lines_of ls
from_lines [] ls = refl
from_lines (p ∷ ps) ls = from_lines ps (relayed most_moves p ls) ∙ relayed_lines most_moves p ls

pub first_lines : (first : List ℕ) (ls : List SwitchLine) → lines_of (relayed_first first ls) ≡ lines_of ls
first_lines first ls = from_lines (places_first first ls) ls

-- ---- places for packets that are left at the links

abbrev pub room : End → ℕ
room e = 7 - length e.link.queue

abbrev pub total : List End → ℕ
total [] = 0
total (e ∷ es) = room e + total es

abbrev pub Small : List End → Type 0
Small [] = Unit {0}
Small (e ∷ es) = (e.link.k ≤ 7) × Small es

offer_grows : (b : Bool) (queue : List Octets) (packet : Octets) → length queue ≤ length (if b then queue ++ packet ∷ [] else queue)
offer_grows true queue packet = let e = length-append queue (packet ∷ []) in omega arith
offer_grows false queue packet = omega arith

-- what an end has after it was offered packets, against what it had
pub record Grows (e f : PacketEnd) : Type 0 where
  pub k : f.line.link.k ≡ e.line.link.k
  pub queue : length e.line.link.queue ≤ length f.line.link.queue

grows_same : (e : PacketEnd) → Grows e e
grows_same e = record { k = refl; queue = omega arith }

grows_next : (e f : PacketEnd) (n : Next) → Grows (with_next e n) f → Grows e f
grows_next e f n g =
    let more = offer_grows (can_offer e.line.link) e.line.link.queue (written_packet e.layer.flow n.packet []) in
    let queue = g.queue in
    record { k = g.k; queue = omega arith }

by_bool : {X : Type 0} (P : X → Type 0) (b : Bool) (x y : X) → P x → P y → P (cond b x y)
by_bool P true x y f g = f
by_bool P false x y f g = g

pub grows : (most : ℕ) (e : PacketEnd) → Grows e (offered most e)
grows zero e = grows_same e
grows (suc most) e =
    by_bool (λ (f : PacketEnd). Grows e f) (can_offer e.line.link) _ _
    (by_bool (λ (f : PacketEnd). Grows e f) (is_some (next_packet e.layer).packet) _ _ (grows_next e _ (next_packet e.layer) (grows most (with_next e (next_packet e.layer)))) (grows_same e)) (grows_same e)

-- one that may be offered fills a place
fills : (e : PacketEnd) → can_offer e.line.link ≡ true → is_some (next_packet e.layer).packet ≡ true → length e.line.link.queue + 1 ≤ length (offered 7 e).line.link.queue
fills e may has =
    let first = longer e.line.link (written_packet e.layer.flow (next_packet e.layer).packet []) (length e.line.link.queue) may (omega arith) in
    let later = (grows 6 (with_next e (next_packet e.layer))).queue in
    let same = ap (λ (f : PacketEnd). length f.line.link.queue) (one_offered 7 0 e (omega arith) may has) in
    omega arith

has_room : (l : Link) → l.k ≤ 7 → can_offer l ≡ true → length l.queue < 7
has_room l small may = by_size (decided (nat_le l.k (length l.queue)))
  where
    by_size : (nat_le l.k (length l.queue) ≡ true) ⊎ (nat_le l.k (length l.queue) ≡ false) → length l.queue < 7
    by_size (inl full) = absurd (true≢false (sym may ∙ takes_none l (leb-true l.k (length l.queue) full)))
    by_size (inr less) = let lt = leb-false l.k (length l.queue) less in omega arith

-- ---- all lines

abbrev pub offers_line : SwitchLine → SwitchLine
offers_line l = record l { end = offered 7 l.end }

no_more : (ls : List SwitchLine) → total (lines_of (map offers_line ls)) ≤ total (lines_of ls)
no_more [] = omega arith
no_more (l ∷ ls) =
    let one = (grows 7 l.end).queue in
    let rest = no_more ls in
    omega arith

still_small : (ls : List SwitchLine) → Small (lines_of ls) → Small (lines_of (map offers_line ls))
still_small [] s = tt
still_small (l ∷ ls) s = (subst (λ (k : ℕ). k ≤ 7) (sym (grows 7 l.end).k) s.0, still_small ls s.1)

abbrev pub any_may : List SwitchLine → Bool
any_may ls = list_any may_offer ls

fewer : (ls : List SwitchLine) → Small (lines_of ls) → any_may ls ≡ true → total (lines_of (map offers_line ls)) < total (lines_of ls)
fewer [] s e = absurd (true≢false (sym e))
fewer (l ∷ ls) s e = by_line (may_offer l) refl e (λ f. fewer ls s.1 f)
  where
    by_line : (b : Bool) → may_offer l ≡ b → (b || any_may ls) ≡ true → (any_may ls ≡ true → total (lines_of (map offers_line ls)) < total (lines_of ls))
        → total (lines_of (map offers_line (l ∷ ls))) < total (lines_of (l ∷ ls))
    by_line true may e onward =
        let both = and_both (can_offer l.end.line.link) (is_some (next_packet l.end.layer).packet) may in
        let one = fills l.end both.0 both.1 in
        let free = has_room l.end.line.link s.0 both.0 in
        let rest = no_more ls in
        omega arith
    by_line false may e onward =
        let one = (grows 7 l.end).queue in
        let rest = onward e in
        omega arith

-- the lines one after the other are all of them
shifted : (count n : ℕ) (l : SwitchLine) (ls : List SwitchLine) → offered_from count (suc n) (l ∷ ls) ≡ l ∷ offered_from count n ls
shifted zero n l ls = refl
shifted (suc count) n l ls = shifted count (suc n) l (changed n (with_end all_offered) ls)

offered_line : (l : SwitchLine) → with_end all_offered l ≡ offers_line l
unfolding all_offered
offered_line l = refl

pub in_turn : (ls : List SwitchLine) → offered_from (length ls) 0 ls ≡ map offers_line ls
in_turn [] = refl
in_turn (l ∷ ls) = shifted (length ls) 0 (with_end all_offered l) ls ∙ ap₂ (λ (x : SwitchLine) (xs : List SwitchLine). x ∷ xs) (offered_line l) (in_turn ls)

-- ---- rounds

same_length : (ls ms : List SwitchLine) → lines_of ls ≡ lines_of ms → length ls ≡ length ms
same_length ls ms e = sym (counted ls) ∙ (ap (λ (es : List End). length es) e ∙ counted ms)
  where
    counted : (ks : List SwitchLine) → length (lines_of ks) ≡ length ks
    counted [] = refl
    counted (k ∷ ks) = ap (λ (n : ℕ). suc n) (counted ks)

-- so many lines as there were before the relay are all
pub offers_all : (ls ms : List SwitchLine) → lines_of ms ≡ lines_of ls → offered_from (length ls) 0 ms ≡ map offers_line ms
offers_all ls ms e = ap (λ (k : ℕ). offered_from k 0 ms) (sym (same_length ms ls e)) ∙ in_turn ms

none_left : (ls : List SwitchLine) → Small (lines_of ls) → total (lines_of ls) ≤ 0 → any_may ls ≡ false
none_left ls s le = by_any (any_may ls) refl
  where
    by_any : (b : Bool) → any_may ls ≡ b → any_may ls ≡ false
    by_any false e = e
    by_any true e = let less = fewer ls s e in absurd (omega arith)

rounds_by : (b : Bool) (most : ℕ) (next : List ℕ) (ms ks : List SwitchLine) → any_may ms ≡ b
    → (b ≡ true → any_may (rounds most next ks) ≡ false) → any_may (if b then rounds most next ks else ms) ≡ false
rounds_by true most next ms ks e more = more refl
rounds_by false most next ms ks e more = e

pub rounds_offer : (most : ℕ) (first : List ℕ) (ls : List SwitchLine) → Small (lines_of ls) → total (lines_of ls) ≤ most → any_may (rounds most first ls) ≡ false
rounds_offer zero first ls s le =
    none_left (relayed_first first ls) (subst (λ (es : List End). Small es) (sym (first_lines first ls)) s) (subst (λ (es : List End). total es ≤ 0) (sym (first_lines first ls)) le)
rounds_offer (suc most) first ls s le =
    rounds_by (any_may ms) most (offering_from 0 ms) ms (offered_from (length ls) 0 ms) refl (λ e. onward e (λ ks t u. rounds_offer most (offering_from 0 ms) ks t u))
  where
    ms : List SwitchLine
    ms = relayed_first first ls

    small : Small (lines_of ms)
    small = subst (λ (es : List End). Small es) (sym (first_lines first ls)) s

    onward : any_may ms ≡ true → ((ks : List SwitchLine) → Small (lines_of ks) → total (lines_of ks) ≤ most → any_may (rounds most (offering_from 0 ms) ks) ≡ false)
        → any_may (rounds most (offering_from 0 ms) (offered_from (length ls) 0 ms)) ≡ false
    onward e more =
        let less = fewer ms small e in
        let same = ap (λ (es : List End). total es) (first_lines first ls) in
        let is = offers_all ls ms (first_lines first ls) in
        subst (λ (ks : List SwitchLine). any_may (rounds most (offering_from 0 ms) ks) ≡ false) (sym is) (more (map offers_line ms) (still_small ms small) (omega arith))
