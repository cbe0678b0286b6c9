-- Packets that go from the packet layer to the link: one at a time, and none is kept back.
use Rattle.std.proofs.Common.{◌≡◌, ℕ, zero, suc, ◌+◌, ◌-◌, ◌<◌, ◌≤◌, Bool, true, false, cond, List, [], ◌∷◌, length, refl, sym, ap, ◌∙◌, arith, inl, inr, length-append}
use borrow.Author.Tests.{le-leb, lt-leb, leb-false, lt-ltb}
use Rattle.std.specs.Prelude.{Option, Some, None, is_some, not, ◌⊎◌, ◌&&◌, nat_lt}
use Rattle.lapb.specs.declared.phase.Phase.{Phase}
use Rattle.lapb.specs.Machine.{Octets, Link, can_offer, is_up, is_full, settle_in, send_all, sendable, offer}
use Rattle.data_transfer.specs.Packets.{Body, Packet}
use Rattle.packet_channel.specs.Channel.{Channel}
use Rattle.packet_layer.specs.Layer.{Layer, Next, channel_of, next_of, next_number, serve, serve_found, served, next_restart, next_in, next_packet}
use Rattle.packet_layer.specs.Layer as machine
use Rattle.packet_layer.specs.Events.{written_packet}
use Rattle.packet_layer.proofs.Unsent.{layer_said_all, layer_says_none}
use Rattle.packet_end.specs.PacketEnd.{PacketEnd, offered, all_offered, with_next, settled, relinked, relinked_if_due, HasOfferedAll}

-- ---- whether a relink is asked for stays

served_relink : (l : Layer) (c : ℕ) (ch : Channel) (b : Option Body) (others : Next) → others.layer.relink ≡ l.relink →
    (served l c (record { channel = ch; body = b }) others).layer.relink ≡ l.relink
served_relink l c ch None others rest = rest
served_relink l c ch (Some b) others rest = refl

found_relink : (l : Layer) (c : ℕ) (found : Option Channel) (others : Next) → others.layer.relink ≡ l.relink →
    (serve_found l c found others).layer.relink ≡ l.relink
found_relink l c None others rest = rest
found_relink l c (Some ch) others rest =
    served_relink l c (next_of l.flow ch).channel (next_of l.flow ch).body others rest

serve_relink : (count : ℕ) (l : Layer) (c : ℕ) → (serve count l c).layer.relink ≡ l.relink
serve_relink zero l c = refl
serve_relink (suc count) l c =
    found_relink l c (channel_of l c) (serve count l (next_number l c)) (serve_relink count l (next_number l c))

restart_relink : (owed : List Body) (l : Layer) → (next_restart owed l).layer.relink ≡ l.relink
restart_relink (b ∷ bs) l = refl
restart_relink [] l = serve_relink (length l.channels) l (next_number l l.served_last)

in_relink : (phase : machine.Phase) (relink : Bool) (l : Layer) → (next_in phase relink l).layer.relink ≡ l.relink
in_relink machine.Phase.NoSession relink l = refl
in_relink machine.Phase.OwnRestart true l = refl
in_relink machine.Phase.OwnRestart false l = restart_relink l.owed l
in_relink machine.Phase.PacketReady true l = refl
in_relink machine.Phase.PacketReady false l = restart_relink l.owed l

-- ---- one packet more

cond_same : (b : Bool) (e : PacketEnd) → cond b e e ≡ e
cond_same true e = refl
cond_same false e = refl

pub no_room : (most : ℕ) (e : PacketEnd) → can_offer e.line.link ≡ false → offered most e ≡ e
no_room zero e room = refl
no_room (suc most) e room = rw room refl

pub no_packet : (most : ℕ) (e : PacketEnd) → is_some (next_packet e.layer).packet ≡ false → offered most e ≡ e
no_packet zero e silent = refl
no_packet (suc most) e silent = rw silent (cond_same (can_offer e.line.link) e)

both : (room says : Bool) (next e : PacketEnd) → room ≡ true → says ≡ true → cond room (cond says next e) e ≡ next
both true true next e room_is says_is = refl
both true false next e room_is says_is = absurd (cc)
both false says next e room_is says_is = absurd (cc)

one_more : (most left : ℕ) (e : PacketEnd) → most ≡ suc left → can_offer e.line.link ≡ true → is_some (next_packet e.layer).packet ≡ true →
    offered most e ≡ offered left (with_next e (next_packet e.layer))
one_more zero left e is room says = absurd (omega arith)
one_more (suc most) left e is room says =
    let same : most ≡ left = omega arith in
    both (can_offer e.line.link) (is_some (next_packet e.layer).packet) (offered most (with_next e (next_packet e.layer))) e room says
    ∙ ap (λ n. offered n (with_next e (next_packet e.layer))) same

pub one_offered : (most count : ℕ) (e : PacketEnd) → count < most → can_offer e.line.link ≡ true →
    is_some (next_packet e.layer).packet ≡ true →
    offered (most - (count + 1)) (with_next e (next_packet e.layer)) ≡ offered (most - count) e
one_offered most count e within room says = sym (one_more (most - count) (most - (count + 1)) e (omega arith) room says)

-- ---- whether any packet is offered

abbrev pub may_offer : PacketEnd → Bool
may_offer e = can_offer e.line.link && is_some (next_packet e.layer).packet

both_true : (a b : Bool) → (a && b) ≡ true → (a ≡ true) × (b ≡ true)
both_true true true h = (refl, refl)
both_true true false h = absurd (cc)
both_true false b h = absurd (cc)

neither : (room says : Bool) (next e : PacketEnd) → (room && says) ≡ false → cond room (cond says next e) e ≡ e
neither true true next e h = absurd (cc)
neither true false next e h = refl
neither false says next e h = refl

pub none_offered : (most : ℕ) (e : PacketEnd) → may_offer e ≡ false → offered most e ≡ e
none_offered zero e none = refl
none_offered (suc most) e none =
    neither (can_offer e.line.link) (is_some (next_packet e.layer).packet) (offered most (with_next e (next_packet e.layer))) e none

next_offered : (e : PacketEnd) → may_offer e ≡ true → offered 1 e ≡ with_next e (next_packet e.layer)
next_offered e may =
    let h = both_true (can_offer e.line.link) (is_some (next_packet e.layer).packet) may in
    both (can_offer e.line.link) (is_some (next_packet e.layer).packet) (with_next e (next_packet e.layer)) e h.0 h.1

pub offered_notes : (e : PacketEnd) → (offered 1 e).notes ≡ e.notes
offered_notes e = go (can_offer e.line.link) (is_some (next_packet e.layer).packet)
  where
    go : (room says : Bool) → (cond room (cond says (with_next e (next_packet e.layer)) e) e).notes ≡ e.notes
    go true true = refl
    go true false = refl
    go false says = refl

pub may_before : (count : ℕ) (e old : PacketEnd) → (count ≡ 0 → e ≡ old) → (1 ≤ count → may_offer old ≡ true) → may_offer e ≡ true → may_offer old ≡ true
may_before zero e old begins some may = sym (ap may_offer (begins refl)) ∙ may
may_before (suc count) e old begins some may = some (omega arith)

pub may_counted : (count : ℕ) (e old : PacketEnd) → (count ≡ 0 → e ≡ old) → (1 ≤ count → may_offer old ≡ true) → may_offer e ≡ false → nat_lt 0 count ≡ may_offer old
may_counted zero e old begins some may = sym (sym (ap may_offer (begins refl)) ∙ may)
may_counted (suc count) e old begins some may = lt-ltb 0 (suc count) (omega arith) ∙ sym (some (omega arith))

-- ---- what is left of the packets that are offered at most, once so many were

pub left_after : (count : ℕ) → PacketEnd → PacketEnd
left_after count e = offered (7 - count) e

pub left_at_first : (e : PacketEnd) → left_after 0 e ≡ all_offered e
unfolding left_after all_offered
left_at_first e = refl

pub left_more : (count : ℕ) (e : PacketEnd) → count < 7 → may_offer e ≡ true → left_after (count + 1) (offered 1 e) ≡ left_after count e
unfolding left_after
left_more count e h may =
    let is = both_true (can_offer e.line.link) (is_some (next_packet e.layer).packet) may in
    ap (λ (x : PacketEnd). offered (7 - (count + 1)) x) (next_offered e may) ∙ one_offered 7 count e h is.0 is.1

pub left_none : (count : ℕ) (e : PacketEnd) → may_offer e ≡ false → left_after count e ≡ e
unfolding left_after
left_none count e none = none_offered (7 - count) e none

pub left_over : (count : ℕ) (e : PacketEnd) → 7 ≤ count → left_after count e ≡ e
unfolding left_after
left_over count e over =
    let none : 7 - count ≡ 0 = omega (arith, over) in
    ap (λ n. offered n e) none

-- ---- nothing is kept back

and_false : (b : Bool) → (b && false) ≡ false
and_false true = refl
and_false false = refl

pub takes_none : (l : Link) → l.k ≤ length l.queue → can_offer l ≡ false
takes_none l full = rw (le-leb l.k (length l.queue) full) (and_false (is_up l.phase))

pub longer : (l : Link) (packet : Octets) (count : ℕ) → can_offer l ≡ true → count ≤ length l.queue → count + 1 ≤ length (offer l packet).queue
longer l packet count room within = rw room (omega (arith, length-append l.queue (packet ∷ []), within))

pub silent_all_offered : (e : PacketEnd) → is_some (next_packet e.layer).packet ≡ false → HasOfferedAll e
silent_all_offered e silent up room = layer_said_all e.layer silent

-- a link takes a packet exactly if it is up and has fewer than k
has_room : (l : Link) → l.phase ≡ Phase.Up → length l.queue < l.k → can_offer l ≡ true
has_room l up room =
    ap (λ (phase : Phase). is_up phase && not (is_full l)) up ∙ ap (λ (b : Bool). not b) (lt-leb l.k (length l.queue) room)

up_is : (phase : Phase) → is_up phase ≡ true → phase ≡ Phase.Up
up_is Phase.Up h = refl
up_is Phase.Down h = absurd (cc)
up_is Phase.SettingUp h = absurd (cc)
up_is Phase.Rejecting h = absurd (cc)

not_full : (l : Link) → not (is_full l) ≡ true → length l.queue < l.k
not_full l h = go (is_full l) refl h
  where
    go : (full : Bool) → is_full l ≡ full → not full ≡ true → length l.queue < l.k
    go true is none = absurd (cc)
    go false is none = leb-false l.k (length l.queue) is

-- in words of the machine: the link takes no packet, or the layer has none
pub none_to_offer : (e : PacketEnd) → HasOfferedAll e →
    (can_offer e.line.link ≡ false) ⊎ ((next_packet e.layer).packet ≡ None)
none_to_offer e h = go (can_offer e.line.link) refl
  where
    go : (room : Bool) → can_offer e.line.link ≡ room →
        (can_offer e.line.link ≡ false) ⊎ ((next_packet e.layer).packet ≡ None)
    go false is = inl is
    go true is =
        let parts = both_true (is_up e.line.link.phase) (not (is_full e.line.link)) is in
        inr (layer_says_none e.layer (h (up_is e.line.link.phase parts.0) (not_full e.line.link parts.1)))

-- settling changes neither what the link takes nor what the layer has
record TakesAlike (l m : Link) : Type 0 where
  phase : m.phase ≡ l.phase
  queue : m.queue ≡ l.queue
  k : m.k ≡ l.k

sent_alike : (l : Link) (packets : List Octets) → TakesAlike l (send_all l packets).link
sent_alike l [] = record { phase = refl; queue = refl; k = refl }
sent_alike l (packet ∷ packets) = record { phase = refl; queue = refl; k = refl }

settled_alike : (phase : Phase) (l : Link) → TakesAlike l (settle_in phase l).link
settled_alike Phase.Down l = record { phase = refl; queue = refl; k = refl }
settled_alike Phase.SettingUp l = record { phase = refl; queue = refl; k = refl }
settled_alike Phase.Up l = sent_alike l (sendable l)
settled_alike Phase.Rejecting l = record { phase = refl; queue = refl; k = refl }

pub settled_all_offered : (e : PacketEnd) → HasOfferedAll e → HasOfferedAll (settled e)
settled_all_offered e h up room =
    let same = settled_alike e.line.link.phase e.line.link in
    let few = ap (λ (xs : List Octets). length xs) same.queue in
    h (sym same.phase ∙ up) (omega (arith, room, few, same.k))

-- each packet that was offered is queued
pub longer_offered : (e : PacketEnd) (count : ℕ) → may_offer e ≡ true → count ≤ length e.line.link.queue →
    count + 1 ≤ length (offered 1 e).line.link.queue
longer_offered e count may within =
    let is = both_true (can_offer e.line.link) (is_some (next_packet e.layer).packet) may in
    rw (next_offered e may) (longer e.line.link (written_packet e.layer.flow (next_packet e.layer).packet []) count is.0 within)

pub none_left : (e : PacketEnd) → may_offer e ≡ false → HasOfferedAll e
none_left e none up room =
    layer_said_all e.layer
    (sym (ap (λ (b : Bool). b && is_some (next_packet e.layer).packet) (has_room e.line.link up room)) ∙ none)

-- ---- no relink is due once one was done, if it was

offered_relink : (most : ℕ) (e : PacketEnd) → (offered most e).layer.relink ≡ e.layer.relink
offered_relink zero e = refl
offered_relink (suc most) e = go (can_offer e.line.link) (is_some (next_packet e.layer).packet) (offered_relink most (with_next e (next_packet e.layer)))
  where
    go : (room says : Bool) → (offered most (with_next e (next_packet e.layer))).layer.relink ≡ (next_packet e.layer).layer.relink →
        (cond room (cond says (offered most (with_next e (next_packet e.layer))) e) e).layer.relink ≡ e.layer.relink
    go true true rest = rest ∙ in_relink e.layer.phase e.layer.relink e.layer
    go true false rest = refl
    go false says rest = refl

if_relinked : (due : Bool) (e : PacketEnd) → e.layer.relink ≡ due → (cond due (relinked e) e).layer.relink ≡ false
if_relinked true e is = refl
if_relinked false e is = is

pub none_due : (e : PacketEnd) → (all_offered (relinked_if_due e)).layer.relink ≡ false
unfolding all_offered
none_due e = offered_relink 7 (relinked_if_due e) ∙ if_relinked e.layer.relink e refl
