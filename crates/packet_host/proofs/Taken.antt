-- A message that is not refused has room: each of its packets is taken into the send queue.
use Rattle.std.proofs.Common.{◌≡◌, ℕ, zero, suc, ◌+◌, ◌-◌, ◌<◌, ◌≤◌, Bool, true, false, List, [], ◌∷◌, length, set, refl, sym, ap, ◌∙◌, arith, length-append, length-take}
use Rattle.std.specs.Prelude.{Option, Some, None, slice_get, not, nat_lt}
use Rattle.std.proofs.lemmas.Bool.{le-ltb, lt-leb, ltb-false}
use Rattle.data_transfer.specs.Packets.{Datum}
use Rattle.data_transfer.specs.Traffic.{queue}
use Rattle.packet_channel.specs.Channel.{Channel, Request, Refusal, unless, quiet, refusal, requested, carried_out, moved, in_transfer, refused_if}
use Rattle.packet_layer.specs.Layer.{Layer, nth_channel, with_nth, channel_of, on_found, after_step, request_refusal, refusal_at, flow_refusal_at, flow_refusal, room, room_at}
use Rattle.packet_end.specs.PacketEnd.{PacketEnd, asked}
use Rattle.data_transfer.specs.Flow.{is_size}
use Rattle.data_transfer.specs.Cutting.{full_packets, cut_after, cut}
use Rattle.data_transfer.proofs.Pieces.{by_size, none_full, some_full, one_full, rest_of}
use Rattle.packet_host.specs.Saying.{message, most_octets, places_needed, either_refusal, say_refusal, AllTaken}

-- ---- a channel on which data flows, once a packet was queued

set_there : (chs : List Channel) (i : ℕ) (old new : Channel) → slice_get chs i ≡ Some old → slice_get (set chs i new) i ≡ Some new
set_there [] i old new at = absurd (cc)
set_there (x ∷ chs) zero old new at = refl
set_there (x ∷ chs) (suc i) old new at = set_there chs i old new at

nth_there : (chs : List Channel) (c : ℕ) (old new : Channel) → nth_channel chs c ≡ Some old → nth_channel (with_nth chs c new) c ≡ Some new
nth_there chs zero old new at = absurd (cc)
nth_there chs (suc i) old new at = set_there chs i old new at

record Flows (size : ℕ) (e : PacketEnd) (c : ℕ) (ch : Channel) : Type 0 where
  there : channel_of e.layer c ≡ Some ch
  transfer : in_transfer ch.state ≡ true
  quiet_reset : ch.resetting ≡ false
  size_is : e.layer.flow.size ≡ size

sends : (size : ℕ) (e : PacketEnd) (c : ℕ) (ch : Channel) (d : Datum) → Flows size e c ch → length ch.traffic.waiting < 8 → length d.octets ≤ size →
    refusal e.layer.role e.layer.flow ch (Request.Sending d) ≡ None
sends size e c ch d flows room short =
    rw (flows.transfer, flows.quiet_reset, lt-leb 8 (length ch.traffic.waiting) room, flows.size_is, le-ltb size (length d.octets) short) refl

sends_at : (size : ℕ) (e : PacketEnd) (c : ℕ) (ch : Channel) (d : Datum) → Flows size e c ch → length ch.traffic.waiting < 8 → length d.octets ≤ size →
    request_refusal e.layer c (Request.Sending d) ≡ None
sends_at size e c ch d flows room short =
    ap (λ (found : Option Channel). refusal_at e.layer.role e.layer.flow (Request.Sending d) found) flows.there ∙ sends size e c ch d flows room short

sent_layer : (size : ℕ) (e : PacketEnd) (c : ℕ) (ch : Channel) (d : Datum) → Flows size e c ch → length ch.traffic.waiting < 8 → length d.octets ≤ size →
    (asked e c (Request.Sending d)).layer ≡ after_step e.layer c (quiet (moved (queue d ch.traffic) ch))
sent_layer size e c ch d flows room short =
    ap (λ (found : Option Channel). on_found e.layer c (λ x. requested e.layer.role e.layer.flow x (Request.Sending d)) found) flows.there
    ∙ ap (λ (o : Option Refusal). after_step e.layer c (unless o (carried_out ch (Request.Sending d)) ch)) (sends size e c ch d flows room short)

flows_on : (size : ℕ) (e : PacketEnd) (c : ℕ) (ch : Channel) (d : Datum) → Flows size e c ch → length ch.traffic.waiting < 8 → length d.octets ≤ size →
    Flows size (asked e c (Request.Sending d)) c (moved (queue d ch.traffic) ch)
flows_on size e c ch d flows room short =
    let sent = sent_layer size e c ch d flows room short in
    record {
      there =
          ap (λ (l : Layer). channel_of l c) sent
          ∙ nth_there e.layer.channels c ch (moved (queue d ch.traffic) ch) flows.there;
      transfer = flows.transfer;
      quiet_reset = flows.quiet_reset;
      size_is = ap (λ (l : Layer). l.flow.size) sent ∙ flows.size_is;
    }

-- ---- the packets of a message

data AllShort (size : ℕ) : List Datum → Type 0 where
  no_more : AllShort size []
  and_more : (d : Datum) (ds : List Datum) → length d.octets ≤ size → AllShort size ds → AllShort size (d ∷ ds)

all_taken : (size : ℕ) (ds : List Datum) (e : PacketEnd) (c : ℕ) (ch : Channel) → Flows size e c ch → length ch.traffic.waiting + length ds ≤ 8 →
    AllShort size ds → AllTaken c ds e
all_taken size [] e c ch flows room short = tt
all_taken size (d ∷ ds) e c ch flows room (and_more _ _ within others) =
    let place : length ch.traffic.waiting < 8 = omega (arith, room) in (
      sends_at size e c ch d flows place within,
      all_taken size ds (asked e c (Request.Sending d)) c (moved (queue d ch.traffic) ch) (flows_on size e c ch d flows place within)
          (omega (arith, room, length-append ch.traffic.waiting (d ∷ []))) others,
    )

cut_short : (full size : ℕ) (d : Datum) → is_size size ≡ true → full ≡ full_packets size d.octets → AllShort size (cut_after full size d)
cut_short zero size d is e = and_more _ [] (none_full size d.octets is (sym e)) no_more
cut_short (suc full) size d is e =
    let long = some_full size d.octets is (omega (arith, e)) in
    and_more _ _ (omega (arith, length-take size d.octets))
    (cut_short full size (rest_of size d) is (omega (arith, e, one_full size d.octets is long)))

cut_count : (full size : ℕ) (d : Datum) → length (cut_after full size d) ≡ full + 1
cut_count zero size d = refl
cut_count (suc full) size d = omega (arith, cut_count full size (rest_of size d))

-- ---- what a message that is not refused finds

not_first : (a b : Option Refusal) → either_refusal a b ≡ None → a ≡ None
not_first None b none = refl
not_first (Some r) b none = absurd (cc)

not_second : (a b : Option Refusal) → either_refusal a b ≡ None → b ≡ None
not_second None b none = none
not_second (Some r) b none = absurd (cc)

does_not_hold : (holds : Bool) (r : Refusal) (other : Option Refusal) → refused_if holds r other ≡ None → holds ≡ false
does_not_hold true r other none = absurd (cc)
does_not_hold false r other none = refl

nor_does : (holds : Bool) (r : Refusal) (other : Option Refusal) → refused_if holds r other ≡ None → other ≡ None
nor_does true r other none = absurd (cc)
nor_does false r other none = none

is_so : (b : Bool) → not b ≡ false → b ≡ true
is_so true h = refl
is_so false h = absurd (cc)

taken_on : (found : Option Channel) (ds : List Datum) (e : PacketEnd) (c : ℕ) → channel_of e.layer c ≡ found →
    flow_refusal_at found ≡ None → 1 ≤ length ds → length ds ≤ room_at found → AllShort e.layer.flow.size ds → AllTaken c ds e
taken_on None ds e c at flow some fit short = absurd (cc)
taken_on (Some ch) ds e c at flow some fit short =
    let transfer : in_transfer ch.state ≡ true =
    is_so (in_transfer ch.state) (does_not_hold (not (in_transfer ch.state)) Refusal.NoCall _ flow) in
    let quiet_reset : ch.resetting ≡ false =
    does_not_hold ch.resetting Refusal.IsResetting None (nor_does (not (in_transfer ch.state)) Refusal.NoCall _ flow) in
    let places : room_at (Some ch) ≡ 8 - length ch.traffic.waiting = rw (transfer, quiet_reset) refl in
    all_taken e.layer.flow.size ds e c ch (record { there = at; transfer = transfer; quiet_reset = quiet_reset; size_is = refl })
    (omega (arith, some, fit, places)) short

-- a message of so many octets is so many packets
places_of : (size : ℕ) (qualified : Bool) (octets : List ℕ) → is_size size ≡ true → length octets ≤ most_octets qualified →
    places_needed size qualified octets ≡ full_packets size octets + 1
places_of size true octets is fits =
    by_size (λ s. places_needed s true octets ≡ full_packets s octets + 1)
    (omega (arith, fits)) (omega (arith, fits)) (omega (arith, fits)) (omega (arith, fits)) size is
places_of size false octets is fits =
    by_size (λ s. places_needed s false octets ≡ full_packets s octets + 1)
    (omega (arith, fits)) (omega (arith, fits)) (omega (arith, fits)) (omega (arith, fits)) size is

pub all_said : (e : PacketEnd) (c : ℕ) (octets : List ℕ) (qualified delivery : Bool) → is_size e.layer.flow.size ≡ true →
    say_refusal e.layer c octets qualified ≡ None → AllTaken c (cut e.layer.flow.size (message octets qualified delivery)) e
all_said e c octets qualified delivery is none =
    let size = e.layer.flow.size in
    let flow : flow_refusal e.layer c ≡ None = not_first (flow_refusal e.layer c) _ none in
    let others = not_second (flow_refusal e.layer c) _ none in
    let room_is : nat_lt (room e.layer c) (places_needed size qualified octets) ≡ false =
    does_not_hold (nat_lt (room e.layer c) (places_needed size qualified octets)) Refusal.QueueFull _ others in
    let long_is : nat_lt (most_octets qualified) (length octets) ≡ false =
    does_not_hold (nat_lt (most_octets qualified) (length octets)) Refusal.TooLong None
    (nor_does (nat_lt (room e.layer c) (places_needed size qualified octets)) Refusal.QueueFull _ others) in
    let fits : length octets ≤ most_octets qualified = ltb-false (most_octets qualified) (length octets) long_is in
    let places : places_needed size qualified octets ≤ room e.layer c =
    ltb-false (room e.layer c) (places_needed size qualified octets) room_is in
    let d = message octets qualified delivery in
    let count : length (cut size d) ≡ full_packets size octets + 1 = cut_count (full_packets size octets) size d in
    taken_on (channel_of e.layer c) (cut size d) e c refl flow (omega (arith, count))
    (omega (arith, count, places, places_of size qualified octets is fits))
    (cut_short (full_packets size octets) size d is refl)
