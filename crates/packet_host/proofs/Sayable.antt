-- A message for which there is room is not refused.
use Rattle.std.proofs.Common.{◌≡◌, ℕ, zero, suc, ◌*◌, ◌-◌, ◌/◌, ◌<◌, ◌≤◌, Bool, true, false, List, length, refl, arith}
use Rattle.std.specs.Prelude.{Option, Some, None, ◌&&◌, not, if◌then◌else◌}
use Rattle.std.proofs.lemmas.Bool.{le-ltb}
use Rattle.std.proofs.lemmas.Nat.{div_below}
use Rattle.packet_channel.specs.Channel.{Channel, Refusal, in_transfer, refused_if}
use Rattle.packet_layer.specs.Layer.{Layer, channel_of, flow_refusal_at, room, room_at}
use Rattle.packet_host.specs.Saying.{places_needed, say_refusal, room_to_say}

-- where there is a place, data flows
flows_at : (o : Option Channel) → 1 ≤ room_at o → flow_refusal_at o ≡ None
flows_at None h = absurd (omega arith)
flows_at (Some ch) h = by (in_transfer ch.state) ch.resetting h
  where
    by : (transfer resetting : Bool) → 1 ≤ (if transfer && not resetting then 8 - length ch.traffic.waiting else 0)
        → refused_if (not transfer) Refusal.NoCall (refused_if resetting Refusal.IsResetting None) ≡ None
    by true true some = absurd (omega arith)
    by true false some = refl
    by false resetting some = absurd (omega arith)

places_fit : (size places : ℕ) (octets : List ℕ) → 0 < size → 1 ≤ length octets → length octets ≤ places * size
    → places_needed size false octets ≤ places
places_fit size places octets positive some fits =
    let full : (length octets - 1) / size < places = div_below (length octets - 1) size places positive (omega arith) in
    omega arith

positive : (a b : ℕ) → 1 ≤ a * b → 0 < b
positive a zero some = absurd (omega arith)
positive a (suc b) some = omega arith

pub sayable : (l : Layer) (channel : ℕ) (octets : List ℕ) → 1 ≤ length octets → length octets ≤ room_to_say l channel
    → say_refusal l channel octets false ≡ None
sayable l channel octets some within =
    let fits : length octets ≤ room l channel * l.flow.size = omega arith in
    let places : places_needed l.flow.size false octets ≤ room l channel
    = places_fit l.flow.size (room l channel) octets (positive (room l channel) l.flow.size (omega arith)) some fits in
    let free : 1 ≤ room l channel = omega arith in
    rw (flows_at (channel_of l channel) free, le-ltb (room l channel) (places_needed l.flow.size false octets) places, le-ltb 1024 (length octets) (omega arith))
    refl
