-- What a host says on a call: octets cut into Data packets of the line's size (X.25 4.3.4), and when they are refused.
use Rattle.std.specs.Prelude.{◌≡◌, ℕ, suc, ◌*◌, Bool, true, false, List, [], ◌∷◌, length, min, nat_lt, Option, Some, None}
use Rattle.data_transfer.specs.Cutting.{full_packets}
use Rattle.data_transfer.specs.Packets.{Datum}
use Rattle.packet_channel.specs.Channel.{Refusal, Request, refused_if}
use Rattle.packet_layer.specs.Layer.{Layer, flow_refusal, request_refusal, room}
use Rattle.packet_end.specs.PacketEnd.{PacketEnd, asked}

-- a message as one packet, to be cut
abbrev pub message : List ℕ → (qualified delivery : Bool) → Datum
message octets qualified delivery =
    record { octets = octets; more = false; qualified = qualified; delivery = delivery }

-- packets are put into the send queue of a channel, in order
abbrev pub queued : (channel : ℕ) → List Datum → PacketEnd → PacketEnd
queued channel [] e = e
queued channel (d ∷ ds) e = queued channel ds (asked e channel (Request.Sending d))

-- none of them is refused there
abbrev pub AllTaken : (channel : ℕ) → List Datum → PacketEnd → Type 0
AllTaken channel [] e = Unit {0}
AllTaken channel (d ∷ ds) e =
    (request_refusal e.layer channel (Request.Sending d) ≡ None)
    × AllTaken channel ds (asked e channel (Request.Sending d))

-- the most octets of one message: a qualified one is one packet
abbrev pub most_octets : (qualified : Bool) → ℕ
most_octets true = 128
most_octets false = 1024

-- how many places of the send queue a message needs; of its packets at most 8 are counted
abbrev pub places_needed : (size : ℕ) → (qualified : Bool) → List ℕ → ℕ
places_needed size true octets = 1
places_needed size false octets = min 8 (suc (full_packets size octets))

abbrev pub either_refusal : Option Refusal → Option Refusal → Option Refusal
either_refusal (Some r) other = Some r
either_refusal None other = other

-- how many octets a message without Q may have now: none if no message is taken
abbrev pub room_to_say : Layer → (channel : ℕ) → ℕ
room_to_say l channel = min 1024 (room l channel * l.flow.size)

-- no call in data transfer, a reset of the own end not confirmed, too few places, too many octets
abbrev pub say_refusal : Layer → (channel : ℕ) → List ℕ → (qualified : Bool) → Option Refusal
say_refusal l channel octets qualified =
    either_refusal (flow_refusal l channel)
    (refused_if (nat_lt (room l channel) (places_needed l.flow.size qualified octets)) Refusal.QueueFull
    (refused_if (nat_lt (most_octets qualified) (length octets)) Refusal.TooLong None))
