-- X.25 over TCP (RFC 1613).
use Rattle.std.specs.Prelude.{ℕ, Bool, true, false, ◌&&◌, ◌+◌, ◌/◌, ◌%◌, ◌==◌, List, [], ◌∷◌, length, take, drop, slice_get, Option, Some, None, Result, Ok, Err, if◌then◌else◌, nat_lt, nat_le}
use Rattle.octet_rings.specs.Places.{most_octets}
use Rattle.octet_rings.specs.Numbers.{number_of}
use Rattle.xot_codec.specs.declared.fault.XotFault.{XotFault}
use Rattle.xot_codec.specs.declared.fault.XotFault.TheVariants.{OtherVersion, TooShort, TooLong}
use Rattle.xot_codec.specs.declared.stream.XotStream.{XotStream}

abbrev pub new_stream : XotStream
new_stream = record { input = []; output = [] }

-- ---- writing

-- version 0, the length in two octets, the high one first, and the packet
abbrev pub packet_form : List ℕ → List ℕ
packet_form packet = 0 ∷ 0 ∷ length packet / 256 ∷ length packet % 256 ∷ packet

-- the lengths that a packet has
abbrev pub is_packet : List ℕ → Bool
is_packet packet = nat_le 3 (length packet) && nat_le (length packet) 1030

abbrev pub takes_packet : XotStream → List ℕ → Bool
takes_packet s packet = is_packet packet && nat_le (length s.output + (4 + length packet)) most_octets

-- ---- reading

-- what stands first: a part of a packet, a whole one with what comes after it, or what ends the connection
pub data First : Type 0 where
  part : First
  whole : (packet rest : List ℕ) → First
  broken : XotFault → First

abbrev pub by_length : Option ℕ → List ℕ → First
by_length None octets = part
by_length (Some count) octets =
    if nat_lt count 3 then broken TooShort
    else if nat_lt 1030 count then broken TooLong
    else if nat_lt (length octets) (4 + count) then part
    else whole (take count (drop 4 octets)) (drop count (drop 4 octets))

abbrev pub first_by_length : List ℕ → First
first_by_length octets = by_length (number_of (slice_get octets 2) (slice_get octets 3)) octets

abbrev pub by_version : Option ℕ → List ℕ → First
by_version None octets = part
by_version (Some version) octets = if version == 0 then first_by_length octets else broken OtherVersion

abbrev pub first_packet : List ℕ → First
first_packet octets = by_version (number_of (slice_get octets 0) (slice_get octets 1)) octets

-- what is answered
abbrev pub answer_of : First → Result Bool XotFault
answer_of part = Ok false
answer_of (whole packet rest) = Ok true
answer_of (broken fault) = Err fault

-- what the buffer for a packet holds then
abbrev pub packet_after : List ℕ → First → List ℕ
packet_after old (whole packet rest) = packet
packet_after old _ = old

-- what is left to be read
abbrev pub rest_after : List ℕ → First → List ℕ
rest_after octets (whole packet rest) = rest
rest_after octets _ = octets
