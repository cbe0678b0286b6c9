-- Packets as they are kept, written one after the other.
use Rattle.std.specs.Prelude.{◌≡◌, ℕ, zero, suc, ◌+◌, ◌-◌, ◌*◌, ◌/◌, ◌%◌, ◌≤◌, ◌==◌, Bool, true, false, not}
use Rattle.std.specs.Prelude.{List, [], ◌∷◌, length, take, drop}
use Rattle.std.specs.List.{flat_map}
use Rattle.epochs.specs.Item.{DataPacket}
use Rattle.epochs.specs.declared.packets.PassedPacket.{PassedPacket}

-- packets in order, and for how many octets more there is memory
pub record PacketsState : Type 0 where
  pub packets : List DataPacket
  pub spare : ℕ

abbrev pub data_packet_of : PassedPacket → DataPacket
data_packet_of p = record { octets = p.octets.now; more = p.more; qualified = p.qualified; delivery = p.delivery }

-- how many places a packet takes: one for each 128 octets that it begins, and at least one
abbrev pub places_of : List ℕ → ℕ
places_of octets = 1 + (length octets - 1) / 128

-- ---- as they are written

-- a bit as a number, and back
abbrev pub bit : Bool → ℕ
bit true = 1
bit false = 0

abbrev pub is_set : ℕ → Bool
is_set number = not (number == 0)

-- the head of a packet: the length in all of its second octet and above the three lowest bits of the first one, which
-- are M, Q and D
abbrev pub bits_of : DataPacket → ℕ
bits_of p = 4 * bit p.more + 2 * bit p.qualified + bit p.delivery

abbrev pub first_octet : DataPacket → ℕ
first_octet p = 8 * (length p.octets / 256) + bits_of p

abbrev pub second_octet : DataPacket → ℕ
second_octet p = length p.octets % 256

abbrev pub written : DataPacket → List ℕ
written p = first_octet p ∷ second_octet p ∷ p.octets

abbrev pub length_read : (first second : ℕ) → ℕ
length_read first second = 256 * (first / 8) + second

-- so many packets, as they are read from what is written
abbrev pub read_packets : ℕ → List ℕ → List DataPacket
read_packets zero octets = []
read_packets (suc count) (first ∷ second ∷ octets) = record {
  octets = take (length_read first second) octets;
  more = is_set (first / 4 % 2);
  qualified = is_set (first / 2 % 2);
  delivery = is_set (first % 2);
} ∷ read_packets count (drop (length_read first second) octets)
read_packets (suc count) _ = []

-- so many packets are written there, and nothing else
pub record AreWritten (count : ℕ) (octets : List ℕ) : Type 0 where
  pub whole : octets ≡ flat_map written (read_packets count octets)
  pub counted : count ≡ length (read_packets count octets)

-- so many packets are wholly there at the front, whatever is written behind them
abbrev pub AreThere : ℕ → List ℕ → Type 0
AreThere zero octets = Unit {0}
AreThere (suc count) (first ∷ second ∷ octets) =
    (length_read first second ≤ length octets) × AreThere count (drop (length_read first second) octets)
AreThere (suc count) _ = ⊥
