-- Packets that are cut and joined, computed.
use Rattle.std.proofs.Common.{◌≡◌, ℕ, Bool, true, false, [], ◌∷◌, replicate, refl}
use Rattle.epochs.specs.Item.{DataPacket}
use Rattle.switch_joins.specs.Turning.{Sizes, Gathered, nothing_gathered, all_made, turned}

abbrev pub sizes : (near far : ℕ) → Sizes
sizes near far = record { near = near; far = far }

abbrev pub packet : (count : ℕ) (more qualified delivery : Bool) → DataPacket
packet count more qualified delivery =
    record { octets = replicate count 88; more = more; qualified = qualified; delivery = delivery }

abbrev pub gathered : (count : ℕ) (qualified : Bool) → Gathered
gathered count qualified = record { octets = replicate count 88; qualified = qualified }

-- 300 octets with D = 1 are cut into 128, 128 and 44; D stands on the last packet, M on the others
pub cut_row : turned (sizes 1024 128) nothing_gathered (packet 300 false false true)
    ≡ all_made (packet 128 true false false ∷ packet 128 true false false ∷ packet 44 false false true ∷ [])
cut_row = refl

-- two full packets of 128 octets of a message that goes on are joined to one of 256
pub first_row : turned (sizes 128 256) nothing_gathered (packet 128 true false false) ≡ record { made = []; left = gathered 128 false }
first_row = refl

pub joined_row : turned (sizes 128 256) (gathered 128 false) (packet 128 true false false) ≡ all_made (packet 256 true false false ∷ [])
joined_row = refl

-- a packet with another Q lets what is gathered go first, as part of a message that goes on
pub other_row : turned (sizes 128 1024) (gathered 256 true) (packet 5 false false false)
    ≡ all_made (packet 256 true true false ∷ packet 5 false false false ∷ [])
other_row = refl

-- a last packet ends what is gathered, and gives it its M and D
pub last_row : turned (sizes 128 1024) (gathered 256 false) (packet 5 false false true) ≡ all_made (packet 261 false false true ∷ [])
last_row = refl
