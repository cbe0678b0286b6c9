-- The room that the packets of a message take, one by one.
use Rattle.std.proofs.Common.{◌≡◌, ℕ, ◌-◌, ◌<◌, ◌≤◌, true, List, length, take, drop, arith, length-drop, length-take}
use Rattle.data_transfer.specs.Flow.{is_size}
use Rattle.data_transfer.proofs.Pieces.{by_size}
use Rattle.epochs.specs.Packets.{places_of}

-- and leaves room for the others
pub places_left : (size : ℕ) (octets : List ℕ) (room : ℕ) → is_size size ≡ true → size < length octets →
    places_of octets ≤ room → places_of (drop size octets) ≤ room - places_of (take size octets)
places_left size octets room is =
    by_size (λ s. s < length octets → places_of octets ≤ room → places_of (drop s octets) ≤ room - places_of (take s octets))
    (λ long fits. omega (arith, long, fits, length-drop 128 octets, length-take 128 octets))
    (λ long fits. omega (arith, long, fits, length-drop 256 octets, length-take 256 octets))
    (λ long fits. omega (arith, long, fits, length-drop 512 octets, length-take 512 octets))
    (λ long fits. omega (arith, long, fits, length-drop 1024 octets, length-take 1024 octets)) size is
