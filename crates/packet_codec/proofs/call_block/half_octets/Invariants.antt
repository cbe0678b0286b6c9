use Rattle.std.proofs.Common.{◌≡◌, ◌*◌, length, take}
use Rattle.packet_codec.specs.Reading.{half_octets}
use Rattle.packet_codec.proofs.call_block.half_octets.Given as goal

abbrev pub invariant-loop-octet : goal.invariant-loop-octet
invariant-loop-octet l =
    (l.digits.items ≡ half_octets (take l.octet-index l.octets)) × (length l.digits.items ≡ 2 * l.octet-index)
