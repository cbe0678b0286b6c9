use Rattle.std.proofs.Common.{◌≡◌, take}
use Rattle.packet_codec.specs.Address.{digit_values}
use Rattle.packet_codec.proofs.address.values_of.Given as goal

abbrev pub invariant-loop-octet : goal.invariant-loop-octet
invariant-loop-octet l = l.digits.items ≡ digit_values (take l.octet-index l.text)
