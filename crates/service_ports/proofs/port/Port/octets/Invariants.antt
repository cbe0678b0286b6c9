use Rattle.std.proofs.Common.{◌≡◌, take}
use Rattle.service_ports.specs.Ports.{after_octets}
use Rattle.service_ports.proofs.port.Port.octets.Given as goal

abbrev pub invariant-loop-octet : goal.invariant-loop-octet
invariant-loop-octet l = (l.taken ≡ l.octet-index) × (l.self ≡ after_octets l.initial.self (take l.octet-index l.octets))
