use Rattle.std.proofs.Common.{◌≡◌, ◌++◌, flat_map, take}
use Rattle.service.specs.Hello.{octet_text}
use Rattle.service.proofs.hello.push_octets.Given as goal

abbrev pub invariant-loop-octet : goal.invariant-loop-octet
invariant-loop-octet l = l.line.items ≡ l.initial.line.items ++ flat_map octet_text (take l.octet-index l.octets)
