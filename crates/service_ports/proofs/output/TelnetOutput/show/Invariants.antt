use Rattle.std.proofs.Common.{drop}
use Rattle.service_ports.specs.Writing.{with_text}
use Rattle.service_ports.proofs.Forms.{IsLeft}
use Rattle.service_ports.proofs.output.TelnetOutput.show.Given as goal

abbrev pub invariant-loop-octet : goal.invariant-loop-octet
invariant-loop-octet l = IsLeft l.self (with_text l.initial.self l.text) (drop l.octet-index l.text)
