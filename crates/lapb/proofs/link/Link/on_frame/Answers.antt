use Rattle.std.proofs.Common.{arith}
use Rattle.lapb.proofs.AcceptedPacket.{accepted_is}
use Rattle.lapb.proofs.NamedCalls.{named_on_octets}
use Rattle.lapb.proofs.link.Link.on_frame.Goals as goal

pub returns-clause-named : goal.returns-clause-named
returns-clause-named c = named_on_octets c.args.self.now.link c.args.bytes.now (λ i. omega (arith, c.type_inv.bytes i))

pub returns-clause-packet : goal.returns-clause-packet
returns-clause-packet c = accepted_is c.args.self.now.link c.args.bytes.now (λ i. omega (arith, c.type_inv.bytes i))
