use Rattle.std.proofs.Common.{arith}
use Rattle.xot_gateway.proofs.Short.{short_packet}
use Rattle.xot_gateway.proofs.packets.read_on.Goals as goal

pub returns-clause-short : goal.returns-clause-short
returns-clause-short c =
    short_packet c.args.line c.args.octets.now c.read_packet.result (omega (arith, c.type_inv.octets 3))
    (rw c.min.ensures at c.read_packet.ensures.found)
