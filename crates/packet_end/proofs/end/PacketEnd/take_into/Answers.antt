use Rattle.std.proofs.Common.{arith}
use Rattle.packet_end.proofs.end.PacketEnd.take_into.Goals as goal

pub take_into-requires-clause-held : goal.take_into-requires-clause-held
take_into-requires-clause-held c w =
    let exact = c.self.invariant.exact w in
    let taken = c.in_ok-taken.ensures.held w in
    omega (arith, exact, taken)
