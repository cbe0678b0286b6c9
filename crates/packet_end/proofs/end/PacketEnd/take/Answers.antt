use Rattle.std.proofs.Common.{arith}
use Rattle.packet_end.proofs.end.PacketEnd.take.Goals as goal

pub take_out-requires : goal.take_out-requires
take_out-requires c w =
    let exact = c.self.invariant.exact w in
    let taken = c.in_ok-taken.ensures.held w in
    omega (arith, exact, taken)
