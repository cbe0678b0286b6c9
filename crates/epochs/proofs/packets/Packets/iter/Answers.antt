use Rattle.epochs.proofs.Written.{are_there}
use Rattle.epochs.proofs.packets.Packets.iter.Goals as goal

pub invariant_of-result : goal.invariant_of-result
invariant_of-result c = rw c.as_slice.ensures.value (are_there c.self.inside.count c.self.inside.written.items c.self.invariant)
