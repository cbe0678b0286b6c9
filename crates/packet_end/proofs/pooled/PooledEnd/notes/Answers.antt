use Rattle.std.proofs.Common.{refl}
use Rattle.packet_end.proofs.Ended.{taken_from}
use Rattle.packet_end.proofs.pooled.PooledEnd.notes.Goals as goal

pub invariant_of-self : goal.invariant_of-self
invariant_of-self c =
    let a = c.self.inside in
    taken_from a a.line.value a.line.value.end.frames c.take.new.self c.self.invariant refl
