use Rattle.std.proofs.Common.{drop, ◌∙◌, ap}
use Rattle.packet_end.proofs.Ended.{taken_from}
use Rattle.line_end.specs.End.{without_first}
use Rattle.line_end.specs.Held.{LineEnd}
use Rattle.packet_end.proofs.pooled.PooledEnd.out.Goals as goal

pub invariant_of-self : goal.invariant_of-self
invariant_of-self c =
    let a = c.self.inside in
    taken_from a c.out.new.self (drop 1 a.line.value.end.frames) a.notes c.self.invariant
    (c.out.ensures.end ∙ ap (λ (l : LineEnd). record l { end = without_first l.end }) c.deref_mut.ensures.value)
