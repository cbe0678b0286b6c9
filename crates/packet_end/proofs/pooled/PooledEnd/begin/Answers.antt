use Rattle.std.proofs.Common.{[], ◌∙◌, ap}
use Rattle.packet_end.proofs.Ended.{taken_from}
use Rattle.line_end.specs.End.{without_frames}
use Rattle.line_end.specs.Held.{LineEnd}
use Rattle.packet_end.proofs.pooled.PooledEnd.begin.Goals as goal

pub invariant_of-self : goal.invariant_of-self
invariant_of-self c =
    taken_from c.self.inside c.drop_frames.new.self [] c.clear.new.self c.self.invariant
    (c.drop_frames.ensures ∙ ap (λ (l : LineEnd). record l { end = without_frames l.end }) c.deref_mut.ensures.value)
