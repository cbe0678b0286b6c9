use Rattle.std.proofs.Common.{length, ap, sym, ◌∙◌, arith}
use Rattle.lapb.specs.Held.{Queue}
use Rattle.lapb.proofs.Queues.{none_spent}
use Rattle.lapb.proofs.queue.Queue.give_back_any.Goals as goal

-- if as many buffers are held as there are packets, none is to be given back
pub returns-then-self-gt0-clause-same : goal.returns-then-self-gt0-clause-same
returns-then-self-gt0-clause-same c same =
    let a = c.self.inside in
    let none =
    none_spent a.spent a.len a.places a.first c.self.invariant.taken
    (ap (λ (q : Queue). length q.held) c.self.view_is ∙ same ∙ sym (ap (λ (q : Queue). length q.packets) c.self.view_is)) in
    absurd (omega (arith, none, c.if-self-gt0.true))
