use Rattle.lapb.specs.declared.note.Timing.{Timing}
use Rattle.line_end.specs.End.{runs_then, timed}
use Rattle.std.proofs.Common.{refl}
use Rattle.std.specs.Prelude.{is_some}
use Rattle.std.proofs.Common.{◌≤◌, length, sym, ap, ◌∙◌, arith}
use Rattle.lapb.specs.Machine as machine
use Rattle.lapb.specs.Out.{Out}
use Rattle.line_end.specs.Held.{LineEnd}
use Rattle.line_end.specs.End.{settled}
use Rattle.line_end.specs.EndView.{end_of}
use Rattle.line_end.proofs.Steps.{settles}
use Rattle.line_end.proofs.Calls.{did-is, t1-is, still_end, sends_up_to}
use Rattle.line_end.proofs.end.LineEnd.settle.Goals as goal

pub invariant_of-self : goal.invariant_of-self
invariant_of-self c =
    let step = machine.settle c.self.inside.link.link in
    still_end c.self.inside c.settle.new.self c.set_timer.new.t1 c.take_timer.new.self
    c.self.invariant
    (rw c.settle.ensures.link (settles c.self.inside.link.link).keeps) (rw c.settle.ensures.link (c.self.invariant.tight ∙ ap length (sym (settles c.self.inside.link.link).packets)))
    (rw c.settle.ensures.link (t1-is c.self.inside.link.link step c.self.inside.out c.settle.new.out _ _ c.self.invariant.told c.settle.ensures.out (c.set_timer.ensures.runs ∙ ap (λ (change : Timing). runs_then change (is_some c.self.inside.t1)) c.take_timer.ensures.timer) c.self.invariant.t1)) (ap (λ (o : Out). o.timer) c.take_timer.ensures.out)

pub returns-clause-end : goal.returns-clause-end
returns-clause-end c =
    let step = machine.settle c.self.inside.link.link in
    (λ i. record {
      link = (c.settle.ensures.link i).link;
      t1 = c.set_timer.new.t1;
      frames = (ap (λ (o : Out). o.frames) c.take_timer.ensures.out) i;
    })
    ∙ did-is (end_of c.self.inside) step c.self.inside.out c.settle.new.out c.set_timer.new.t1
    c.self.invariant.told refl c.settle.ensures.out
    (c.set_timer.ensures.left ∙ ap (λ (change : Timing). timed change c.self.inside.t1) c.take_timer.ensures.timer)
    ∙ ap (λ (e : LineEnd). settled e.end) c.self.view_is

pub returns-clause-frames : goal.returns-clause-frames
returns-clause-frames c =
    let short : length c.self.inside.link.link.queue ≤ 7 =
    omega (arith, c.self.invariant.queue, c.self.invariant.k) in
    rw (← c.self.view_is) (sends_up_to 7 (end_of c.self.inside) (machine.settle c.self.inside.link.link)
    ((settles c.self.inside.link.link).few 7 short (omega arith)))
