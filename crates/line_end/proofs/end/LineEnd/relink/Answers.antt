use Rattle.lapb.specs.declared.note.Timing.{Timing}
use Rattle.line_end.specs.End.{runs_then}
use Rattle.std.specs.Prelude.{is_some}
use Rattle.std.proofs.Common.{ap, ◌∙◌}
use Rattle.lapb.specs.Machine as machine
use Rattle.lapb.specs.Out.{Out}
use Rattle.line_end.proofs.Steps.{sends_relink}
use Rattle.line_end.proofs.Calls.{t1-is, still_end}
use Rattle.line_end.proofs.end.LineEnd.relink.Goals as goal

pub invariant_of-self : goal.invariant_of-self
invariant_of-self c =
    let step = machine.relink c.self.inside.link.link in
    still_end c.self.inside c.relink.new.self c.set_timer.new.t1 c.take_timer.new.self
    c.self.invariant
    (rw c.relink.ensures.link (sends_relink c.self.inside.link.link).keeps) c.relink.ensures.tight
    (rw c.relink.ensures.link (t1-is c.self.inside.link.link step c.self.inside.out c.relink.new.out _ _ c.self.invariant.told c.relink.ensures.out (c.set_timer.ensures.runs ∙ ap (λ (change : Timing). runs_then change (is_some c.self.inside.t1)) c.take_timer.ensures.timer) c.self.invariant.t1)) (ap (λ (o : Out). o.timer) c.take_timer.ensures.out)
