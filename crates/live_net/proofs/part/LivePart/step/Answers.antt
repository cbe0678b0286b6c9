use Rattle.std.proofs.Common.{◌≡◌, Result, Ok, Err, refl, ap, ◌∙◌, rules}
use Rattle.net_events.specs.declared.answer.Answer.{Answer}
use Rattle.net_events.specs.declared.event.StepFault.{StepFault}
use Rattle.net_nodes.specs.Carrying.{blind}
use Rattle.line_sim.specs.Stepping.{lent}
use Rattle.live_net.proofs.Standing.{live_standing}
use Rattle.live_net.proofs.Parts.{part_lives_answered, part_lives_refused, PartSteps, part_answered, part_refused}
use Rattle.live_net.proofs.part.LivePart.step.Goals as goal

pub happen-requires : goal.happen-requires
happen-requires g c = live_standing (blind g.L.Line.service) _ c.self.invariant.0

pub invariant_of-self : goal.invariant_of-self
invariant_of-self g c = (
  part_lives_refused g.L.Line.service c.args.event.now c.self.inside.nodes c.in_err-happen.field-0.0 c.happen.new.self
      c.self.invariant.0 c.in_err-happen.ensures.done,
  c.happen.ensures.kept c.self.invariant.1,
)

pub invariant_of-self-2 : goal.invariant_of-self-2
invariant_of-self-2 g c = (
  part_lives_answered g.L.Line.service c.args.event.now c.self.inside.nodes (Ok c.happen.new.answer) c.happen.new.self
      c.forget.new.self c.self.invariant.0 c.in_ok-happen.ensures.done c.forget.ensures,
  c.happen.ensures.kept c.self.invariant.1,
)

pub returns-in_err-happen : goal.returns-in_err-happen
returns-in_err-happen g c =
    let refused : Result Answer StepFault = Err c.in_err-happen.field-0.0 in
    let told : Result Answer StepFault = lent c.from_residual.result in
    let same : refused ≡ told = search rules in
    let k : PartSteps g.L.Line.service c.args.event.now c.args.self.now told c.happen.new.self
    = part_refused g.L.Line.service c.args.event.now c.self.inside.nodes c.args.self.now told c.in_err-happen.field-0.0
    c.happen.new.self c.self.view_is same c.self.invariant.0 c.in_err-happen.ensures.done
    (λ e. c.happen.ensures.ready c.self.invariant.1 c.self.invariant.0.stored (c.in_err-happen.was ∙ ap (λ (x : StepFault). Err x) e)) in
    ((refl, λ _. tt, k.lived), record { faults = k.faults; memory = k.memory; limits = k.limits; after = tt })

pub returns : goal.returns
returns g c =
    let k : PartSteps g.L.Line.service c.args.event.now c.args.self.now (Ok c.happen.new.answer) c.forget.new.self
    = part_answered g.L.Line.service c.args.event.now c.self.inside.nodes c.args.self.now c.happen.new.answer
    c.happen.new.self c.forget.new.self c.self.view_is c.in_ok-happen.ensures.done c.forget.ensures
    (c.happen.ensures.kept c.self.invariant.1) in
    ((refl, λ _. tt, k.lived), record { faults = k.faults; memory = k.memory; limits = k.limits; after = tt })
