use Rattle.std.proofs.Common.{◌≡◌, Ok, Result, refl, ap, ◌∙◌, subst, rules}
use Rattle.std.specs.Result.{result_and}
use Rattle.net_events.specs.declared.answer.Answer.{Answer}
use Rattle.net_events.specs.declared.event.StepFault.{StepFault}
use Rattle.net_nodes.specs.Happening.{Happens}
use Rattle.line_sim.specs.Stepping.{lent}
use Rattle.line_sim.proofs.CanBeServed.{standing}
use Rattle.line_sim.proofs.InFlight.{answered_kept, refused_kept}
use Rattle.line_sim.proofs.Refusals.{refusals}
use Rattle.line_sim.proofs.RunsMore.{has-memory}
use Rattle.line_sim.proofs.Stepped.{stepped}
use Rattle.line_sim.proofs.net.Net.step.Goals as goal

pub happen-requires : goal.happen-requires
happen-requires g c = standing g.L.Line.service _ c.self.invariant.between

pub invariant_of-self : goal.invariant_of-self
invariant_of-self g c =
    let L = g.L.Line.service in
    refused_kept L c.args.event.now c.self.inside.nodes _ c.happen.new.self c.self.inside.busy c.self.invariant
    (subst (λ (x : Result Answer StepFault). Happens L c.args.event.now c.self.inside.nodes x c.happen.new.self)
    (ap (λ x. result_and x (Ok c.happen.new.answer)) c.in_err-happen.was) c.happen.ensures.done)

pub invariant_of-self-2 : goal.invariant_of-self-2
invariant_of-self-2 g c =
    let L = g.L.Line.service in
    let r : Result Answer StepFault = Ok c.happen.new.answer in
    let is : result_and c.happen.result r ≡ r = ap (λ x. result_and x r) c.in_ok-happen.was in
    let h : Happens L c.args.event.now c.self.inside.nodes r c.happen.new.self
    = subst (λ (x : Result Answer StepFault). Happens L c.args.event.now c.self.inside.nodes x c.happen.new.self) is c.happen.ensures.done in
    answered_kept L c.args.event.now c.self.inside.nodes c.happen.new.answer c.happen.new.self c.self.inside.busy c.note_frames.new.busy c.self.invariant h
    c.note_frames.ensures

pub returns-in_err-happen : goal.returns-in_err-happen
returns-in_err-happen g c =
    let L = g.L.Line.service in
    let r : Result Answer StepFault = lent c.from_residual.result in
    let is : result_and c.happen.result (Ok c.happen.new.answer) ≡ r
    = ap (λ x. result_and x (Ok c.happen.new.answer)) c.in_err-happen.was ∙ search rules in
    let h : Happens L c.args.event.now c.self.inside.nodes r c.happen.new.self
    = subst (λ (x : Result Answer StepFault). Happens L c.args.event.now c.self.inside.nodes x c.happen.new.self) is c.happen.ensures.done in
    rw (← c.self.view_is) (
      (refl, λ _. tt, stepped L c.args.event.now c.self.inside.nodes r c.happen.new.self c.self.invariant.between h),
      record {
        faults = refusals L c.args.event.now c.self.inside.nodes r c.happen.new.self h;
        memory = has-memory L c.args.event.now c.self.inside.nodes r c.happen.new.self h;
        after = tt;
      },
    )

pub returns : goal.returns
returns g c =
    let L = g.L.Line.service in
    let r : Result Answer StepFault = Ok c.happen.new.answer in
    let is : result_and c.happen.result r ≡ r = ap (λ x. result_and x r) c.in_ok-happen.was in
    let h : Happens L c.args.event.now c.self.inside.nodes r c.happen.new.self
    = subst (λ (x : Result Answer StepFault). Happens L c.args.event.now c.self.inside.nodes x c.happen.new.self) is c.happen.ensures.done in
    rw (← c.self.view_is) (
      (refl, λ _. tt, stepped L c.args.event.now c.self.inside.nodes r c.happen.new.self c.self.invariant.between h),
      record {
        faults = refusals L c.args.event.now c.self.inside.nodes r c.happen.new.self h;
        memory = has-memory L c.args.event.now c.self.inside.nodes r c.happen.new.self h;
        after = tt;
      },
    )
