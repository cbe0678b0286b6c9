use Rattle.std.proofs.Common.{◌≡◌, true, false, refl, sym, ◌∙◌, rules, subst}
use Rattle.net_process.specs.Process.{ProcessState, may_be}
use Rattle.net_process.proofs.Stepping.{not_here}
use Rattle.net_process.proofs.process.Process.step.Goals as goal

pub returns-then-not-may_be : goal.returns-then-not-may_be
returns-then-not-may_be g c =
    let is : may_be c.args.self.now c.args.event.now ≡ false =
    subst (λ (p : ProcessState). may_be p c.args.event.now ≡ false) c.self.view_is (sym c.may_be.ensures ∙ c.if-not-may_be.true) in (
      (refl, λ _. tt, not_here g.L.Line.service c.args.event.now c.args.self.now _ is c.self.view_is),
      record {
        elsewhere = λ _. refl;
        faults = λ may. let no : true ≡ false = sym may ∙ is in absurd (cc);
        memory = search rules;
        limits = tt;
        after = tt;
      },
    )
