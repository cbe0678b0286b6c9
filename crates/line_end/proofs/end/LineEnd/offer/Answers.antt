use Rattle.std.proofs.Common.{ap, ◌∙◌}
use Rattle.std.specs.Prelude.{Result, Ok, Err, OnErr}
use Rattle.lapb.specs.Held.{Link}
use Rattle.line_end.proofs.end.LineEnd.offer.Goals as goal

-- what follows from what holds at an error
on_err : {T E : Type 0} {P Q : Type 0} (result : Result T E) → (P → Q) → OnErr result P → OnErr result Q
on_err (Ok x) f p = tt
on_err (Err e) f p = f p

pub returns-clause-kept : goal.returns-clause-kept
returns-clause-kept c =
    let a = c.self.inside in
    on_err c.offer.result
    (λ same. (
      ap (λ (l : Link). record {
        end = record { link = l.link; t1 = a.t1; frames = a.out.frames };
        held = l.held;
      }) same.0 ∙ c.self.view_is,
      same.1,
    ))
    (c.offer.ensures.kept c.self.invariant.tight)
