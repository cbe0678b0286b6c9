use Rattle.std.proofs.Common.{◌≡◌, ◌+◌, ◌-◌, drop, take, ap, ◌∙◌, sym, arith}
use Rattle.std.proofs.lemmas.List.{drop-take}
use Rattle.lapb.specs.Out.{Out}
use Rattle.lapb.proofs.out.LinkOut.frames.Goals as goal

pub returns-clause-value : goal.returns-clause-value
returns-clause-value c =
    let count = c.self.inside.end - c.self.inside.taken in
    let all : c.self.inside.taken + count ≡ c.self.inside.end = omega (arith, c.self.invariant.taken) in
    sym (drop-take c.self.inside.taken count c.self.inside.places)
    ∙ ap (λ n. drop c.self.inside.taken (take n c.self.inside.places)) all
    ∙ ap (λ (o : Out). o.frames) c.self.view_is
