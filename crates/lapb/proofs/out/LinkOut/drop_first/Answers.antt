use Rattle.std.proofs.Common.{drop, take, ap, ◌∙◌, sym}
use Rattle.lapb.specs.Out.{Out}
use Rattle.lapb.proofs.Queues.{drop_more}
use Rattle.lapb.proofs.out.LinkOut.drop_first.Goals as goal

pub returns-then-self : goal.returns-then-self
returns-then-self c =
    let frames = sym (drop_more c.self.inside.taken (take c.self.inside.end c.self.inside.places)) ∙
    ap (λ (o : Out). drop 1 o.frames) c.self.view_is in
    λ i. record (c.self.view_is i) { frames = frames i }
