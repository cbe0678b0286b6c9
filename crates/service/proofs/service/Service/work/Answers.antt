use Rattle.std.proofs.Common.{refl, ap, ◌∙◌, true, false}
use Rattle.service.proofs.AllTerminals.{all_start, all_on}
use Rattle.service.proofs.service.Service.work.Goals as goal

pub loop-init : goal.loop-init
loop-init g c = record { all = all_start g.L.Line.service _ _ _ _ _; places = refl; lines = refl }

pub loop-preserved : goal.loop-preserved
loop-preserved g c = record {
  all = all_on g.L.Line.service _ _ _ _ c.round.result true _ _ _ _ _ _ _ _ _ (ap (λ v. v.items) c.loop.invariant.places) c.loop.invariant.lines c.if-not-round.false c.loop.invariant.all c.round.ensures.bridges;
  places = c.round.ensures.places ∙ c.loop.invariant.places;
  lines = c.round.ensures.lines ∙ c.loop.invariant.lines;
}

pub returns-then-not-round-clause-works : goal.returns-then-not-round-clause-works
returns-then-not-round-clause-works g c =
    (all_on g.L.Line.service _ _ _ _ c.round.result false _ _ _ _ _ _ _ _ _ (ap (λ v. v.items) c.loop.invariant.places) c.loop.invariant.lines c.if-not-round.true c.loop.invariant.all c.round.ensures.bridges).works

pub returns-then-not-round-clause-bridges : goal.returns-then-not-round-clause-bridges
returns-then-not-round-clause-bridges g c =
    all_on g.L.Line.service _ _ _ _ c.round.result false _ _ _ _ _ _ _ _ _ (ap (λ v. v.items) c.loop.invariant.places) c.loop.invariant.lines c.if-not-round.true c.loop.invariant.all c.round.ensures.bridges

pub returns-clause-works : goal.returns-clause-works
returns-clause-works g c = c.loop.invariant.all.works

pub returns-clause-bridges : goal.returns-clause-bridges
returns-clause-bridges g c = c.loop.invariant.all
