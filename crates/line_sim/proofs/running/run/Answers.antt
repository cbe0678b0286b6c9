use Rattle.std.proofs.Common.{List, take, subst, refl, arith}
use Rattle.std.proofs.lemmas.List.{take_all}
use Rattle.net_events.specs.declared.event.Event.{Event}
use Rattle.line_sim.specs.Courses.{PadsHaveRun}
use Rattle.line_sim.proofs.PadsRun.{first_run, runs_on}
use Rattle.line_sim.proofs.RunsMore.{run-more, stops}
use Rattle.line_sim.proofs.running.run.Goals as goal

pub loop-index-init : goal.loop-index-init
loop-index-init c = record {
  ran = record { start = c.in-Ok.net; made = c.in-Ok.ensures.ok; ran = refl };
  pads = first_run c.args.config.now c.in-Ok.net c.in-Ok.ensures.ok c.in-Ok.ensures.courses c.in-Ok.ensures.inner;
  headline = c.in-Ok.ensures.headline;
  inner = c.in-Ok.ensures.inner;
}

pub loop-index-preserved : goal.loop-index-preserved
loop-index-preserved c = record {
  ran =
      run-more c.args.config.now c.args.events.now c.loop-index.index _ c.index-events-index.result c.loop-index.net
      c.goes_on.new.net c.loop-index-test.true c.index-events-index.is c.loop-index.invariant.ran c.if-not-goes_on.ensures.handled;
  pads =
      runs_on c.args.config.now c.args.events.now c.loop-index.index _ c.index-events-index.result c.loop-index.net
      c.goes_on.new.net c.loop-index-test.true c.index-events-index.is c.loop-index.invariant.pads
      c.if-not-goes_on.ensures.handled c.if-not-goes_on.ensures.courses c.if-not-goes_on.ensures.inner;
  headline = c.if-not-goes_on.ensures.headline;
  inner = c.if-not-goes_on.ensures.inner;
}

pub returns-then-not-goes_on-clause-err : goal.returns-then-not-goes_on-clause-err
returns-then-not-goes_on-clause-err c =
    stops c.args.config.now c.args.events.now c.loop-index.index _ c.index-events-index.result c.loop-index.net
    c.loop-index-test.true c.index-events-index.is c.loop-index.invariant.ran c.if-not-goes_on.ensures.wanting

pub returns-clause-pads : goal.returns-clause-pads
returns-clause-pads c =
    subst (λ (es : List Event). PadsHaveRun c.args.config.now es c.loop-index.net)
    (take_all c.loop-index.index c.args.events.now (omega arith)) c.loop-index.invariant.pads
