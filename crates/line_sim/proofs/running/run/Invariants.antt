use Rattle.std.proofs.Common.{take}
use Rattle.network_laws.specs.Switched.InnerPromise.{PromisesCalls, InnerPromise}
use Rattle.line_sim.specs.Courses.{PadsHaveRun}
use Rattle.line_sim.specs.Runs.{HasRun}
use Rattle.line_sim.proofs.running.run.Given as goal

abbrev pub invariant-loop-index : goal.invariant-loop-index
invariant-loop-index l = record {
  ran : HasRun l.config (take l.index l.events) l.net;
  pads : PadsHaveRun l.config (take l.index l.events) l.net;
  headline : PromisesCalls l.net;
  inner : InnerPromise l.net;
}
