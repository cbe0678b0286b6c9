-- The switches so far put their frames.
use Rattle.std.proofs.Common.{length}
use Rattle.line_sim.specs.Making.{HaveBegun, HaveNodesBegun}
use Rattle.line_sim.proofs.making.begin_switches.Given as goal

abbrev pub invariant-loop-place : goal.invariant-loop-place
invariant-loop-place g l = record {
  nodes : HaveNodesBegun l.place l.plan l.nodes.items;
  lines : HaveBegun g.L.Line.service l.place (length l.plan.lines) l.plan l.lines.items;
}
