-- The lines so far have begun, with the nodes at their ends.
use Rattle.std.proofs.Common.{◌≡◌, ◌+◌, length, vec_len}
use Rattle.line_sim.specs.Making.{HaveBegun}
use Rattle.net_node.specs.Making.{AreNew}
use Rattle.line_sim.proofs.making.begin_lines.Given as goal

abbrev pub invariant-loop-line : goal.invariant-loop-line
invariant-loop-line g l = record {
  nodes : AreNew (vec_len l.begun) l.plan l.nodes.items;
  lines : HaveBegun g.L.Line.service 0 (vec_len l.begun) l.plan l.begun.items;
  left : vec_len l.begun + l.line-iterator.rest.len ≡ length l.plan.lines;
}
