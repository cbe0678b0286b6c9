-- On the lines so far deliveries find no frame.
use Rattle.net_nodes.specs.Happening.{FindNoFrames}
use Rattle.net_nodes.proofs.nodes.Nodes.next_with_frames.Given as goal

abbrev pub invariant-loop-line : goal.invariant-loop-line
invariant-loop-line g l = FindNoFrames g.L.Line.service l.from l.line l.self
