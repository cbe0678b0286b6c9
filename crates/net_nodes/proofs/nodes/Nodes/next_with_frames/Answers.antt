use Rattle.std.proofs.Common.{◌≤◌, ◌<◌, arith, rules, tests}
use Rattle.net_nodes.proofs.Passing.{one_more}
use Rattle.net_nodes.proofs.nodes.Nodes.next_with_frames.Goals as goal

pub loop-line-preserved : goal.loop-line-preserved
loop-line-preserved g c =
    one_more g.L.Line.service c.args.from c.loop-line.line c.args.self.now c.loop-line.invariant
    c.if-not-find_none.ensures.from_dte c.if-not-find_none.ensures.from_dce

pub returns-clause-none : goal.returns-clause-none
returns-clause-none g c line after before =
    let so_far : line < c.loop-line.line = omega (arith, after, before, c.max.ensures) in
    c.loop-line.invariant line after so_far

pub returns-then-not-find_none-clause-none : goal.returns-then-not-find_none-clause-none
returns-then-not-find_none-clause-none c = search (rules, tests)
