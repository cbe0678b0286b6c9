use Rattle.std.proofs.Common.{◌<◌, length, Some, refl, sym, ap, ◌∙◌, arith}
use Rattle.net_events.proofs.Lists.{there}
use Rattle.net_nodes.proofs.Carrying.{put_at}
use Rattle.net_nodes.proofs.nodes.Nodes.put_on.Goals as goal

pub returns-then-line-len-clause-put : goal.returns-then-line-len-clause-put
returns-then-line-len-clause-put g c =
    let lines = c.self.inside.lines.items in
    let h : c.args.line < length lines = omega (arith, c.if-line-len.true, c.len.ensures) in
    let here = there lines c.args.line _ c.index_mut.result.now h c.index_mut.ensures.value ∙ ap Some (sym c.behind-self.view_is) in
    rw (← c.self.view_is) (put_at g.L.Line.service c.args.line c.args.direction _ _ _ _ here (record {
      flights = g.L.Line.flights c.put.new.self;
      put = c.put.ensures;
      others = refl;
    }))
