use Rattle.std.proofs.Common.{◌<◌, length, Some, refl, sym, ap, ◌∙◌, arith}
use Rattle.net_events.proofs.Lists.{there}
use Rattle.net_nodes.proofs.Carrying.{handed_at}
use Rattle.net_nodes.proofs.nodes.Nodes.hand_on.Goals as goal

pub returns-clause-handed : goal.returns-clause-handed
returns-clause-handed g c =
    let lines = c.self.inside.lines.items in
    let h : c.args.line < length lines = omega (arith, c.if-line-len.false, c.len.ensures) in
    let here = there lines c.args.line _ c.index_mut.result.now h c.index_mut.ensures.value ∙ ap Some (sym c.behind-self.view_is) in
    rw (← c.self.view_is) (handed_at g.L.Line.service c.args.line c.args.direction _ _ _ _ _ here (record {
      first = c.take.ensures.taken;
      none = c.take.ensures.none;
      flights = g.L.Line.flights c.take.new.self;
      rest = c.take.ensures.others;
      others = refl;
    }))
