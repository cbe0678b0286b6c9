use Rattle.std.proofs.Common.{◌<◌, length, Some, refl, sym, ap, ◌∙◌, arith}
use Rattle.net_nodes.specs.Faults.{where_there_is}
use Rattle.std.specs.Prelude.{is_some}
use Rattle.net_events.proofs.Lists.{there}
use Rattle.net_nodes.proofs.nodes.Nodes.lose.Goals as goal

pub returns-clause-done : goal.returns-clause-done
returns-clause-done g c =
    let lines = c.self.inside.lines.items in
    let h : c.args.line < length lines = omega (arith, c.if-line-len.false, c.len.ensures) in
    let here = there lines c.args.line _ c.index_mut.result.now h c.index_mut.ensures.value ∙ ap Some (sym c.behind-self.view_is) in
    rw (← c.self.view_is) (
      ap (λ o. where_there_is (is_some o)) here,
      record {
        frames = c.make_bare.ensures.frames;
        notes = c.make_bare.ensures.notes;
        text = c.make_bare.ensures.text;
        answered = c.make_bare.ensures.outcome;
        lost = record {
          line_is = _;
          line_there = here;
          flights = g.L.Line.flights c.take.new.self;
          rest = c.take.ensures.others;
          others = refl;
        };
      },
    )
