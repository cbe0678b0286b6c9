use Rattle.std.proofs.Common.{Ok, ◌<◌, length, set, Some, slice_get, refl, sym, ap, ◌∙◌, inl, subst}
use Rattle.std.specs.Prelude.{is_some}
use Rattle.std.proofs.lemmas.Bool.{OnTrue_at, OnFalse_at}
use Rattle.std.specs.Result.{result_and}
use Rattle.call_records.specs.RegisterView.{register_of}
use Rattle.net_events.specs.NodeEvents.{Hears}
use Rattle.net_events.specs.declared.node_event.LineEvent.TheVariants as line_event
use Rattle.net_events.specs.Network.{NetLine}
use Rattle.net_nodes.specs.declared.nodes.LineSide.{LineSide}
use Rattle.net_nodes.specs.Faults.{where_there_is}
use Rattle.net_nodes.specs.Places.{HearsAt}
use Rattle.net_nodes.specs.Steps.{hearer}
use Rattle.net_nodes.proofs.Places.{hears_there}
use Rattle.net_events.proofs.Lists.{there, within}
use Rattle.net_nodes.proofs.LineEndEvents.{can_serve, same_place, acts_anew, turned_from, left_hears}
use Rattle.net_nodes.proofs.UserNodeEvents.{delivered}
use Rattle.net_nodes.proofs.nodes.Nodes.deliver_to_user.Goals as goal

pub returns-then-not-take-clause-done : goal.returns-then-not-take-clause-done
returns-then-not-take-clause-done g c =
    let lines = c.self.inside.lines.items in
    let st = subst (HearsAt c.args.line (hearer c.args.direction)) (sym c.self.view_is) c.requires in
    let h : c.args.line < length lines = within lines c.args.line st.line_is st.line_there in
    let here = there lines c.args.line _ c.index_mut-net_line.result.now h c.index_mut-net_line.ensures.value ∙ ap Some (sym c.net_line.view_is) in
    let after : NetLine = record { dte = c.net_line.inside.dte; dce = c.net_line.inside.dce; channels = c.net_line.inside.channels; flights = g.L.Line.flights c.take.new.self } in
    rw (← c.self.view_is) (
      ap (λ o. where_there_is (is_some o)) here,
      inl (record {
        nothing = record {
          frames = c.in_ok-make_room.ensures.empty.ready.frames;
          notes = c.in_ok-make_room.ensures.empty.ready.notes;
          text = c.in_ok-make_room.ensures.empty.text;
          answered = refl;
          lost = record {
            line_is = _;
            line_there = here;
            flights = g.L.Line.flights c.take.new.self;
            rest = c.take.ensures.others;
            others = ap (λ r. record { nodes = c.self.inside.nodes.items; lines = set lines c.args.line after; register = r }) c.open.ensures.same;
          };
        };
        none = λ f. OnFalse_at c.if-not-take.true (c.take.ensures.none f);
      }),
    )

pub serve_at-requires : goal.serve_at-requires
serve_at-requires g c =
    let lines = c.self.inside.lines.items in
    let end : LineSide = record { line = c.args.line; role = c.hearer.result } in
    let st = subst (HearsAt c.args.line (hearer c.args.direction)) (sym c.self.view_is) c.requires in
    let h : c.args.line < length lines = within lines c.args.line st.line_is st.line_there in
    let here = there lines c.args.line _ c.index_mut-net_line.result.now h c.index_mut-net_line.ensures.value ∙ ap Some (sym c.net_line.view_is) in
    let e = hears_there c.args.line (hearer c.args.direction) c.hearer.result c.hearer.ensures _ _ st here in
    can_serve end c.self.inside.nodes.items _ e.node e.node_there e.quiet c.self.inside.register st.registered _
    (g.L.Line.flights c.take.new.self) c.open.new.self c.make_room.new.answer
    refl c.open.ensures.same c.open.ensures.at c.open.ensures.book c.in_ok-open.ensures.room c.in_ok-open.ensures.pairs c.in_ok-make_room.ensures.empty

pub returns-clause-done : goal.returns-clause-done
returns-clause-done g c =
    let L = g.L.Line.service in
    let lines = c.self.inside.lines.items in
    let end : LineSide = record { line = c.args.line; role = c.hearer.result } in
    let event = line_event.Hears c.as_slice.result in
    let st = subst (HearsAt c.args.line (hearer c.args.direction)) (sym c.self.view_is) c.requires in
    let h : c.args.line < length lines = within lines c.args.line st.line_is st.line_there in
    let here = there lines c.args.line _ c.index_mut-net_line.result.now h c.index_mut-net_line.ensures.value ∙ ap Some (sym c.net_line.view_is) in
    let e = hears_there c.args.line (hearer c.args.direction) c.hearer.result c.hearer.ensures _ _ st here in
    let w = c.serve_at.ensures.done e.node (ap (λ i. slice_get c.self.inside.nodes.items i) (same_place c.hearer.result _ (g.L.Line.flights c.take.new.self)) ∙ e.node_there) in
    rw (← c.self.view_is)
    (delivered L c.args.line c.args.direction end refl c.hearer.ensures c.as_slice.result.now _ _ here (result_and c.serve_at.result (Ok c.serve_at.new.answer)) _
    (acts_anew L end event _ _ e.node (g.L.Line.flights c.take.new.self) (result_and c.serve_at.result (Ok c.serve_at.new.answer)) c.serve_at.new.nodes.items
    c.serve_at.new.net_line (register_of c.serve_at.new.register) here e.node_there
    (λ f. left_hears c.args.direction c.hearer.result c.hearer.ensures _ _ _ c.as_slice.result.now c.as_slice.ensures.value (sym (OnTrue_at c.if-not-take.false (c.take.ensures.taken f))) (c.take.ensures.others f))
    (turned_from L end (Hears c.as_slice.result.now) e.node (result_and c.serve_at.result (Ok c.serve_at.new.answer)) c.self.inside.nodes.items _ _ _ (register_of c.self.inside.register) c.serve_at.new.nodes.items
    c.serve_at.new.net_line (register_of c.serve_at.new.register) refl c.open.ensures.same w)
    ))
