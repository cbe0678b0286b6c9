use Rattle.std.proofs.Common.{◌<◌, length, Some, slice_get, refl, sym, ap, ◌∙◌, inl, subst, arith}
use Rattle.std.specs.Prelude.{is_some}
use Rattle.std.proofs.lemmas.Bool.{OnTrue_at, OnFalse_at}
use Rattle.record_laws.proofs.Books.Basics.{length_set}
use Rattle.call_records.specs.RegisterView.{register_of}
use Rattle.net_events.specs.Network.{Network}
use Rattle.net_nodes.specs.Faults.{where_there_is}
use Rattle.net_nodes.specs.Places.{IsStanding, IsOwnLine}
use Rattle.net_nodes.specs.Steps.{hearer}
use Rattle.net_events.proofs.Lists.{there, within}
use Rattle.net_events.specs.declared.event.Event.TheVariants.{Deliver}
use Rattle.net_nodes.specs.Happening.{Happens}
use Rattle.net_nodes.proofs.SwitchTurns.{own_within, can_switch, can_hear, heard, answered}
use Rattle.net_nodes.proofs.nodes.Nodes.deliver_to_switch.Goals as goal

pub index_mut-requires : goal.index_mut-requires
index_mut-requires g c =
    let lines = c.self.inside.lines.items in
    let h = within lines c.args.line c.requires.switch.line_is (ap (λ (s : Network). slice_get s.lines c.args.line) c.self.view_is ∙ c.requires.switch.line_there) in
    omega (arith, h)

pub returns-then-not-take-clause-done : goal.returns-then-not-take-clause-done
returns-then-not-take-clause-done g c =
    let lines = c.self.inside.lines.items in
    let h : c.args.line < length lines = within lines c.args.line c.requires.switch.line_is (ap (λ (s : Network). slice_get s.lines c.args.line) c.self.view_is ∙ c.requires.switch.line_there) in
    let here = there lines c.args.line _ c.index_mut.result.now h c.index_mut.ensures.value ∙ ap Some (sym c.behind-self.view_is) in
    rw (← c.self.view_is) (
      ap (λ o. where_there_is (is_some o)) here,
      inl (record {
        nothing = record {
          frames = c.make_switch_room.ensures.frames;
          notes = c.make_switch_room.ensures.notes;
          text = c.make_switch_room.ensures.text;
          answered = refl;
          lost = record {
            line_is = _;
            line_there = here;
            flights = g.L.Line.flights c.take.new.self;
            rest = c.take.ensures.others;
            others = refl;
          };
        };
        none = λ f. OnFalse_at c.if-not-take.true (c.take.ensures.none f);
      }),
    )

pub switch_acts-requires-clause-can : goal.switch_acts-requires-clause-can
switch_acts-requires-clause-can g c =
    let o = c.requires.switch in
    let st = subst IsStanding (sym c.self.view_is) c.requires.standing in
    let node_there = ap (λ (s : Network). slice_get s.nodes c.args.at.place) c.self.view_is ∙ o.node_there in
    can_hear _ c.args.at.own c.as_slice.result.now _ _ _ _ c.frame_heard-event.ensures.event
    (record {
      switch = o.node;
      there = node_there;
      has_line = (own_within c.args.at.place c.args.at.own c.args.line o.node c.args.self.now c.requires.standing o.node_there o.own_line, c.frame_heard-event.ensures.octets);
      can_put = can_switch c.args.at.place _ o.node _ c.make_switch_room.new.answer.frames.items _ st node_there (length_set c.self.inside.lines.items c.args.line _)
          (c.in_ok-make_switch_room.ensures.room o.node o.node_there);
    })

pub returns-clause-done : goal.returns-clause-done
returns-clause-done g c =
    let L = g.L.Line.service in
    let s : Network = record { nodes = c.self.inside.nodes.items; lines = c.self.inside.lines.items; register = register_of c.self.inside.register } in
    let lines = c.self.inside.lines.items in
    let st = subst IsStanding (sym c.self.view_is) c.requires.standing in
    let o = subst (IsOwnLine c.args.line c.args.at.place c.args.at.own (hearer c.args.direction)) (sym c.self.view_is) c.requires.switch in
    let h : c.args.line < length lines = within lines c.args.line o.line_is o.line_there in
    let here = there lines c.args.line _ c.index_mut.result.now h c.index_mut.ensures.value ∙ ap Some (sym c.behind-self.view_is) in
    rw (← c.self.view_is)
    (answered c.switch_acts.result c.switch_acts.new.answer (λ x. Happens L (Deliver c.args.line c.args.direction) s x c.switch_acts.new.self) (c.switch_acts.ensures.done o.node o.node_there)
    (λ w. heard L c.args.at.place c.args.line c.args.at.own c.args.direction c.as_slice.result.now _ (g.L.Line.flights c.take.new.self) _ c.switch_acts.new.answer c.switch_acts.new.self st o here
    (λ f. (OnTrue_at c.if-not-take.false (c.take.ensures.taken f) ∙ ap Some (sym c.as_slice.ensures.value), c.take.ensures.others f))
    c.frame_heard-event.ensures.octets
    _ c.frame_heard-event.ensures.event w))
