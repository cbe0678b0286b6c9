use Rattle.std.proofs.Common.{Ok, refl, sym, ap, ◌∙◌, inl}
use Rattle.std.proofs.lemmas.Bool.{eq-eqb}
use Rattle.std.specs.Result.{result_and}
use Rattle.net_events.specs.NodeEvents.{Expires}
use Rattle.net_events.specs.declared.event.Event.TheVariants.{Expire}
use Rattle.net_nodes.specs.Faults.{where_there_is, stands_at}
use Rattle.net_nodes.specs.Happening.{Happens}
use Rattle.net_nodes.proofs.UserNodeEvents.{acted, can_act}
use Rattle.net_nodes.proofs.SwitchTurns.{own_line_found, own_within, can_switch, expired, answered}
use Rattle.net_nodes.proofs.nodes.Nodes.expire.Goals as goal

pub act-requires-clause-can : goal.act-requires-clause-can
act-requires-clause-can g c =
    can_act c.args.node c.in_ok-end.end c.args.self.now c.requires c.in_ok-end.ensures

pub returns-clause-done : goal.returns-clause-done
returns-clause-done g c =
    let p = c.in_ok-end.ensures in
    acted g.L.Line.service (Expire c.args.node c.args.line c.args.timer) c.args.node (Expires c.args.timer) c.in_ok-end.end c.args.self.now c.act.new.self (result_and c.act.result (Ok c.act.new.answer)) p
    (ap (λ o. where_there_is (stands_at c.args.line o)) p.node_there ∙ ap where_there_is (eq-eqb p.node.line c.args.line (p.node_line ∙ c.if-end-line.false)))
    refl (λ a w. inl w) c.act.ensures.done

pub switch_acts-requires-clause-can : goal.switch_acts-requires-clause-can
switch_acts-requires-clause-can g c =
    let s = c.args.self.now in
    let o = own_line_found c.args.line c.args.node c.in-Some.own s (sym c.own_line.ensures ∙ c.in-Some.is) in
    record {
      switch = o.0;
      there = o.1;
      has_line = own_within c.args.node c.in-Some.own c.args.line o.0 s c.requires o.1 o.2;
      can_put = can_switch c.args.node s o.0 s.lines c.make_switch_room.new.answer.frames.items _ c.requires o.1 refl (c.in_ok-make_switch_room.ensures.room o.0 o.1);
    }

pub returns-in-Some-clause-done : goal.returns-in-Some-clause-done
returns-in-Some-clause-done g c =
    let s = c.args.self.now in
    let is = sym c.own_line.ensures ∙ c.in-Some.is in
    let o = own_line_found c.args.line c.args.node c.in-Some.own s is in
    answered c.switch_acts.result c.switch_acts.new.answer (λ x. Happens g.L.Line.service (Expire c.args.node c.args.line c.args.timer) s x c.switch_acts.new.self) (c.switch_acts.ensures.done o.0 o.1)
    (λ w. expired g.L.Line.service c.args.node c.args.line c.in-Some.own c.args.timer o.0 s c.switch_acts.new.answer c.switch_acts.new.self c.requires o.1 o.2 is w)
