use Rattle.std.proofs.Common.{Ok, ◌<◌, length, slice_get, refl, sym, ap, ◌∙◌, arith}
use Rattle.std.specs.Result.{result_and}
use Rattle.net_events.specs.Network.{Network, NetLine}
use Rattle.net_events.proofs.Lists.{there}
use Rattle.net_nodes.specs.Places.{UserStands, IsOwnLine}
use Rattle.net_nodes.specs.Happening.{Happens}
use Rattle.net_nodes.specs.Steps.{relink_at}
use Rattle.net_nodes.proofs.UserNodeEvents.{can_relink, relinked}
use Rattle.net_nodes.proofs.SwitchTurns as at_switch
use Rattle.net_nodes.proofs.SwitchTurns.{no_own_line, own_line_there, own_within, can_switch, answered}
use Rattle.net_nodes.proofs.nodes.Nodes.relink.Goals as goal

pub switch_acts-requires-clause-can : goal.switch_acts-requires-clause-can
switch_acts-requires-clause-can g c =
    let s = c.args.self.now in
    let lines = c.self.inside.lines.items in
    let h : c.args.line < length lines = omega (arith, c.if-line-len.false, c.len.ensures) in
    let here = ap (λ (s : Network). slice_get s.lines c.args.line) (sym c.self.view_is) ∙ there lines c.args.line _ c.index.result.now h c.index.ensures in
    let o : IsOwnLine c.args.line c.place_at-place.result c.in-Some.own c.args.role s
    = own_line_there c.args.line c.place_at-place.result c.in-Some.own c.index.result.now c.args.role s c.requires here c.place_at-place.ensures (sym c.own_line.ensures ∙ c.in-Some.is) in
    record {
      switch = o.node;
      there = o.node_there;
      has_line = own_within c.place_at-place.result c.in-Some.own c.args.line o.node s c.requires o.node_there o.own_line;
      can_put = can_switch c.place_at-place.result s o.node s.lines c.make_switch_room.new.answer.frames.items _ c.requires o.node_there refl
          (c.in_ok-make_switch_room-in-Some.ensures.room o.node o.node_there);
    }

pub returns-in_ok-make_switch_room-in-Some-clause-done : goal.returns-in_ok-make_switch_room-in-Some-clause-done
returns-in_ok-make_switch_room-in-Some-clause-done g c =
    let s = c.args.self.now in
    let lines = c.self.inside.lines.items in
    let h : c.args.line < length lines = omega (arith, c.if-line-len.false, c.len.ensures) in
    let here = ap (λ (s : Network). slice_get s.lines c.args.line) (sym c.self.view_is) ∙ there lines c.args.line _ c.index.result.now h c.index.ensures in
    let o : IsOwnLine c.args.line c.place_at-place.result c.in-Some.own c.args.role s
    = own_line_there c.args.line c.place_at-place.result c.in-Some.own c.index.result.now c.args.role s c.requires here c.place_at-place.ensures (sym c.own_line.ensures ∙ c.in-Some.is) in
    answered c.switch_acts.result c.switch_acts.new.answer (λ x. Happens g.L.Line.service (relink_at c.args.role c.args.line) s x c.switch_acts.new.self) (c.switch_acts.ensures.done o.node o.node_there)
    (λ w. at_switch.relinked g.L.Line.service c.place_at-place.result c.args.line c.in-Some.own c.args.role s c.switch_acts.new.answer c.switch_acts.new.self c.requires o w)

pub act-requires-clause-can : goal.act-requires-clause-can
act-requires-clause-can g c =
    let s = c.args.self.now in
    let lines = c.self.inside.lines.items in
    let h : c.args.line < length lines = omega (arith, c.if-line-len.false, c.len.ensures) in
    let here = ap (λ (s : Network). slice_get s.lines c.args.line) (sym c.self.view_is) ∙ there lines c.args.line _ c.index.result.now h c.index.ensures in
    can_relink c.args.line c.args.role s c.requires c.index.result.now here
    (no_own_line c.args.line c.place_at-place.result c.index.result.now c.args.role s c.requires here c.place_at-place.ensures (sym c.own_line.ensures ∙ c.in-None.is))

pub returns-in-None-clause-done : goal.returns-in-None-clause-done
returns-in-None-clause-done g c =
    let s = c.args.self.now in
    let lines = c.self.inside.lines.items in
    let h : c.args.line < length lines = omega (arith, c.if-line-len.false, c.len.ensures) in
    let here = ap (λ (s : Network). slice_get s.lines c.args.line) (sym c.self.view_is) ∙ there lines c.args.line _ c.index.result.now h c.index.ensures in
    let stands : UserStands s c.args.line c.index.result.now c.args.role
    = no_own_line c.args.line c.place_at-place.result c.index.result.now c.args.role s c.requires here c.place_at-place.ensures (sym c.own_line.ensures ∙ c.in-None.is) in
    relinked g.L.Line.service c.args.line c.args.role s c.act.new.self (result_and c.act.result (Ok c.act.new.answer)) c.index.result.now here stands c.act.ensures.done
