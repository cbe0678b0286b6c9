use Rattle.std.proofs.Common.{sym, refl}
use Rattle.net_nodes.proofs.SwitchTurns.{switch_found, can_switch, restarted, answered}
use Rattle.net_events.specs.declared.event.Event.TheVariants.{Restart}
use Rattle.net_nodes.specs.Happening.{Happens}
use Rattle.net_nodes.proofs.nodes.Nodes.restart.Goals as goal

pub switch_acts-requires-clause-can : goal.switch_acts-requires-clause-can
switch_acts-requires-clause-can g c =
    let s = c.args.self.now in
    let o = switch_found c.args.node s (sym c.if-is_switch.ensures) in
    record {
      switch = o.0;
      there = o.1;
      has_line = tt;
      can_put = can_switch c.args.node s o.0 s.lines c.make_switch_room.new.answer.frames.items _ c.requires o.1 refl (c.in_ok-make_switch_room.ensures.room o.0 o.1);
    }

pub returns-then-is_switch-clause-done : goal.returns-then-is_switch-clause-done
returns-then-is_switch-clause-done g c =
    let s = c.args.self.now in
    let o = switch_found c.args.node s (sym c.if-is_switch.ensures) in
    answered c.switch_acts.result c.switch_acts.new.answer (λ x. Happens g.L.Line.service (Restart c.args.node) s x c.switch_acts.new.self) (c.switch_acts.ensures.done o.0 o.1)
    (λ w. restarted g.L.Line.service c.args.node o.0 s c.switch_acts.new.answer c.switch_acts.new.self o.1 w)
