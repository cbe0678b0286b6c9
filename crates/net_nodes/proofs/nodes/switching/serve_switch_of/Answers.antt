use Rattle.std.proofs.Common.{◌≡◌, List, ℕ, sym, ap, ◌∙◌, subst}
use Rattle.call_records.specs.RegisterView.{register_of}
use Rattle.net_events.specs.AtSwitch.{HasOwnLine}
use Rattle.net_events.specs.EventView.{switch_event_of}
use Rattle.net_events.specs.Network.{PlacedSwitch, Switching}
use Rattle.net_node.specs.NodeView.{kind_of}
use Rattle.node_events.specs.Switching.{CanPut, SwitchServed}
use Rattle.net_events.proofs.Users.{switch_is}
use Rattle.net_nodes.proofs.nodes.switching.serve_switch_of.Goals as goal

pub serve_switch-requires-clause-has_line : goal.serve_switch-requires-clause-has_line
serve_switch-requires-clause-has_line g c =
    let p : PlacedSwitch = record { lines = c.in-Switching.own.items; switch = c.in-Switching.switch } in
    let same : p ≡ c.requires.switch = switch_is p c.requires.switch (ap kind_of (sym c.in-Switching.is) ∙ c.node.view_is ∙ c.requires.is) in
    subst (λ (x : PlacedSwitch). HasOwnLine (switch_event_of c.args.event.now) x.switch) (sym same) c.requires.has_line

pub serve_switch-requires-clause-can_put : goal.serve_switch-requires-clause-can_put
serve_switch-requires-clause-can_put g c =
    let p : PlacedSwitch = record { lines = c.in-Switching.own.items; switch = c.in-Switching.switch } in
    let same : p ≡ c.requires.switch = switch_is p c.requires.switch (ap kind_of (sym c.in-Switching.is) ∙ c.node.view_is ∙ c.requires.is) in
    let can = subst (λ (x : PlacedSwitch). CanPut x.lines x.switch.lines c.args.lines.now.items c.args.puts.now.items c.args.puts.now.room) (sym same) c.requires.can_put in
    subst (λ (own : List ℕ). CanPut own p.switch.lines c.args.lines.now.items c.args.puts.now.items c.args.puts.now.room) (sym c.deref.ensures.value) can

pub returns-clause-done : goal.returns-clause-done
returns-clause-done g c = λ n is.
    let p : PlacedSwitch = record { lines = c.in-Switching.own.items; switch = c.in-Switching.switch } in
    let same : p ≡ n = switch_is p n (ap kind_of (sym c.in-Switching.is) ∙ c.node.view_is ∙ is) in
    record {
      switch = c.serve_switch.new.switch;
      node_is = ap (λ (x : PlacedSwitch). Switching (record x { switch = c.serve_switch.new.switch })) same;
      served = subst (λ (x : PlacedSwitch). SwitchServed g.L.Line.service (switch_event_of c.args.event.now) x c.args.lines.now.items (register_of c.args.register.now) c.serve_switch.new.switch c.serve_switch.new.lines.items (register_of c.serve_switch.new.register) c.serve_switch.new.puts.items)
          (ap (λ (own : List ℕ). record p { lines = own }) c.deref.ensures.value ∙ same) c.serve_switch.ensures.served;
    }
