use Rattle.std.specs.Option.{option_to_list}
use Rattle.net_events.specs.EventView.{switch_event_of}
use Rattle.net_events.specs.Network.{PlacedSwitch}
use Rattle.node_events.proofs.Turns.{served_so, can_put_then}
use Rattle.node_events.proofs.switches.serve_switch.Goals as goal

pub put_lines-requires : goal.put_lines-requires
put_lines-requires g c =
    let p : PlacedSwitch = record { lines = c.args.own.now; switch = c.args.switch.now } in
    can_put_then (switch_event_of c.args.event.now) p c.call_switch-joined.new.switch c.args.lines.now.items c.args.puts.now.items c.args.puts.now.room
    c.call_switch-joined.ensures.switch c.requires.can_put

pub returns-clause-served : goal.returns-clause-served
returns-clause-served g c =
    let p : PlacedSwitch = record { lines = c.args.own.now; switch = c.args.switch.now } in
    served_so g.L.Line.service (switch_event_of c.args.event.now) p (option_to_list c.call_switch-joined.result) c.is_anew.result c.call_switch-joined.new.switch c.put_lines.new.switch
    c.args.lines.now.items c.put_lines.new.lines.items _ _ c.put_lines.new.puts.items
    c.call_switch-joined.ensures.join c.call_switch-joined.ensures.switch c.is_anew.ensures c.hand_on.ensures c.put_lines.ensures.switch c.put_lines.ensures.lines c.put_lines.ensures.puts
