use Rattle.std.proofs.Common.{set, sym, ap, ◌∙◌, subst}
use Rattle.net_events.specs.EventView.{switch_event_of}
use Rattle.switch_lines.specs.Switch.{Switch}
use Rattle.net_events.specs.Network.{NetNode, Switching}
use Rattle.net_nodes.specs.Switching.{CanSwitch}
use Rattle.net_events.proofs.Lists.{found, within}
use Rattle.net_nodes.proofs.SwitchTurns.{then_so}
use Rattle.net_nodes.proofs.nodes.Nodes.switch_acts.Goals as goal

pub serve_switch_of-served-requires : goal.serve_switch_of-served-requires
serve_switch_of-served-requires g c =
    let nodes = c.self.inside.nodes.items in
    let can = subst (λ s. CanSwitch (switch_event_of c.args.event.now) c.args.place s c.args.answer.now.frames.items c.args.answer.now.frames.room) (sym c.self.view_is) c.requires.can in
    record {
      switch = can.switch;
      is = found nodes c.args.place _ c.index_mut.result.now (Switching can.switch) (within nodes c.args.place (Switching can.switch) can.there) c.index_mut.ensures.value can.there;
      has_line = can.has_line;
      can_put = can.can_put;
    }

pub returns-clause-done : goal.returns-clause-done
returns-clause-done g c =
    let nodes = c.self.inside.nodes.items in
    rw (← c.self.view_is)
    (λ n there.
    then_so c.serve_switch_of-served.result
    (λ w. record {
      nodes_are = ap (λ (m : NetNode). set nodes c.args.place m) (w.node_is ∙ ap (λ (s : Switch). Switching (record n { switch = s })) w.served.switch_is);
      lines_put = w.served.lines_put;
      register_is = w.served.register_is;
      puts = w.served.puts_are;
      notes = c.requires.notes;
      text = c.requires.text;
      outcome = c.outcome_of-answer.ensures;
    })
    (c.serve_switch_of-served.ensures.done n (found nodes c.args.place _ c.index_mut.result.now (Switching n) (within nodes c.args.place (Switching n) there) c.index_mut.ensures.value there)))
