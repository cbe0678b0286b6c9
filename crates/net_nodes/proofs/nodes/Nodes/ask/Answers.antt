use Rattle.std.proofs.Common.{Ok, refl}
use Rattle.std.specs.Result.{result_and}
use Rattle.net_events.specs.declared.event.Event.TheVariants.{Ask}
use Rattle.net_events.specs.declared.node_event.HostEvent.TheVariants as host_event
use Rattle.net_events.specs.declared.node_event.UserEvent.TheVariants as user_event
use Rattle.net_nodes.proofs.UserNodeEvents.{user_acted, can_act, ask_fault_at}
use Rattle.net_nodes.proofs.nodes.Nodes.ask.Goals as goal

pub user_acts-requires-clause-can : goal.user_acts-requires-clause-can
user_acts-requires-clause-can g c = can_act c.args.node c.in_ok-end.end c.args.self.now c.requires c.in_ok-end.ensures

pub returns-clause-done : goal.returns-clause-done
returns-clause-done g c =
    let p = c.in_ok-end.ensures in
    let event = host_event.Asks c.args.channel c.args.request in
    user_acted g.L.Line.service (Ask c.args.node c.args.channel c.args.request.now) c.args.node (user_event.AtHost event) c.in_ok-end.end
    c.args.self.now c.user_acts.new.self (result_and c.user_acts.result (Ok c.user_acts.new.answer)) p
    (ask_fault_at c.args.node c.in_ok-end.end c.args.self.now p c.args.channel event refl)
    refl (λ a w. w) c.user_acts.ensures.done
