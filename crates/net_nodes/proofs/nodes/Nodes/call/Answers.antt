use Rattle.std.proofs.Common.{◌≡◌, Ok, List, ℕ, refl, subst, arith}
use Rattle.std.proofs.lemmas.Grind.{common_steps}
use Rattle.std.specs.Result.{result_and}
use Rattle.net_events.specs.NodeEvents.{Calls}
use Rattle.net_events.specs.declared.event.Event.TheVariants.{Call}
use Rattle.net_events.specs.declared.node_event.HostEvent.TheVariants as host_event
use Rattle.net_events.specs.declared.node_event.UserEvent.TheVariants as user_event
use Rattle.node_events.specs.Outcomes.{event_fault}
use Rattle.net_nodes.specs.Faults.{at_host, refused}
use Rattle.net_nodes.specs.Steps.{AtNode}
use Rattle.node_events.specs.Users.{user_fault}
use Rattle.net_nodes.proofs.UserNodeEvents.{user_acted, can_act, call_fault_at}
use Rattle.net_nodes.proofs.nodes.Nodes.call.Goals as goal

pub user_acts-requires-clause-can : goal.user_acts-requires-clause-can
user_acts-requires-clause-can g c = can_act c.args.node c.in_ok-end.end c.args.self.now c.requires c.in_ok-end.ensures

pub user_acts-requires-clause-whole : goal.user_acts-requires-clause-whole
user_acts-requires-clause-whole g c = (grind (arith, common_steps), grind (arith, common_steps))

pub returns-clause-done : goal.returns-clause-done
returns-clause-done g c =
    let L = g.L.Line.service in
    let s = c.args.self.now in
    let p = c.in_ok-end.ensures in
    let event = host_event.Calls c.args.address c.as_slice.result in
    let value = c.as_slice.ensures.value in
    let F : List ℕ → Type 0 = λ o. at_host c.args.node s (λ n. refused (event_fault (Calls c.args.address o) n.node)) ≡ user_fault p.line.channels (user_event.AtHost event) p.node.node in
    user_acted L (Call c.args.node c.args.address c.args.user_data.now) c.args.node (user_event.AtHost event) c.in_ok-end.end
    s c.user_acts.new.self (result_and c.user_acts.result (Ok c.user_acts.new.answer)) p
    (subst F value (call_fault_at c.args.node c.in_ok-end.end s p event refl))
    refl (λ a w. subst (λ (o : List ℕ). AtNode L c.args.node (Calls c.args.address o) s a c.user_acts.new.self) value w) c.user_acts.ensures.done
