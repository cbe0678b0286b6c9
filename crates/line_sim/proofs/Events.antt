-- What holds of a network between events holds after each event.
use Rattle.std.proofs.Common.{ℕ, Result, Ok, Err, sym, subst, inl, inr}
use Rattle.link_timers.specs.declared.role.Role.{Role}
use Rattle.link_timers.specs.declared.role.Role.TheVariants.{Dte, Dce}
use Rattle.link_timers.specs.declared.timers.TimerId.{TimerId}
use Rattle.frame_lines.specs.declared.line.Direction.{Direction}
use Rattle.frame_lines.specs.Lines.{LineService}
use Rattle.net_events.specs.AtSwitch.{SwitchEvent, SwitchHappened}
use Rattle.net_events.specs.AtSwitch as switch_event
use Rattle.net_events.specs.NodeEvents.{NodeEvent, Hears, Expires, Relinks, Restarts, Calls, Takes}
use Rattle.net_events.specs.NodeEvents as node_event
use Rattle.net_events.specs.Network.{Network, HappenedAt, LostAt, all_elapsed}
use Rattle.net_config.specs.NetPlan.{NetPlan, IsPlan}
use Rattle.net_events.specs.Opening.{IsMade}
use Rattle.net_events.specs.EventView.{request_event}
use Rattle.net_events.specs.declared.answer.Answer.{Answer}
use Rattle.net_events.specs.declared.event.Event.{Event}
use Rattle.net_events.specs.declared.event.Event.TheVariants.{AtTerminal, Call, Ask, Take, Deliver, Lose, Expire}
use Rattle.net_events.specs.declared.event.Event.TheVariants.{Relink, GivesUp}
use Rattle.net_events.specs.declared.event.Event.TheVariants.{Restart}
use Rattle.net_events.specs.declared.event.StepFault.{StepFault}
use Rattle.net_nodes.specs.Steps.{AtNode, DeliverStep, ExpireStep, RelinkStep, RestartStep, StepOf, hearer}
use Rattle.net_nodes.specs.Happening.{Happens}
use Rattle.network_laws.specs.PlacedTime.{elapsed_by}
use Rattle.network_laws.proofs.PlacedTime.{all_alike}
use Rattle.network_laws.proofs.Switched.UsersAny.{event_any, loss_any, time_any}
use Rattle.network_laws.proofs.Switched.SwitchEvents.{switch_event_holds}
use Rattle.network_laws.proofs.Switched.MadeHeld.{made_any}
use Rattle.line_sim.specs.Between.{IsBetweenEvents}
use Rattle.line_sim.proofs.Registered.{made_registered, happened_registered, lost_registered, switched_registered}

pub made : (L : LineService) (plan : NetPlan) (s : Network) → IsPlan plan → IsMade L plan s → IsBetweenEvents L s
made L plan s is m = record { any = made_any L plan s is m; registered = made_registered L plan s m }

-- ticks pass, at each node by a number of its own
pub elapsed_placed : (L : LineService) (s : Network) (ticks : ℕ → ℕ) → IsBetweenEvents L s
    → IsBetweenEvents L (elapsed_by ticks s)
elapsed_placed L s ticks b = record { any = time_any L s ticks b.any; registered = b.registered }

-- as many at each
pub elapsed : (L : LineService) (s : Network) (ticks : ℕ) → IsBetweenEvents L s
    → IsBetweenEvents L (all_elapsed ticks s)
elapsed L s ticks b = subst (λ (t : Network). IsBetweenEvents L t) (all_alike ticks s) (elapsed_placed L s (λ place. ticks) b)

-- ---- at a node with users, on a line, and at a switch

at_end : (L : LineService) (event : NodeEvent) (line : ℕ) (role : Role) (s t : Network) → IsBetweenEvents L s
    → HappenedAt L event line role s t → IsBetweenEvents L t
at_end L event line role s t b h = record {
  any = event_any L event line role s t b.any h;
  registered = happened_registered L event line role s t b.registered h;
}

at_node : (L : LineService) (place : ℕ) (event : NodeEvent) (s : Network) (a : Answer) (t : Network)
    → IsBetweenEvents L s → AtNode L place event s a t → IsBetweenEvents L t
at_node L place event s a t b d = at_end L event d.end.line d.end.role s t b d.does.happened

on_line : (L : LineService) (line : ℕ) (d : Direction) (s t : Network) → IsBetweenEvents L s → LostAt L line d s t
    → IsBetweenEvents L t
on_line L line d s t b w =
    record { any = loss_any L line d s t b.any w; registered = lost_registered L line d s t b.registered w }

at_switch : (L : LineService) (event : SwitchEvent) (place : ℕ) (s t : Network) → IsBetweenEvents L s
    → SwitchHappened L event place s t → IsBetweenEvents L t
at_switch L event place s t b h = record {
  any = switch_event_holds L event place s t b.any h;
  registered = switched_registered L event place s t b.registered h;
}

-- ---- each event

delivered : (L : LineService) (line : ℕ) (direction : Direction) (s : Network) (a : Answer) (t : Network)
    → IsBetweenEvents L s → DeliverStep L line direction s a t → IsBetweenEvents L t
delivered L line direction s a t b (inl e) = on_line L line direction s t b e.nothing.lost
delivered L line direction s a t b (inr (octets, inl e)) =
    at_end L (Hears octets) line (hearer direction) s t b e.happened
delivered L line direction s a t b (inr (octets, inr e)) =
    at_switch L (switch_event.Hears e.there.own octets) e.place s t b e.there.does.happened

expired : (L : LineService) (place line : ℕ) (timer : TimerId) (s : Network) (a : Answer) (t : Network)
    → IsBetweenEvents L s → ExpireStep L place line timer s a t → IsBetweenEvents L t
expired L place line timer s a t b (inl e) = at_node L place (Expires timer) s a t b e
expired L place line timer s a t b (inr e) = at_switch L (switch_event.Expires e.own timer) place s t b e.does.happened

relinked : (L : LineService) (line : ℕ) (role : Role) (s : Network) (a : Answer) (t : Network) → IsBetweenEvents L s
    → RelinkStep L line role s a t → IsBetweenEvents L t
relinked L line role s a t b (inl e) = at_end L Relinks line role s t b e.happened
relinked L line role s a t b (inr e) = at_switch L (switch_event.Relinks e.there.own) e.place s t b e.there.does.happened

began_anew : (L : LineService) (place : ℕ) (s : Network) (a : Answer) (t : Network) → IsBetweenEvents L s
    → RestartStep L place s a t → IsBetweenEvents L t
began_anew L place s a t b (inl e) = at_node L place Restarts s a t b e
began_anew L place s a t b (inr e) = at_switch L switch_event.Restarts place s t b e.happened

pub stepped : (L : LineService) (e : Event) (s : Network) (a : Answer) (t : Network) → IsBetweenEvents L s
    → StepOf L e s a t → IsBetweenEvents L t
stepped L (AtTerminal node terminal event) s a t b d = at_node L node (node_event.AtTerminal terminal event) s a t b d
stepped L (Call node address user_data) s a t b d = at_node L node (Calls address user_data.items) s a t b d
stepped L (Ask node channel request) s a t b d = at_node L node (request_event channel request) s a t b d
stepped L (Take node channel) s a t b d = at_node L node (Takes channel) s a t b d
stepped L (Deliver line direction) s a t b d = delivered L line direction s a t b d
stepped L (Lose line direction) s a t b d = on_line L line direction s t b d.lost
stepped L (Expire node line timer) s a t b d = expired L node line timer s a t b d
stepped L (Relink line) s a t b d = relinked L line Dte s a t b d
stepped L (GivesUp line) s a t b d = relinked L line Dce s a t b d
stepped L (Restart node) s a t b d = began_anew L node s a t b d

pub happens : (L : LineService) (e : Event) (s : Network) (r : Result Answer StepFault) (t : Network)
    → IsBetweenEvents L s → Happens L e s r t → IsBetweenEvents L t
happens L e s (Ok answer) t b h = stepped L e s answer t b h.1
happens L e s (Err fault) t b h = subst (IsBetweenEvents L) (sym h.1) b
