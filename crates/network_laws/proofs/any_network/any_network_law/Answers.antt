use Rattle.network_laws.proofs.any_network.any_network_law.Goals as goal
use Rattle.network_laws.proofs.Switched.MadeHeld.{made_any}
use Rattle.network_laws.proofs.Switched.UsersAny.{event_any, loss_any, time_any}
use Rattle.network_laws.proofs.Switched.SwitchEvents.{switch_event_holds}
use Rattle.network_laws.proofs.Switched.PromiseAny.{promise_any, delivered_any}
use Rattle.network_laws.proofs.Switched.RestAny.{rest_any}
use Rattle.network_laws.proofs.Switched.FewerAny.{fewer_any, fewer_at_switch}
use Rattle.network_laws.proofs.Switched.IdleExpiry.{idle_expiry}

pub returns : goal.returns
returns g c = record {
  made = made_any g.L.Line.service;
  event = event_any g.L.Line.service;
  switch_event = switch_event_holds g.L.Line.service;
  loss = loss_any g.L.Line.service;
  time = time_any g.L.Line.service;
  promise = promise_any g.L.Line.service;
  fewer_due = fewer_any g.L.Line.service;
  fewer_due_at_switch = fewer_at_switch g.L.Line.service;
  idle_expiry = idle_expiry g.L.Line.service;
  rest = rest_any g.L.Line.service;
  delivered = delivered_any g.L.Line.service;
}
