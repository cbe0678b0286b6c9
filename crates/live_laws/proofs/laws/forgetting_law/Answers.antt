use Rattle.live_laws.proofs.Lives.{lived, lives_on, live_elapsed, live_made}
use Rattle.live_laws.proofs.laws.forgetting_law.Goals as goal

pub returns : goal.returns
returns g c = record {
  made = live_made g.L.Line.service;
  event = λ e s r t live h. (lived g.L.Line.service e s r t h, lives_on g.L.Line.service e s r t live h);
  time = live_elapsed g.L.Line.service;
}
