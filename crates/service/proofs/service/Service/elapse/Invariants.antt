use Rattle.std.proofs.Common.{◌≡◌}
use Rattle.service.specs.Terminals.{elapsed}
use Rattle.service.proofs.Ports.{ChangeBelow}
use Rattle.service.proofs.service.Service.elapse.Given as goal

abbrev pub invariant-loop-port : goal.invariant-loop-port
invariant-loop-port g l = record {
  changed : ChangeBelow (elapsed l.ticks) l.port l.initial.self.terminals.items l.self.terminals.items;
  network : l.self.exchange.net ≡ l.initial.self.exchange.net;
  stopping : l.self.stopping ≡ l.initial.self.stopping;
}
