use Rattle.std.proofs.Common.{◌≡◌}
use Rattle.service.specs.Terminals.{ended}
use Rattle.service.proofs.Ports.{ChangeBelow}
use Rattle.service.proofs.service.Service.stop.Given as goal

abbrev pub invariant-loop-port : goal.invariant-loop-port
invariant-loop-port g l = record {
  changed : ChangeBelow ended l.port l.initial.self.terminals.items l.self.terminals.items;
  network : l.self.exchange.net ≡ l.initial.self.exchange.net;
}
