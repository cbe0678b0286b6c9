use Rattle.std.proofs.Common.{◌≡◌}
use Rattle.service.proofs.service.Service.next_order.Given as goal

abbrev pub invariant-loop-port : goal.invariant-loop-port
invariant-loop-port g l = record {
  ports : l.self.terminals.items ≡ l.fn.self.terminals.items;
  network : l.self.exchange.net ≡ l.fn.self.exchange.net;
}
