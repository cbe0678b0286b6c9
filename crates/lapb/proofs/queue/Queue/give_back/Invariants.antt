use Rattle.std.proofs.Common.{◌≡◌, drop}
use Rattle.flow_window.specs.Pool.{Balances}
use Rattle.lapb.proofs.queue.Queue.give_back.Given as goal

abbrev pub invariant-loop : goal.invariant-loop
invariant-loop l = record {
  queue : l.self ≡ record l.fn.self { held = drop l.counter l.fn.self.held };
  pool : Balances l.fn.pool l.fn.self.held l.pool l.self.held;
}
