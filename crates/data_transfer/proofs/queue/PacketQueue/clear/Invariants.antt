use Rattle.std.proofs.Common.{◌≡◌, length}
use Rattle.flow_window.specs.Pool.{Balances}
use Rattle.data_transfer.proofs.queue.PacketQueue.clear.Given as goal

abbrev pub invariant-loop-packet : goal.invariant-loop-packet
invariant-loop-packet l = (l.self.places ≡ l.fn.self.places) × Balances l.fn.pool l.fn.self.held l.pool l.self.held

abbrev pub decreases-loop-packet : goal.decreases-loop-packet
decreases-loop-packet l = length l.self.held
