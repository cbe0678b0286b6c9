use Rattle.std.proofs.Common.{◌≡◌, drop}
use Rattle.circular_buffer.specs.Buffer.{buffer}
use Rattle.service_ports.proofs.key_queue.KeyQueue.drop_front.Given as goal

abbrev pub invariant-loop : goal.invariant-loop
invariant-loop l = l.self ≡ buffer (drop l.counter l.initial.self.items) l.initial.self.capacity
