use Rattle.std.proofs.Common.{rules}
use Rattle.service_ports.proofs.Counting.{none_left}
use Rattle.service_ports.proofs.key_queue.KeyQueue.clear.Goals as goal

pub invariant_of-self : goal.invariant_of-self
invariant_of-self c = (none_left c.clear.new.self.items c.new-self-inside.result (search rules) c.new-self-inside.ensures, search rules)
