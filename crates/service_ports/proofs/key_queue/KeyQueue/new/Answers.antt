use Rattle.std.proofs.Common.{rules}
use Rattle.service_ports.proofs.Counting.{none_left}
use Rattle.service_ports.proofs.key_queue.KeyQueue.new.Goals as goal

pub invariant_of-result : goal.invariant_of-result
invariant_of-result c = (none_left c.in_ok-keys.keys.items c.new.result (search rules) c.new.ensures, search rules)
