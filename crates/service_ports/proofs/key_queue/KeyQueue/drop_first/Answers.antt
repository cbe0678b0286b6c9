use Rattle.std.proofs.Common.{rules}
use Rattle.service_ports.proofs.Counting.{removed_left}
use Rattle.service_ports.proofs.key_queue.KeyQueue.drop_first.Goals as goal

pub invariant_of-self : goal.invariant_of-self
invariant_of-self c = (
  removed_left c.self.inside.keys.items c.pop_front.new.self.items 0 c.in-Some.key c.self.inside.counts c.remove.new.self
      c.self.invariant.0 (search rules) (search rules) c.remove.ensures,
  search rules,
)
