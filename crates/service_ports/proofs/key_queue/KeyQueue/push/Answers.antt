use Rattle.std.proofs.Common.{rules}
use Rattle.service_ports.proofs.Counting.{one_left}
use Rattle.service_ports.proofs.key_queue.KeyQueue.push.Goals as goal

pub invariant_of-self : goal.invariant_of-self
invariant_of-self c = (
  one_left c.self.inside.keys.items c.try_push_back.new.self.items c.args.key c.self.inside.counts c.add.new.self
      c.self.invariant.0 (search rules) (search rules) c.add.ensures,
  search rules,
)
