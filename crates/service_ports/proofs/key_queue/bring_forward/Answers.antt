use Rattle.service_ports.proofs.Forward.{brought}
use Rattle.service_ports.proofs.key_queue.bring_forward.Goals as goal

pub returns-clause-others : goal.returns-clause-others
returns-clause-others c = brought c.args.keys.now c.rotate_right.new.self c.args.place c.requires c.rotate_right.ensures.after
