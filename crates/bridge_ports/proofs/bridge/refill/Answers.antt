use Rattle.bridge_ports.proofs.Carried.{filled}
use Rattle.bridge_ports.proofs.bridge.refill.Goals as goal

pub returns : goal.returns
returns c =
    filled c.args.octets.now c.clear.new.self c.fill.new.self c.fill.result c.clear.ensures c.fill.ensures.taken c.fill.ensures.after
