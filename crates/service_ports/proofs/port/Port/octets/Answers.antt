use Rattle.std.proofs.Common.{arith}
use Rattle.service_ports.proofs.PortsHeard.{heard_more}
use Rattle.service_ports.proofs.port.Port.octets.Goals as goal

pub loop-octet-preserved : goal.loop-octet-preserved
loop-octet-preserved c = (
  omega arith,
  heard_more c.args.self.now c.loop-octet.self c.hear.new.self c.args.octets.now c.loop-octet.octet-index
      c.loop-octet-test.true c.loop-octet.invariant.1 c.hear.ensures,
)
