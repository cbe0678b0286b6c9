use Rattle.bridge_ports.proofs.Carried.{in_are_said, taken_are_written}
use Rattle.bridge_ports.proofs.law.bridge_port_law.Goals as goal

pub returns-clause-said : goal.returns-clause-said
returns-clause-said c = in_are_said

pub returns-clause-written : goal.returns-clause-written
returns-clause-written c = taken_are_written
