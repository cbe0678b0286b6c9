use Rattle.bridge_ports.proofs.Carried.{bridges_carry, blocks_are_written}
use Rattle.bridge_ports.proofs.law.bridge_law.Goals as goal

pub returns-clause-bridges : goal.returns-clause-bridges
returns-clause-bridges c = bridges_carry

pub returns-clause-blocks : goal.returns-clause-blocks
returns-clause-blocks c = blocks_are_written
