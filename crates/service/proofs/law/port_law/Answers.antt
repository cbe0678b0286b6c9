use Rattle.service.proofs.Clients.{clients_are_served}
use Rattle.service.proofs.law.port_law.Goals as goal

pub returns : goal.returns
returns c = clients_are_served
