use Rattle.service.proofs.Bridged.{orders_past}
use Rattle.service.proofs.service.Service.next_bridge_order.Goals as goal

pub returns-clause-given : goal.returns-clause-given
returns-clause-given g c = orders_past _ _ _ c.first_bridge-first.ensures c.order.ensures.from
