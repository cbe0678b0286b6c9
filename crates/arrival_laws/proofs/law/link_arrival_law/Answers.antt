use Rattle.arrival_laws.proofs.Arrived.{arrives, comes_to_rest}
use Rattle.arrival_laws.proofs.Ending.{ends}
use Rattle.arrival_laws.proofs.Staying.{stays}
use Rattle.arrival_laws.proofs.Rows.{may_recover}
use Rattle.arrival_laws.proofs.law.link_arrival_law.Goals as goal

pub returns-clause-arrives : goal.returns-clause-arrives
returns-clause-arrives c = arrives

pub returns-clause-comes_to_rest : goal.returns-clause-comes_to_rest
returns-clause-comes_to_rest c = comes_to_rest

pub returns-clause-ends : goal.returns-clause-ends
returns-clause-ends c = ends

pub returns-clause-stays : goal.returns-clause-stays
returns-clause-stays c = stays

pub returns-clause-may_recover : goal.returns-clause-may_recover
returns-clause-may_recover c = may_recover
