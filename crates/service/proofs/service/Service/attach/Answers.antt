use Rattle.std.proofs.Common.{◌≡◌, position, Some, sym, refl}
use Rattle.service.specs.Terminals.{is_free_in}
use Rattle.service.proofs.AllTerminals.{there_at}
use Rattle.service.proofs.Keys.{found_within}
use Rattle.service.proofs.Seated.{has_come}
use Rattle.service.proofs.service.Service.attach.Goals as goal

pub returns-clause-came : goal.returns-clause-came
returns-clause-came g c =
    let terminals = c.args.self.now.terminals.items in
    let found : position (is_free_in c.args.table) terminals ≡ Some c.in_ok-port.port = sym c.in_ok-port.ensures in
    has_come c.args.table c.in_ok-port.port terminals _ c.index_mut.result.now c.attach.new.self found
    (there_at terminals c.in_ok-port.port _ _ (found_within (is_free_in c.args.table) terminals _ found) c.index_mut.ensures.value) c.attach.ensures refl
