use Rattle.std.proofs.Common.{arith}
use Rattle.call_records.proofs.Rooms.{fewer_calls}
use Rattle.call_records.proofs.ends.Ends.least_places.Goals as goal

pub returns-clause-dte : goal.returns-clause-dte
returns-clause-dte c =
    fewer_calls c.least_places.result c.min.result _ _ (omega (arith, c.min.ensures)) c.least_places.ensures

pub returns-clause-dce : goal.returns-clause-dce
returns-clause-dce c =
    fewer_calls c.least_places-2.result c.min.result _ _ (omega (arith, c.min.ensures)) c.least_places-2.ensures
