use Rattle.record_laws.proofs.CallPaths.OwnAddresses.{made_owns, written_owns, handed_owns, own_run}
use Rattle.record_laws.proofs.call_path.own_address_law.Goals as goal

pub returns : goal.returns
returns c = record { made = made_owns; writes = written_owns; handed_on = handed_owns; run = own_run }
