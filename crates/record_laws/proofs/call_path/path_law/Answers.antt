use Rattle.record_laws.proofs.CallPaths.Making.{made_seen}
use Rattle.record_laws.proofs.CallPaths.SeenAfterEvents.{happens}
use Rattle.record_laws.proofs.CallPaths.Promising.{promised}
use Rattle.record_laws.proofs.CallPaths.Beginning.{paths_hold, made_alike, without_switch}
use Rattle.record_laws.proofs.CallPaths.Showing.{owned, present_shown, came_shown, paired_shown}
use Rattle.record_laws.proofs.CallPaths.Having.{records_shown}
use Rattle.record_laws.proofs.CallPaths.Resting.{rest_paths}
use Rattle.record_laws.proofs.call_path.path_law.Goals as goal

pub returns : goal.returns
returns c = record {
  made = made_seen;
  events = happens;
  promise = promised;
  path = paths_hold;
  alike = made_alike;
  without = without_switch;
  owned = owned;
  records = records_shown;
  present = present_shown;
  came = came_shown;
  paired = paired_shown;
  rest = rest_paths;
}
