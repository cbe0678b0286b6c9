use Rattle.switch_laws.proofs.Relaying.{all_relayed_right, all_relayed_stuck}
use Rattle.switch_laws.proofs.Effects.{heeds_right}
use Rattle.switch_laws.proofs.SettingUp.{joins_by_route, not_back}
use Rattle.switch_laws.proofs.JoinsAfterNotes.{begins_right}
use Rattle.switch_laws.proofs.relay.switch_law.Goals as goal

pub returns : goal.returns
returns c = record {
  begins = begins_right;
  relays = all_relayed_right;
  keeps_nothing_back = all_relayed_stuck;
  heeds = heeds_right;
  routes = joins_by_route;
  not_back = not_back;
}
