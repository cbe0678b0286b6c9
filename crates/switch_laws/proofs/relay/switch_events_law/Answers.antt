use Rattle.switch_laws.proofs.SwitchAfterEvents.{events_hold}
use Rattle.switch_laws.proofs.relay.switch_events_law.Goals as goal

pub returns : goal.returns
returns c = events_hold
