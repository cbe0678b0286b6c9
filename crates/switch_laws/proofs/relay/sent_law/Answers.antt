use Rattle.switch_laws.proofs.Framing.{all_are_sent}
use Rattle.switch_laws.proofs.relay.sent_law.Goals as goal

pub returns : goal.returns
returns c = all_are_sent
