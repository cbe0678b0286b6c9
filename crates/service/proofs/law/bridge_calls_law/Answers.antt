use Rattle.service.proofs.EachBridge.{calls_are_carried}
use Rattle.service.proofs.law.bridge_calls_law.Goals as goal

pub returns : goal.returns
returns c = calls_are_carried
