use Rattle.switched_call_laws.proofs.JoinedCalls.CallsAfterEvents.{calls_hold}
use Rattle.switched_call_laws.proofs.joined_call.joined_call_law.Goals as goal

pub returns : goal.returns
returns c = calls_hold
