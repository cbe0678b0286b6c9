use Rattle.service.proofs.EachBridge.{leaves_some, leaves_none}
use Rattle.service.proofs.bridges.Bridges.leave_channel.Goals as goal

pub returns-in-Some : goal.returns-in-Some
returns-in-Some c = leaves_some c.args.at c.in-Some.at _ _ c.in-Some.is c.end_call.ensures

pub returns-in-None : goal.returns-in-None
returns-in-None c = leaves_none c.args.at _ c.in-None.is
