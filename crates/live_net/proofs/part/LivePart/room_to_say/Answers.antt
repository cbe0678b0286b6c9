use Rattle.net_nodes.proofs.Saying.{may_say}
use Rattle.live_net.proofs.part.LivePart.room_to_say.Goals as goal

pub returns-clause-said : goal.returns-clause-said
returns-clause-said g c = rw (← c.self.view_is)
    (may_say c.args.node c.args.channel c.room_to_say.result c.self.inside.nodes c.room_to_say.ensures)
