use Rattle.std.proofs.Common.{ap, ◌∙◌}
use Rattle.net_events.specs.Network.{Network}
use Rattle.net_nodes.specs.Questions.{net_room_to_say}
use Rattle.net_nodes.proofs.Saying.{may_say}
use Rattle.line_sim.proofs.net.Net.room_to_say.Goals as goal

pub returns-clause-said : goal.returns-clause-said
returns-clause-said g c =
    may_say c.args.node c.args.channel c.room_to_say.result c.args.self.now
    (c.room_to_say.ensures ∙ ap (λ (s : Network). net_room_to_say c.args.node c.args.channel s) c.self.view_is)
