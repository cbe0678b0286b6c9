use Rattle.std.proofs.Common.{sym, ap, ◌∙◌}
use Rattle.net_events.specs.Network.{Network}
use Rattle.net_nodes.specs.Questions.{net_shows}
use Rattle.net_nodes.proofs.Saying.{prints_nothing}
use Rattle.line_sim.proofs.net.Net.shows.Goals as goal

pub returns-clause-nothing : goal.returns-clause-nothing
returns-clause-nothing g c = λ nothing. prints_nothing c.args.node c.args.terminal c.args.self.now
    (sym (c.shows.ensures ∙ ap (λ (s : Network). net_shows c.args.node c.args.terminal s) c.self.view_is) ∙ nothing)
