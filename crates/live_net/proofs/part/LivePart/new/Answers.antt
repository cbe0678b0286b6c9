use Rattle.live_net.proofs.Made.{made_on, stored_made}
use Rattle.live_net.proofs.Parts.{part_lives_made}
use Rattle.live_net.proofs.part.LivePart.new.Goals as goal

pub invariant_of-result : goal.invariant_of-result
invariant_of-result g c =
    (part_lives_made g.L.Line.service c.args.config.now _ c.in_ok-bare_nodes.ensures.ok, c.in_ok-roomy_answer.ensures)

pub returns-clause-ok : goal.returns-clause-ok
returns-clause-ok g c = made_on g.L.Line.service c.args.config.now _ c.in_ok-bare_nodes.ensures.ok

pub returns-clause-stored : goal.returns-clause-stored
returns-clause-stored g c = stored_made g.L.Line.service c.args.config.now _ c.in_ok-bare_nodes.ensures.ok
