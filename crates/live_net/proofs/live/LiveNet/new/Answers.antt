use Rattle.live_net.proofs.Made.{lives_made, made_on, between_on, courses_on, promise_on, stored_made}
use Rattle.live_net.proofs.live.LiveNet.new.Goals as goal

pub invariant_of-result : goal.invariant_of-result
invariant_of-result g c =
    (lives_made g.L.Line.service c.args.config.now _ c.in_ok-bare_nodes.ensures.ok, c.in_ok-roomy_answer.ensures)

pub returns-clause-ok : goal.returns-clause-ok
returns-clause-ok g c = made_on g.L.Line.service c.args.config.now _ c.in_ok-bare_nodes.ensures.ok

pub returns-clause-between : goal.returns-clause-between
returns-clause-between g c = between_on g.L.Line.service c.args.config.now _ c.in_ok-bare_nodes.ensures.ok

pub returns-clause-courses : goal.returns-clause-courses
returns-clause-courses g c = courses_on g.L.Line.service c.args.config.now _ c.in_ok-bare_nodes.ensures.ok

pub returns-clause-headline : goal.returns-clause-headline
returns-clause-headline g c =
    λ faithful. (promise_on g.L.Line.service c.args.config.now _ c.in_ok-bare_nodes.ensures.ok faithful).calls

pub returns-clause-inner : goal.returns-clause-inner
returns-clause-inner g c =
    λ faithful. (promise_on g.L.Line.service c.args.config.now _ c.in_ok-bare_nodes.ensures.ok faithful).inner

pub returns-clause-stored : goal.returns-clause-stored
returns-clause-stored g c = stored_made g.L.Line.service c.args.config.now _ c.in_ok-bare_nodes.ensures.ok
