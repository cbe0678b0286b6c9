use Rattle.std.proofs.Common.{subst, sym}
use Rattle.call_records.specs.Register.{Register}
use Rattle.net_events.specs.Network.{Network}
use Rattle.net_events.specs.Opening.{IsMade}
use Rattle.line_sim.proofs.making.made_nodes.Goals as goal

pub returns-clause-ok : goal.returns-clause-ok
returns-clause-ok g c =
    subst (λ (n : Network). IsMade g.L.Line.service c.args.plan.now n) (sym c.new.ensures)
    (subst (λ (r : Register). IsMade g.L.Line.service c.args.plan.now (record { nodes = c.begin_switches.new.nodes.items; lines = c.begin_switches.new.lines.items; register = r }))
    (sym c.in_ok-register.ensures.ok) c.in_ok-begin_switches.ensures.ok)
