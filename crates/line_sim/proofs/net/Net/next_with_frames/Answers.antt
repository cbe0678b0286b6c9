use Rattle.std.proofs.Common.{subst}
use Rattle.net_events.specs.Network.{Network}
use Rattle.net_nodes.specs.Happening.{FindNoFrames}
use Rattle.line_sim.proofs.InFlight.{none_before}
use Rattle.line_sim.proofs.net.Net.next_with_frames.Goals as goal

pub returns-clause-none : goal.returns-clause-none
returns-clause-none g c =
    let L = g.L.Line.service in
    subst (λ (s : Network). FindNoFrames L c.args.from c.next_with_frames.result s) c.self.view_is
    (none_before L c.args.from c.next.result c.next_with_frames.result _
    (λ line after before. c.self.invariant.others line (c.next.ensures.none line after before)) c.next_with_frames.ensures.none)
