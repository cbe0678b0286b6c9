-- A process of which all nodes are its own is a network in one process.
use Rattle.frame_lines.specs.Lines.{LineService}
use Rattle.net_events.specs.Network.{Network}
use Rattle.net_nodes.specs.Carrying.{blind}
use Rattle.line_sim.specs.Between.{IsBetweenEvents}
use Rattle.line_sim.proofs.Events.{happens}
use Rattle.line_sim.proofs.Stepped.{stepped}
use Rattle.live_laws.specs.Registers.{on}
use Rattle.net_process.specs.Apart.{ApartLaw}

-- what holds between events holds where it is not known whether the lines are faithful
between_blind : (L : LineService) (s : Network) → IsBetweenEvents L s → IsBetweenEvents (blind L) s
between_blind L s b = record {
  any = record {
    network = record {
      lines = b.any.network.lines;
      nodes = b.any.network.nodes;
      holds = λ none. absurd none;
    };
    addressed = b.any.addressed;
  };
  registered = b.registered;
}

pub apart : (L : LineService) → ApartLaw L
apart L e s r t lived = record {
  steps = λ g b.
      let x = lived.steps g (between_blind L (on g s) b) in
      record {
        after = x.after;
        stepped = stepped L e (on g s) r (on x.after t) b x.happens;
        between = happens L e (on g s) r (on x.after t) b x.happens;
      };
  stored = lived.stored;
}
