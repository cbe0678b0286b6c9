use Rattle.std.proofs.Common.{◌++◌, List, ℕ}
use Rattle.net_events.specs.Network.{Network}
use Rattle.net_files.specs.declared.fault.ProgFault.{ProgFault}
use Rattle.octet_streams.specs.Written.{Writes}
use Rattle.net_player.specs.Playing.{Flows}
use Rattle.net_player.specs.Stopping.{FlowStops}
use Rattle.net_player.proofs.player.Player.flow.Given as goal

-- what is written, and what the passes to come will write, is what the flow writes, to its end or until it stops
abbrev pub invariant-loop-still_left : goal.invariant-loop-still_left
invariant-loop-still_left g l = Writes (g.W.Write.contents l.initial.out) (g.W.Write.contents l.out)
    (λ (told : List ℕ). ((rest : List ℕ) (t : Network)
    → Flows g.L.Line.service l.self.names.now l.self.traces l.self.lines (record { left = l.left; net = l.net }) rest t
    → Flows g.L.Line.service l.self.names.now l.self.traces l.self.lines (record { left = l.initial.left; net = l.initial.net }) (told ++ rest) t)
    × ((fault : ProgFault) (part : List ℕ)
    → FlowStops g.L.Line.service l.self.names.now l.self.traces l.self.lines fault (record { left = l.left; net = l.net }) part
    → FlowStops g.L.Line.service l.self.names.now l.self.traces l.self.lines fault (record { left = l.initial.left; net = l.initial.net }) (told ++ part)))

abbrev pub decreases-loop-still_left : goal.decreases-loop-still_left
decreases-loop-still_left g l = l.left
