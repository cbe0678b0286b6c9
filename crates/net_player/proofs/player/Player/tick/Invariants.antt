use Rattle.std.proofs.Common.{List, ℕ}
use Rattle.network_laws.specs.DueCount.{all_due}
use Rattle.octet_streams.specs.Written.{Writes}
use Rattle.net_player.proofs.Expiries.{Onward, StopsOnward}
use Rattle.net_player.proofs.player.Player.tick.Given as goal

-- what is written, and what the expiries to come will write, is what all expiries write
abbrev pub invariant-loop-expiry : goal.invariant-loop-expiry
invariant-loop-expiry g l = Writes (g.W.Write.contents l.initial.out) (g.W.Write.contents l.out)
    (λ (told : List ℕ). Onward g.L.Line.service l.self.names.now l.self.traces l.initial.net l.net told
    × StopsOnward g.L.Line.service l.self.names.now l.self.traces l.initial.net l.net told)

-- each expiry leaves fewer due
abbrev pub decreases-loop-expiry : goal.decreases-loop-expiry
decreases-loop-expiry g l = all_due l.net.nodes
