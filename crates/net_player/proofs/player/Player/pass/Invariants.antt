use Rattle.std.proofs.Common.{◌≤◌, ◌-◌, List, ℕ}
use Rattle.octet_streams.specs.Written.{Writes}
use Rattle.net_player.specs.Playing.{Passes}
use Rattle.net_player.proofs.player.Player.pass.Given as goal

-- the lines so far are passed
abbrev pub invariant-loop-left : goal.invariant-loop-left
invariant-loop-left g l = Writes (g.W.Write.contents l.initial.out) (g.W.Write.contents l.out)
    (λ (text : List ℕ). Passes g.L.Line.service l.self.names.now l.self.traces l.passed
    (record { left = l.initial.still_left; net = l.initial.net }) text
    (record { left = l.still_left; net = l.net }))
    × (l.still_left ≤ l.initial.still_left) × (l.passed ≤ l.self.lines)

abbrev pub decreases-loop-left : goal.decreases-loop-left
decreases-loop-left g l = l.self.lines - l.passed
