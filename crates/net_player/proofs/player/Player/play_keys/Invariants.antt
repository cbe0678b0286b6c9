use Rattle.std.proofs.Common.{take, List, ℕ}
use Rattle.net_events.specs.declared.event.Event.{Event}
use Rattle.net_events.specs.Network.{Network}
use Rattle.net_player.specs.InTurn.{InTurn}
use Rattle.octet_streams.specs.Written.{Writes}
use Rattle.net_player.specs.Playing.{key_events, TellsEvent}
use Rattle.net_player.proofs.player.Player.play_keys.Given as goal

-- the keys so far were typed, and their answers are written
abbrev pub invariant-loop-octet : goal.invariant-loop-octet
invariant-loop-octet g l = Writes (g.W.Write.contents l.initial.out) (g.W.Write.contents l.out)
    (λ (text : List ℕ). InTurn Event Network (TellsEvent g.L.Line.service l.self.names.now l.self.traces)
    (take l.octet-index (key_events l.keys.node l.keys.terminal l.keys.octets.now)) l.initial.net text l.net)
