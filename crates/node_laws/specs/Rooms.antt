-- How much room a node's notes need in the book of its line: it is made before an event.
use Rattle.std.specs.Prelude.{ℕ, ◌≤◌}
use Rattle.link_timers.specs.declared.timers.TimerId.{TimerId}
use Rattle.lapb.specs.Machine.{Octets}
use Rattle.x25_pad.specs.Pad.{PadState}
use Rattle.user_nodes.specs.Node.{NodeState, Pad}
use Rattle.user_nodes.specs.NodeEvents.{heard, expired, relinked, restarted}
use Rattle.user_nodes.specs.Terminals.{after_terminal}
use Rattle.user_nodes.specs.Writing.{IsRoomFor}
use Rattle.user_nodes.specs.declared.terminal.TerminalEvent.{TerminalEvent}
use Rattle.node_laws.specs.Quiet.{IsQuiet}

-- room for two writes and for a pair is enough
abbrev pub NeedsTwoAtMost : NodeState → Type 0
NeedsTwoAtMost n = (room pairs : ℕ) → 2 ≤ room → 1 ≤ pairs → IsRoomFor n room pairs

abbrev pub HearingRoom : Type 0
HearingRoom = (n : NodeState) (octets : Octets) → IsQuiet n → NeedsTwoAtMost (heard n octets)

abbrev pub ExpiryRoom : Type 0
ExpiryRoom = (n : NodeState) (id : TimerId) → IsQuiet n → NeedsTwoAtMost (expired n id)

abbrev pub RelinkRoom : Type 0
RelinkRoom = (n : NodeState) → IsQuiet n → NeedsTwoAtMost (relinked n)

abbrev pub RestartRoom : Type 0
RestartRoom = (n : NodeState) → NeedsTwoAtMost (restarted n)

abbrev pub TerminalRoom : Type 0
TerminalRoom = (p : PadState) (terminal : ℕ) (event : TerminalEvent) → IsQuiet (Pad p)
    → NeedsTwoAtMost (Pad (after_terminal terminal event p))
