-- Which timer of a network is due next.
use Rattle.std.specs.Prelude.{ℕ, suc, List, [], ◌∷◌, Option, Some, None}
use Rattle.link_timers.specs.declared.timers.TimerId.{TimerId}
use Rattle.packet_end.specs.PacketEnd.{due}
use Rattle.user_nodes.specs.Node.{node_due}
use Rattle.switch_lines.specs.Lines.{SwitchLine}
use Rattle.net_events.specs.Network.{NetNode, User, Switching, Network}

-- a timer that is due, at the node of this place, on this line
pub record DueTimer : Type 0 where
  pub place : ℕ
  pub line : ℕ
  pub timer : TimerId

-- ---- at one node, the line and the timer

abbrev pub first_on : (line : ℕ) → Option TimerId → (others : Option (ℕ × TimerId)) → Option (ℕ × TimerId)
first_on line None others = others
first_on line (Some timer) others = Some (line, timer)

-- of a switch, the first timer without a tick left of the first own line that has one; beside the own lines stand those
-- of the network
abbrev pub due_on_lines : (lines : List ℕ) → (own : List SwitchLine) → Option (ℕ × TimerId)
due_on_lines [] own = None
due_on_lines (line ∷ lines) [] = None
due_on_lines (line ∷ lines) (l ∷ own) = first_on line (due l.end) (due_on_lines lines own)

abbrev pub due_at : NetNode → Option (ℕ × TimerId)
due_at (User n) = first_on n.line (node_due n.node) None
due_at (Switching n) = due_on_lines n.lines n.switch.lines

-- ---- in the network

abbrev pub due_of : (place : ℕ) → Option (ℕ × TimerId) → (others : Option DueTimer) → Option DueTimer
due_of place None others = others
due_of place (Some d) others = Some (record { place = place; line = d.0; timer = d.1 })

-- the first timer without a tick left of the first node that has one, the nodes being from this place on
abbrev pub due_from : (place : ℕ) → List NetNode → Option DueTimer
due_from place [] = None
due_from place (n ∷ nodes) = due_of place (due_at n) (due_from (suc place) nodes)

abbrev pub next_due : Network → Option DueTimer
next_due s = due_from 0 s.nodes
