-- The events of a line at a node.
use Rattle.std.specs.Prelude.{ℕ, Bool, List}
use Rattle.link_timers.specs.declared.timers.TimerId.{TimerId}
use Rattle.packet_end.specs.PacketEnd as end
use Rattle.packet_host.specs.Host as host
use Rattle.x25_pad.specs.Pad as pad
use Rattle.user_nodes.specs.Node.{NodeState, Pad, Host}

-- a frame arrives
abbrev pub heard : NodeState → (octets : List ℕ) → NodeState
heard (Pad p) octets = Pad (pad.after_frame p octets)
heard (Host e) octets = Host (host.after_frame e octets)

-- a timer expires, of the line or of a terminal of a PAD: where it does not run nothing happens
abbrev pub node_runs : NodeState → TimerId → Bool
node_runs (Pad p) id = pad.runs_at p id
node_runs (Host e) id = end.runs_at e id

abbrev pub expired : NodeState → TimerId → NodeState
expired (Pad p) id = Pad (pad.after_timer p id)
expired (Host e) id = Host (host.after_expiry e id)

-- the link is given up and set up again
abbrev pub relinked : NodeState → NodeState
relinked (Pad p) = Pad (pad.after_relink p)
relinked (Host e) = Host (host.after_relink e)

-- the node restarts: its calls are over for it, of which nothing is told
abbrev pub restarted : NodeState → NodeState
restarted (Pad p) = Pad (pad.restarted p)
restarted (Host e) = Host (end.restarted e)
