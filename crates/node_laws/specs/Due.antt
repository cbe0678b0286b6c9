-- How many timers of a node are due.
use Rattle.std.specs.Prelude.{ℕ}
use Rattle.node_laws.specs.LineRecords.Due as end
use Rattle.node_laws.specs.Pads.Expiry as pad
use Rattle.user_nodes.specs.Node.{NodeState, Pad, Host}

-- how many timers run with no tick left, at a PAD those of its terminals among them
abbrev pub due_count : NodeState → ℕ
due_count (Pad p) = pad.due_count p
due_count (Host e) = end.due_count e
