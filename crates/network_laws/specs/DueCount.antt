-- How many timers of a network are due.
use Rattle.std.specs.Prelude.{ℕ, ◌+◌, List, [], ◌∷◌}
use Rattle.node_laws.specs.Due.{due_count}
use Rattle.switched_call_laws.specs.SwitchRecords.DueTimers.{all_due_on}
use Rattle.net_events.specs.Network.{NetNode, User, Switching}

-- how many timers of a node run with no tick left, at a switch those of all its lines, and how many of all nodes
abbrev pub due_at_node : NetNode → ℕ
due_at_node (User n) = due_count n.node
due_at_node (Switching n) = all_due_on n.switch

abbrev pub all_due : List NetNode → ℕ
all_due [] = 0
all_due (n ∷ nodes) = due_at_node n + all_due nodes
