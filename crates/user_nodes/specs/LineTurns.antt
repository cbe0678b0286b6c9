-- What comes to a node from its line, and what is written of it.
use Rattle.std.specs.Prelude.{ℕ, List, if◌then◌else◌}
use Rattle.link_timers.specs.declared.role.Role.{Role}
use Rattle.link_timers.specs.declared.timers.TimerId.{TimerId}
use Rattle.call_records.specs.Book.{Book}
use Rattle.call_records.specs.Closing.{all_closed}
use Rattle.user_nodes.specs.Node.{NodeState}
use Rattle.user_nodes.specs.Turn.{Turn, unchanged, told}
use Rattle.user_nodes.specs.NodeEvents.{heard, node_runs, expired, relinked, restarted}

-- a frame arrives
abbrev pub hears : Role → NodeState → (octets : List ℕ) → Book → Turn
hears role n octets b = told role (heard n octets) b

-- a timer expires: where it does not run nothing happens
abbrev pub expires : Role → NodeState → TimerId → Book → Turn
expires role n id b = if node_runs n id then told role (expired n id) b else unchanged n b

-- the link is given up and set up again
abbrev pub relinks : Role → NodeState → Book → Turn
relinks role n b = told role (relinked n) b

-- the node restarts: its calls are over for it, of which nothing is told
abbrev pub restarts : Role → NodeState → Book → Turn
restarts role n b = unchanged (restarted n) (all_closed role b)
