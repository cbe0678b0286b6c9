-- What is due at a node comes to an end.
use Rattle.std.specs.Prelude.{◌≡◌, ◌<◌, Some}
use Rattle.link_timers.specs.declared.role.Role.{Role}
use Rattle.link_timers.specs.declared.timers.TimerId.{TimerId}
use Rattle.call_records.specs.Book.{Book}
use Rattle.user_nodes.specs.Node.{NodeState, drained, node_due}
use Rattle.user_nodes.specs.LineTurns.{expires}
use Rattle.node_laws.specs.Due.{due_count}
use Rattle.node_laws.specs.Quiet.{IsQuiet}

-- where the timer that is due expires, fewer are due than before: it is stopped, and what is started has ticks left
abbrev pub ExpiryLaw : Type 0
ExpiryLaw = (role : Role) (n : NodeState) (id : TimerId) (b : Book) → IsQuiet n → node_due n ≡ Some id
    → due_count (drained (expires role n id b).node) < due_count n
