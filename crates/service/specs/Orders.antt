-- What the shell is told to do.
use Rattle.std.specs.Prelude.{◌≡◌, ◌≤◌, ℕ, List, Option, Some, None}
use Rattle.service.specs.declared.service.Order.{Order}
use Rattle.service.specs.declared.service.Order.TheVariants.{Close, Connect, EndWriting, LogOvertaken, LogIdle, LogCall, LogMissed}
use Rattle.service.specs.declared.terminal.Terminal.{Terminal}
use Rattle.service.specs.Terminals.{changed_at, ordered}

-- the port of an order, if it is of one
abbrev pub port_of : Order → Option ℕ
port_of (Close port) = Some port
port_of (Connect port service) = Some port
port_of (EndWriting port) = Some port
port_of (LogOvertaken port keys) = Some port
port_of (LogIdle port) = Some port
port_of (LogCall note) = None
port_of (LogMissed count) = None

abbrev pub ordered_at : Option ℕ → List Terminal → List Terminal
ordered_at None terminals = terminals
ordered_at (Some port) terminals = changed_at port ordered terminals

-- the terminals once an order was given
abbrev pub after_order : Order → List Terminal → List Terminal
after_order order terminals = ordered_at (port_of order) terminals

-- an order for a port from this one on
abbrev pub IsFrom : (first : ℕ) → Order → Type 0
IsFrom first order = (port : ℕ) × (port_of order ≡ Some port) × (first ≤ port)
