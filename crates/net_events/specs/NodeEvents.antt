-- What may happen at a node of a line, and what it makes of the line.
use Rattle.std.specs.Prelude.{◌≡◌, ℕ, ◌≤◌, Bool, false, List, length, slice_get, Some}
use Rattle.link_timers.specs.declared.role.Role.{Role}
use Rattle.link_timers.specs.declared.timers.TimerId.{TimerId}
use Rattle.packet_codec.specs.Address.{AreDigits}
use Rattle.packet_channel.specs.Channel.{Request}
use Rattle.packet_host.specs.Host.{call_parts}
use Rattle.frame_lines.specs.Lines.{Flights, no_flights, flying, without_first, LineService, ArePut}
use Rattle.call_records.specs.Book.{Book}
use Rattle.user_nodes.specs.Node.{NodeState, end_of, is_pad, frames_of}
use Rattle.user_nodes.specs.Turn.{Turn}
use Rattle.user_nodes.specs.HostTurns.{host_calls, host_asks, host_refuses, host_says, host_takes}
use Rattle.user_nodes.specs.Terminals.{HasTerminal, at_terminal}
use Rattle.user_nodes.specs.LineTurns.{hears, expires, relinks, restarts}
use Rattle.user_nodes.specs.declared.terminal.TerminalEvent.{TerminalEvent}
use Rattle.net_events.specs.OneLine.{LineState, node_at, with_turn, direction_of, direction_to}

-- a frame arrives, a timer expires, the link is given up, or the node restarts; the user of a host calls an address,
-- asks something of a call, refuses a call that came in, says or takes something; something happens at a terminal of a
-- PAD
pub data NodeEvent : Type 0 where
  Hears : (octets : List ℕ) → NodeEvent
  Expires : TimerId → NodeEvent
  Relinks : NodeEvent
  Restarts : NodeEvent
  Calls : (address user_data : List ℕ) → NodeEvent
  Asks : (channel : ℕ) → Request → NodeEvent
  Refuses : (channel : ℕ) → NodeEvent
  Says : (channel : ℕ) → (octets : List ℕ) → (qualified delivery : Bool) → NodeEvent
  Takes : (channel : ℕ) → NodeEvent
  AtTerminal : (terminal : ℕ) → TerminalEvent → NodeEvent

-- what it makes of the node and of the book
abbrev pub turn_of : NodeEvent → Role → NodeState → Book → Turn
turn_of (Hears octets) role n b = hears role n octets b
turn_of (Expires id) role n b = expires role n id b
turn_of Relinks role n b = relinks role n b
turn_of Restarts role n b = restarts role n b
turn_of (Calls address user_data) role n b = host_calls role (end_of n) (call_parts address user_data) b
turn_of (Asks channel r) role n b = host_asks role (end_of n) channel r b
turn_of (Refuses channel) role n b = host_refuses role (end_of n) channel b
turn_of (Says channel octets qualified delivery) role n b =
    host_says role (end_of n) channel octets qualified delivery b
turn_of (Takes channel) role n b = host_takes role (end_of n) channel b
turn_of (AtTerminal terminal event) role n b = at_terminal role n terminal event b

-- a host is asked, and a PAD has the terminal; an address has 1 to 15 digits, and a call at most 16 octets of user data
abbrev pub IsFor : NodeEvent → NodeState → Type 0
IsFor (Calls address user_data) n = (is_pad n ≡ false) × AreDigits address × (length user_data ≤ 16)
IsFor (Asks channel r) n = is_pad n ≡ false
IsFor (Refuses channel) n = is_pad n ≡ false
IsFor (Says channel octets qualified delivery) n = is_pad n ≡ false
IsFor (Takes channel) n = is_pad n ≡ false
IsFor (AtTerminal terminal event) n = HasTerminal n terminal
IsFor _ n = Unit {0}

-- what the event takes from the line before the node has its turn: the frame that arrives, which was the first one in
-- flight to it; all frames if the node restarts; else nothing
abbrev pub LeftBy : NodeEvent → Role → (before between : Flights) → Type 0
LeftBy (Hears octets) role before between =
    (slice_get (flying (direction_to role) before) 0 ≡ Some octets)
    × (between ≡ without_first (direction_to role) before)
LeftBy Restarts role before between = between ≡ no_flights
LeftBy _ role before between = between ≡ before

-- the event happened at the node at the end of a role: the node had its turn, and its frames were put on the line
pub record Happened (L : LineService) (event : NodeEvent) (role : Role) (s t : LineState) : Type 0 where
  pub is_for : IsFor event (node_at role s)
  pub between : Flights
  pub left : L.faithful → LeftBy event role s.flights between
  pub put : L.faithful
      → ArePut L (direction_of role) (frames_of (turn_of event role (node_at role s) s.book).node) between t.flights
  pub others : t ≡ with_turn role (turn_of event role (node_at role s) s.book) t.flights s
