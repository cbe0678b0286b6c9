-- What commands say, as plain values: the lists in them are lists of octets.
use Rattle.std.specs.Prelude.{ℕ, Bool, List, [], ◌∷◌, map}
use Rattle.link_timers.specs.declared.timers.TimerId.{TimerId}
use Rattle.frame_lines.specs.declared.line.Direction.{Direction}
use Rattle.packet_host.specs.declared.request.HostRequest.{HostRequest}
use Rattle.packet_host.specs.declared.request.HostRequest.TheVariants as host
use Rattle.user_nodes.specs.declared.terminal.TerminalEvent.{TerminalEvent}
use Rattle.user_nodes.specs.declared.terminal.TerminalEvent.TheVariants.{Key}
use Rattle.net_events.specs.declared.event.Event.{Event}
use Rattle.net_events.specs.declared.event.Event.TheVariants as event
use Rattle.net_files.specs.Commands.{CommandView}
use Rattle.net_files.specs.Commands.{CommandView as command}

-- what is asked of a call
pub data RequestValue : Type 0 where
  Answer : RequestValue
  Refuse : RequestValue
  Say : (octets : List ℕ) → (qualified delivery : Bool) → RequestValue
  Interrupt : (octets : List ℕ) → RequestValue
  Reset : RequestValue
  Clear : RequestValue
  Stop : RequestValue
  Go : RequestValue

-- an event of a network; no word of scripts is that a line is given up
pub data EventValue : Type 0 where
  AtTerminal : (node terminal : ℕ) → TerminalEvent → EventValue
  Call : (node : ℕ) → (address user_data : List ℕ) → EventValue
  Ask : (node channel : ℕ) → RequestValue → EventValue
  Take : (node channel : ℕ) → EventValue
  Deliver : (line : ℕ) → Direction → EventValue
  Lose : (line : ℕ) → Direction → EventValue
  Expire : (node line : ℕ) → TimerId → EventValue
  Relink : (line : ℕ) → EventValue
  GivesUp : (line : ℕ) → EventValue
  Restart : (node : ℕ) → EventValue

-- a command of a script
pub data CommandValue : Type 0 where
  Events : List EventValue → CommandValue
  Flow : CommandValue
  Tick : (ticks : ℕ) → CommandValue
  Trace : (traces : Bool) → CommandValue
  Check : CommandValue

-- ---- of the code's requests, events and commands

abbrev pub request_value : HostRequest → RequestValue
request_value host.Answer = Answer
request_value host.Refuse = Refuse
request_value (host.Say octets qualified delivery) = Say octets.items qualified delivery
request_value (host.Interrupt octets) = Interrupt octets.items
request_value host.Reset = Reset
request_value host.Clear = Clear
request_value host.Stop = Stop
request_value host.Go = Go

abbrev pub event_value : Event → EventValue
event_value (event.AtTerminal node terminal what) = AtTerminal node terminal what
event_value (event.Call node address user_data) = Call node address user_data.items
event_value (event.Ask node channel request) = Ask node channel (request_value request)
event_value (event.Take node channel) = Take node channel
event_value (event.Deliver line direction) = Deliver line direction
event_value (event.Lose line direction) = Lose line direction
event_value (event.Expire node line timer) = Expire node line timer
event_value (event.Relink line) = Relink line
event_value (event.GivesUp line) = GivesUp line
event_value (event.Restart node) = Restart node

-- a key for each octet
abbrev pub key_values : (node terminal : ℕ) → (octets : List ℕ) → List EventValue
key_values node terminal octets = map (λ octet. AtTerminal node terminal (Key octet)) octets

abbrev pub command_value : CommandView → CommandValue
command_value (command.Keys node terminal octets) = Events (key_values node terminal octets)
command_value (command.Event e) = Events (event_value e ∷ [])
command_value command.Flow = Flow
command_value (command.Tick ticks) = Tick ticks
command_value (command.Trace traces) = Trace traces
command_value command.Check = Check
