-- The commands of a script, and how they are kept.
use Rattle.std.specs.Prelude.{◌≡◌, ℕ, Bool, List, [], ◌∷◌, length, take, drop, map}
use Rattle.std.specs.List.{flat_map}
use Rattle.net_events.specs.declared.event.Event.{Event as NetEvent}
use Rattle.net_files.specs.declared.commands.ScriptCommand.{ScriptCommand}
use Rattle.net_files.specs.declared.commands.ScriptCommand.TheVariants as command
use Rattle.net_files.specs.declared.commands.Entry.{Entry}
use Rattle.net_files.specs.declared.commands.Entry.TheVariants as entry

-- what a line of a script asks for: keys at a terminal, an event, a flow of frames, time that goes by, whether frames
-- are traced from there on, and a check of the calls
pub data CommandView : Type 0 where
  Keys : (node terminal : ℕ) → (octets : List ℕ) → CommandView
  Event : NetEvent → CommandView
  Flow : CommandView
  Tick : (ticks : ℕ) → CommandView
  Trace : (traces : Bool) → CommandView
  Check : CommandView

abbrev pub view_of : ScriptCommand → CommandView
view_of (command.Keys keys) = Keys keys.node keys.terminal keys.octets.now
view_of (command.Event e) = Event e.now
view_of command.Flow = Flow
view_of (command.Tick ticks) = Tick ticks
view_of (command.Trace traces) = Trace traces
view_of command.Check = Check

-- the commands of entries in order: keys take so many of the octets, and an event is the next of the events
abbrev pub read_commands : List Entry → List NetEvent → (octets : List ℕ) → List CommandView
read_commands [] events octets = []
read_commands (entry.Keys node terminal count ∷ entries) events octets =
    Keys node terminal (take count octets) ∷ read_commands entries events (drop count octets)
read_commands (entry.Event ∷ entries) [] octets = []
read_commands (entry.Event ∷ entries) (e ∷ events) octets = Event e ∷ read_commands entries events octets
read_commands (entry.Flow ∷ entries) events octets = Flow ∷ read_commands entries events octets
read_commands (entry.Tick ticks ∷ entries) events octets = Tick ticks ∷ read_commands entries events octets
read_commands (entry.Trace traces ∷ entries) events octets = Trace traces ∷ read_commands entries events octets
read_commands (entry.Check ∷ entries) events octets = Check ∷ read_commands entries events octets

-- what is kept of a command: its entry, its event if it is one, and the octets of its keys
abbrev pub entry_of : CommandView → Entry
entry_of (Keys node terminal octets) = entry.Keys node terminal (length octets)
entry_of (Event e) = entry.Event
entry_of Flow = entry.Flow
entry_of (Tick ticks) = entry.Tick ticks
entry_of (Trace traces) = entry.Trace traces
entry_of Check = entry.Check

abbrev pub events_of : CommandView → List NetEvent
events_of (Event e) = e ∷ []
events_of _ = []

abbrev pub octets_of : CommandView → List ℕ
octets_of (Keys node terminal octets) = octets
octets_of _ = []

-- the commands that are read are those that are kept, and nothing else is
pub record AreKept (entries : List Entry) (events : List NetEvent) (octets : List ℕ) : Type 0 where
  pub in_place : entries ≡ map entry_of (read_commands entries events octets)
  pub with_events : events ≡ flat_map events_of (read_commands entries events octets)
  pub with_octets : octets ≡ flat_map octets_of (read_commands entries events octets)
