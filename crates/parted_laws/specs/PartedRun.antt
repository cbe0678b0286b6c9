-- A run of two processes to which the law applies: a host in each, at one line. Ticks pass in the second one, the first
-- frame goes over, and is lost there.
use Rattle.std.specs.Prelude.{◌≡◌, ℕ, zero, suc, List, [], ◌∷◌, drop, slice_index_or, Ok}
use Rattle.lapb.specs.Machine.{Octets}
use Rattle.user_nodes.specs.Node.{frames_of}
use Rattle.frame_lines.specs.declared.line.Direction.{Direction}
use Rattle.frame_lines.specs.declared.line.Direction.TheVariants.{FromDte, FromDce}
use Rattle.frame_lines.specs.Lines.{Flights, memory_service}
use Rattle.net_events.specs.Network.{NetLine, Network, all_elapsed}
use Rattle.net_events.specs.Opening.{new_dce}
use Rattle.net_events.specs.declared.answer.Answer.{Answer}
use Rattle.net_events.specs.declared.answer.Outcome.TheVariants.{Done}
use Rattle.net_events.specs.declared.event.Event.TheVariants.{Lose}
use Rattle.run_laws.specs.LostFrameRun.{parameters, two_hosts, line_with, network, first_frames}
use Rattle.parted_laws.specs.Processes.{Processes}
use Rattle.parted_laws.specs.Making.{AreMade}
use Rattle.parted_laws.specs.Running.{Act, ProcessesRun}
use Rattle.parted_laws.specs.Running.Act.{Handles, Passes, Moves}

-- the host of each place is of the process of this number
abbrev pub owner : ℕ → ℕ
owner place = place

-- the line, and a process, with these frames in flight
abbrev pub line_of : (up down : List Octets) → NetLine
line_of up down = record (line_with up) { flights = record { from_dte = up; from_dce = down } }

abbrev pub part : (up down : List Octets) → Network
part up down = record (network up) { lines = line_of up down ∷ [] }

abbrev pub first_down : List Octets
first_down = frames_of (new_dce parameters)

abbrev pub frame : Octets
frame = slice_index_or first_frames 0 []

-- two processes, with these frames on the connection from the DTE; all others have no node
abbrev pub wires_with : (up : List Octets) → (line : ℕ) → Direction → List Octets
wires_with up zero FromDte = up
wires_with up (suc line) FromDte = []
wires_with up line FromDce = []

abbrev pub parts_with : (first second : Network) → (k : ℕ) → Network
parts_with first second zero = first
parts_with first second (suc zero) = second
parts_with first second (suc (suc k)) = part [] []

abbrev pub two : (first second : Network) → (up : List Octets) → Processes
two first second up = record { parts = parts_with first second; wires = wires_with up }

-- each has lost the first frames of the other one's host
abbrev pub start : Processes
start = two (part first_frames []) (part [] first_down) []

abbrev pub end : Processes
end = two (part (drop 1 first_frames) []) (all_elapsed 3 (part [] first_down)) []

abbrev pub acts : Answer → List Act
acts answer = Passes 1 3 ∷ Moves ∷ Moves ∷ Handles 1 (Lose 0 FromDte) (Ok answer) ∷ []

pub record SaysDone (a : Answer) : Type 0 where
  pub frames : a.frames.items ≡ []
  pub notes : a.notes.items ≡ []
  pub text : a.text.items ≡ []
  pub outcome : a.outcome ≡ Done

abbrev pub RunExample : Type 0
RunExample = AreMade memory_service owner two_hosts start
    × ((answer : Answer) → SaysDone answer → ProcessesRun memory_service owner (acts answer) start end)
