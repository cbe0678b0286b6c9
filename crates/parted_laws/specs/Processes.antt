-- A network in several processes. Each of them has a whole network of its own, by one plan, and lets events come to its
-- own nodes alone. A line between nodes of two processes goes over a connection.
use Rattle.std.specs.Prelude.{◌≡◌, ◌≢◌, ℕ, Bool, true, false, ◌==◌, List, [], ◌∷◌, ◌++◌, slice_get, Option, Some, None}
use Rattle.std.specs.Option.{option_map}
use Rattle.link_timers.specs.declared.role.Role.{Role}
use Rattle.link_timers.specs.declared.role.Role.TheVariants.{Dte, Dce}
use Rattle.lapb.specs.Machine.{Octets}
use Rattle.frame_lines.specs.declared.line.Direction.{Direction}
use Rattle.frame_lines.specs.declared.line.Direction.TheVariants.{FromDte, FromDce}
use Rattle.frame_lines.specs.Lines.{Flights, no_flights, flying}
use Rattle.net_events.specs.Network.{NetLine, Network, place_at}
use Rattle.net_nodes.specs.Steps.{hearer}

-- the network that each process has, and the frames on the connection of each line, in each direction, the oldest first
pub record Processes : Type 0 where
  pub parts : ℕ → Network
  pub wires : (line : ℕ) → Direction → List Octets

-- ---- a process changes

-- one process has another network then
pub record PartChanges (k : ℕ) (part : Network) (p q : Processes) : Type 0 where
  pub here : q.parts k ≡ part
  pub others : (other : ℕ) → other ≢ k → q.parts other ≡ p.parts other

abbrev pub SameWires : (p q : Processes) → Type 0
SameWires p q = (line : ℕ) (d : Direction) → q.wires line d ≡ p.wires line d

-- on one connection there are other frames then, in one direction
pub record WireChanges (line : ℕ) (d : Direction) (frames : List Octets) (p q : Processes) : Type 0 where
  pub here : q.wires line d ≡ frames
  pub others : (other : ℕ) (e : Direction) → ((other ≡ line) × (e ≡ d) → ⊥) → q.wires other e ≡ p.wires other e

-- ---- the frames on their way

-- the end that sends in a direction
abbrev pub sender : Direction → Role
sender FromDte = Dte
sender FromDce = Dce

abbrev pub flights_in : Option NetLine → Flights
flights_in None = no_flights
flights_in (Some l) = l.flights

-- the frames in flight on a line, as a process has it
abbrev pub flights_at : (line : ℕ) → Network → Flights
flights_at line part = flights_in (slice_get part.lines line)

-- if both ends are of one process, what is in flight there; else what the hearer's process received, then what is on
-- the connection, then what waits in the sender's process
abbrev pub joined : (same : Bool) → (received wire waiting : List Octets) → List Octets
joined true received wire waiting = received
joined false received wire waiting = received ++ (wire ++ waiting)

-- all frames on their way in a direction of a line whose ends are of these processes, by what each process has in
-- flight there
abbrev pub frames_between : (at : Role → ℕ) → (flights : ℕ → Flights) → (wire : Direction → List Octets) → Direction
    → List Octets
frames_between at flights wire d =
    joined (at (hearer d) == at (sender d)) (flying d (flights (at (hearer d)))) (wire d)
    (flying d (flights (at (sender d))))

abbrev pub ends_of : (owner : ℕ → ℕ) → NetLine → Role → ℕ
ends_of owner l role = owner (place_at role l)

abbrev pub on_way : (owner : ℕ → ℕ) → Processes → (line : ℕ) → NetLine → Direction → List Octets
on_way owner p line l d = frames_between (ends_of owner l) (λ k. flights_at line (p.parts k)) (p.wires line) d

-- ---- one network

-- what is left of frames when some were lost: the others, in their order
pub data IsLeftOf : List Octets → List Octets → Type 0 where
  nothing : IsLeftOf [] []
  stays : (frame : Octets) {left frames : List Octets} → IsLeftOf left frames
      → IsLeftOf (frame ∷ left) (frame ∷ frames)
  goes : (frame : Octets) {left frames : List Octets} → IsLeftOf left frames → IsLeftOf left (frame ∷ frames)

-- a line but for the frames in flight
abbrev pub emptied : NetLine → NetLine
emptied l = record l { flights = no_flights }

abbrev pub line_in : Option NetLine → Option NetLine
line_in found = option_map emptied found

-- the processes are parts of one network: each node is as its process has it, each process has the network's lines, and
-- what is on its way on a line is what is left of the network's frames in flight there. So a frame that a process or a
-- connection loses is still in flight in the network, until a later one is heard
pub record AreOf (owner : ℕ → ℕ) (p : Processes) (s : Network) : Type 0 where
  pub nodes : (place : ℕ) → slice_get (p.parts (owner place)).nodes place ≡ slice_get s.nodes place
  pub lines : (k line : ℕ) → line_in (slice_get (p.parts k).lines line) ≡ line_in (slice_get s.lines line)
  pub flights : (line : ℕ) (l : NetLine) (d : Direction) → slice_get s.lines line ≡ Some l
      → IsLeftOf (on_way owner p line l d) (flying d l.flights)
