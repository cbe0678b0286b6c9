-- Frames that go from a line, or come to it, by another way than a node's.
use Rattle.std.specs.Prelude.{◌≡◌, ℕ, Bool, List, set, slice_get, Some, None}
use Rattle.std.specs.Bool.{OnTrue, OnFalse}
use Rattle.frame_lines.specs.declared.line.Direction.{Direction}
use Rattle.frame_lines.specs.Lines.{Flights, LineService, flying, without_first, IsPut}
use Rattle.net_events.specs.Network.{NetLine, Network}

-- the network with these frames in flight on a line
abbrev pub with_flights : (line : ℕ) → NetLine → Flights → Network → Network
with_flights line l flights s = record s { lines = set s.lines line (record l { flights = flights }) }

-- the first frame in flight in a direction of a line was taken, if there was one
pub record HandedOn (L : LineService) (line : ℕ) (d : Direction) (l : NetLine) (s : Network) (taken : Bool)
    (frame : List ℕ) (t : Network) : Type 0 where
  pub first : L.faithful → OnTrue taken (slice_get (flying d l.flights) 0 ≡ Some frame)
  pub none : L.faithful → OnFalse taken (slice_get (flying d l.flights) 0 ≡ None)
  pub flights : Flights
  pub rest : L.faithful → flights ≡ without_first d l.flights
  pub others : t ≡ with_flights line l flights s

-- a frame was put on a line in a direction
pub record PutAt (L : LineService) (line : ℕ) (d : Direction) (frame : List ℕ) (l : NetLine) (s t : Network)
    : Type 0 where
  pub flights : Flights
  pub put : L.faithful → IsPut L d frame l.flights flights
  pub others : t ≡ with_flights line l flights s

-- what a line promises of which it is not known whether it is faithful
abbrev pub blind : LineService → LineService
blind L = record L { faithful = ⊥ }
