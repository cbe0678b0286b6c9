-- A line: for each direction the frames in flight, in the order in which they were sent.
use Rattle.std.specs.Prelude.{◌≡◌, ◌<◌, ◌≤◌, ℕ, ◌⊎◌, List, [], ◌∷◌, ◌++◌, drop, length}
use Rattle.frame_lines.specs.declared.line.Direction.{Direction}
use Rattle.frame_lines.specs.declared.line.Direction.TheVariants.{FromDte, FromDce}

-- the octets of the frames on their way from the DTE and from the DCE
pub record Flights : Type 0 where
  pub from_dte : List (List ℕ)
  pub from_dce : List (List ℕ)

abbrev pub no_flights : Flights
no_flights = record { from_dte = []; from_dce = [] }

-- the frames in flight in a direction
abbrev pub flying : Direction → Flights → List (List ℕ)
flying FromDte f = f.from_dte
flying FromDce f = f.from_dce

-- the same line with these frames in flight in a direction
abbrev pub with_flying : Direction → List (List ℕ) → Flights → Flights
with_flying FromDte frames f = record f { from_dte = frames }
with_flying FromDce frames f = record f { from_dce = frames }

-- without the first frame of a direction; an empty direction stays empty
abbrev pub without_first : Direction → Flights → Flights
without_first d f = with_flying d (drop 1 (flying d f)) f

-- what a line promises: whether it is faithful, and when it may keep and when it may lose a frame that is put in a
-- direction while these are in flight
pub record LineService : Type 1 where
  pub faithful : Type 0
  pub may_keep : Direction → Flights → Type 0
  pub may_lose : Direction → Flights → Type 0

-- a line in memory is faithful, and loses a frame exactly if 64 are in flight in its direction
abbrev pub memory_service : LineService
memory_service = record {
  faithful = Unit {0};
  may_keep = λ d f. length (flying d f) < 64;
  may_lose = λ d f. 64 ≤ length (flying d f);
}

-- a line that loses no frame
abbrev pub lossless_service : LineService
lossless_service = record { faithful = Unit {0}; may_keep = λ d f. Unit {0}; may_lose = λ d f. ⊥ }

-- a frame is put: it comes after the others if the line may keep it, or is lost if the line may lose it
abbrev pub IsPut : LineService → Direction → List ℕ → Flights → Flights → Type 0
IsPut line d frame old new =
    line.may_keep d old × (new ≡ with_flying d (flying d old ++ frame ∷ []) old) ⊎ line.may_lose d old × (new ≡ old)

-- frames are put on the line in order, each after the others or lost
abbrev pub ArePut : LineService → Direction → List (List ℕ) → Flights → Flights → Type 0
ArePut line d [] old new = new ≡ old
ArePut line d (octets ∷ frames) old new =
    (mid : Flights) × IsPut line d octets old mid × ArePut line d frames mid new
