-- What makes the frames of two links readable: numbers modulo 8, packets that fit, reports of octets.
use Rattle.std.specs.Prelude.{◌≡◌, ℕ, ◌<◌, ◌≤◌, List, [], ◌∷◌, length}
use Rattle.link_timers.specs.declared.role.Role.{Role}
use Rattle.frame_codec.specs.Frame.{Report}
use Rattle.frame_codec.specs.Spelling.{spelling, HasSpelling}
use Rattle.lapb.specs.Machine.{Octets, Link}
use Rattle.lapb.specs.World.{Sent, World, Event, Offer}

-- each packet has at most so many octets
abbrev pub AllShort : (info : ℕ) → List Octets → Type 0
AllShort info [] = Unit {0}
AllShort info (packet ∷ packets) = (length packet ≤ info) × AllShort info packets

pub record ReportFits (report : Report) : Type 0 where
  pub control : report.control < 256
  pub vs : report.vs < 8
  pub vr : report.vr < 8

-- a link of a line whose I frames carry at most so many octets
pub record IsFit (info : ℕ) (l : Link) : Type 0 where
  pub info_is : l.info ≡ info
  pub oldest : l.oldest < 8
  pub expected : l.expected < 8
  pub short : AllShort info l.queue
  pub report : ReportFits l.report

-- each frame on the way has a spelling
abbrev pub AllSpelt : (info : ℕ) → List Sent → Type 0
AllSpelt info [] = Unit {0}
AllSpelt info (s ∷ rest) = HasSpelling info s.frame × AllSpelt info rest

-- two links of one line, whose I frames carry at most as many octets at either end
pub record AreFit (w : World) : Type 0 where
  pub info : ℕ
  pub dte : IsFit info w.dte
  pub dce : IsFit info w.dce
  pub up : AllSpelt info w.up
  pub down : AllSpelt info w.down

-- the packet that is offered has at most so many octets
abbrev pub IsShort : (info : ℕ) → Event → Type 0
IsShort info (Offer at packet) = length packet ≤ info
IsShort info _ = Unit {0}

-- the octets on the way from an end of this role
abbrev pub octets_of : Role → List Sent → List Octets
octets_of from [] = []
octets_of from (s ∷ rest) = spelling from s.frame ∷ octets_of from rest
