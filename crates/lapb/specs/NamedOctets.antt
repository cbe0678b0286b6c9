-- What N(S) and N(R) name after octets were taken.
use Rattle.std.specs.Prelude.{Result, Ok, Err}
use Rattle.frame_codec.specs.declared.fault.FrameFault.{FrameFault}
use Rattle.frame_codec.specs.Frame.{FrameValue}
use Rattle.frame_codec.specs.Reading.{reading}
use Rattle.lapb.specs.Machine.{Octets, Link}
use Rattle.lapb.specs.Named.{NamesAfter, Keeps}
use Rattle.lapb.specs.Octets.{on_fault}

abbrev pub NamesAfterReading : Link → Octets → Result FrameValue FrameFault → Type 0
NamesAfterReading l bytes (Ok frame) = NamesAfter l frame
NamesAfterReading l bytes (Err fault) = Keeps l (on_fault l fault bytes)

-- the session is what the frame makes of it, or stays what it was where the octets are no frame
abbrev pub NamesAfterOctets : Link → Octets → Type 0
NamesAfterOctets l bytes = NamesAfterReading l bytes (reading l.role l.info bytes)
