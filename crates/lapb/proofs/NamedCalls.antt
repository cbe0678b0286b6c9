-- What N(S) and N(R) name after octets were taken: the laws of frames and of frames that cannot be taken, joined.
use Rattle.std.specs.Prelude.{Result, Ok, Err}
use Rattle.frame_codec.specs.declared.fault.FrameFault.{FrameFault}
use Rattle.frame_codec.specs.declared.fault.FrameFault.TheVariants.{TooShort, WrongAddress, UnknownControl}
use Rattle.frame_codec.specs.declared.fault.FrameFault.TheVariants.{InfoNotAllowed, InfoTooLong}
use Rattle.frame_codec.specs.Frame.{FrameValue, Content, I, Rr, Rnr, Rej, Sabm, Disc, Dm, Ua, Frmr}
use Rattle.frame_codec.specs.Spelling.{HasNumbers}
use Rattle.frame_codec.specs.Reading.{reading}
use Rattle.frame_codec.proofs.Outcomes.{AreOctets}
use Rattle.frame_codec.proofs.Grammar.{IsDecided, reading_decided}
use Rattle.lapb.specs.Machine.{Octets, Link, UndefinedControl, InformationNotAllowed, InformationTooLong}
use Rattle.lapb.specs.Named.{IsInRange, Keeps}
use Rattle.lapb.specs.Octets.{on_fault}
use Rattle.lapb.specs.NamedOctets.{NamesAfterReading, NamesAfterOctets}
use Rattle.lapb.proofs.Naming.{named_on_frame, named_on_defect}

in_range : (content : Content) → HasNumbers content → IsInRange content
in_range (I ns nr packet) numbers = numbers.1
in_range (Rr nr) numbers = numbers
in_range (Rnr nr) numbers = numbers
in_range (Rej nr) numbers = numbers
in_range Sabm numbers = tt
in_range Disc numbers = tt
in_range Dm numbers = tt
in_range Ua numbers = tt
in_range (Frmr report) numbers = tt

keeps_on_fault : (l : Link) (fault : FrameFault) (bytes : Octets) → Keeps l (on_fault l fault bytes)
keeps_on_fault l TooShort bytes = λ s agrees. (agrees, tt)
keeps_on_fault l WrongAddress bytes = λ s agrees. (agrees, tt)
keeps_on_fault l UnknownControl bytes = named_on_defect l UndefinedControl _ _
keeps_on_fault l InfoNotAllowed bytes = named_on_defect l InformationNotAllowed _ _
keeps_on_fault l InfoTooLong bytes = named_on_defect l InformationTooLong _ _

pub named_on_octets : (l : Link) (bytes : Octets) → AreOctets bytes → NamesAfterOctets l bytes
named_on_octets l bytes octets = go (reading l.role l.info bytes) (reading_decided l.role l.info bytes octets)
  where
    go : (read : Result FrameValue FrameFault) → IsDecided l.role l.info bytes read → NamesAfterReading l bytes read
    go (Ok frame) form = named_on_frame l frame (in_range frame.content form.head.numbers)
    go (Err fault) first = keeps_on_fault l fault bytes
