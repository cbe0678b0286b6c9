-- A link takes octets: a frame, or a frame that cannot be taken.
use Rattle.std.specs.Prelude.{Bool, true, Result, Ok, Err, slice_index, ◌==◌}
use Rattle.link_timers.specs.declared.role.Role.{Role}
use Rattle.link_timers.specs.Role.{other_of}
use Rattle.frame_codec.specs.declared.fault.FrameFault.{FrameFault}
use Rattle.frame_codec.specs.declared.fault.FrameFault.TheVariants.{
  TooShort,
  WrongAddress,
  UnknownControl,
  InfoNotAllowed,
  InfoTooLong,
}
use Rattle.frame_codec.specs.Frame.{FrameValue}
use Rattle.frame_codec.specs.Spelling.{address_of}
use Rattle.frame_codec.specs.Reading.{reading}
use Rattle.lapb.specs.Machine.{
  Octets,
  Link,
  Step,
  UndefinedControl,
  InformationNotAllowed,
  InformationTooLong,
  still,
  on_defect,
  on_frame,
}

-- whether the octets are those of a response
abbrev pub is_response : Role → Octets → Bool
is_response at bytes = slice_index bytes 0 == address_of (other_of at) true

-- octets that are no frame, by what is wrong with them
abbrev pub on_fault : Link → FrameFault → Octets → Step
on_fault l TooShort bytes = still l
on_fault l WrongAddress bytes = still l
on_fault l UnknownControl bytes = on_defect l UndefinedControl (slice_index bytes 1) (is_response l.role bytes)
on_fault l InfoNotAllowed bytes = on_defect l InformationNotAllowed (slice_index bytes 1) (is_response l.role bytes)
on_fault l InfoTooLong bytes = on_defect l InformationTooLong (slice_index bytes 1) (is_response l.role bytes)

abbrev pub on_reading : Link → Octets → Result FrameValue FrameFault → Step
on_reading l bytes (Ok frame) = on_frame l frame
on_reading l bytes (Err fault) = on_fault l fault bytes

-- what a link makes of the octets of a frame
abbrev pub on_octets : Link → Octets → Step
on_octets l bytes = on_reading l bytes (reading l.role l.info bytes)
