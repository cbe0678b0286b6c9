-- Reading a frame as a function of its octets: the frame, or the first fault.
use Rattle.std.specs.Prelude.{
  ℕ,
  ◌/◌,
  ◌%◌,
  ◌==◌,
  ◌||◌,
  Bool,
  true,
  false,
  List,
  [],
  ◌∷◌,
  length,
  Result,
  Ok,
  Err,
  nat_le,
  if◌then◌else◌,
}
use Rattle.link_timers.specs.declared.role.Role.{Role}
use Rattle.link_timers.specs.Role.{other_of}
use Rattle.frame_codec.specs.declared.fault.FrameFault.{FrameFault}
use Rattle.frame_codec.specs.declared.fault.FrameFault.TheVariants.{
  TooShort,
  WrongAddress,
  UnknownControl,
  InfoNotAllowed,
  InfoTooLong,
}
use Rattle.frame_codec.specs.Frame.{Content, I, Rr, Rnr, Rej, Sabm, Disc, Dm, Ua, Frmr, FrameValue}
use Rattle.frame_codec.specs.Spelling.{address_of}

-- whether the bit is set that stands for this power of two
abbrev pub has_bit : ℕ → ℕ → Bool
has_bit octet power = octet / power % 2 == 1

-- a frame that has no information field
abbrev pub bare : Content → List ℕ → Result Content FrameFault
bare content [] = Ok content
bare content (octet ∷ octets) = Err InfoNotAllowed

-- an I frame of at most so many octets of information
abbrev pub information_read : (info : ℕ) → ℕ → List ℕ → Result Content FrameFault
information_read info control field =
    if nat_le (length field) info then Ok (I (control / 2 % 8) (control / 32) field) else Err InfoTooLong

-- the report of a Frame Reject
abbrev pub report_read : List ℕ → Result Content FrameFault
report_read (control ∷ states ∷ reasons ∷ []) =
    Ok (Frmr (record {
      control = control;
      vs = states / 2 % 8;
      vr = states / 32;
      response = has_bit states 16;
      w = has_bit reasons 1;
      x = has_bit reasons 2;
      y = has_bit reasons 4;
      z = has_bit reasons 8;
    }))
report_read field = Err InfoNotAllowed

-- what is a command alone, by its control octet
abbrev pub command_read : (info : ℕ) → ℕ → List ℕ → Result Content FrameFault
command_read info control field =
    if control % 2 == 0 then information_read info control field
    else if control == 0x2F || control == 0x3F then bare Sabm field
    else if control == 0x43 || control == 0x53 then bare Disc field
    else Err UnknownControl

-- what is a response alone
abbrev pub response_read : ℕ → List ℕ → Result Content FrameFault
response_read control field =
    if control == 0x0F || control == 0x1F then bare Dm field
    else if control == 0x63 || control == 0x73 then bare Ua field
    else if control == 0x87 || control == 0x97 then report_read field
    else Err UnknownControl

-- what a frame says, by its direction, its control octet and its information field
abbrev pub content_read : (info : ℕ) → (response : Bool) → ℕ → List ℕ → Result Content FrameFault
content_read info response control field =
    if control % 16 == 0x01 then bare (Rr (control / 32)) field
    else if control % 16 == 0x05 then bare (Rnr (control / 32)) field
    else if control % 16 == 0x09 then bare (Rej (control / 32)) field
    else if response then response_read control field
    else command_read info control field

-- the whole frame, with its poll or final bit
abbrev pub with_head : (response pf : Bool) → Result Content FrameFault → Result FrameValue FrameFault
with_head response pf (Ok content) = Ok (record { content = content; response = response; pf = pf })
with_head response pf (Err fault) = Err fault

-- the octets that an end of this role receives on a line whose I frames carry at most so many octets
abbrev pub reading : Role → (info : ℕ) → List ℕ → Result FrameValue FrameFault
reading at info [] = Err TooShort
reading at info (address ∷ []) = Err TooShort
reading at info (address ∷ control ∷ field) =
    if address == address_of (other_of at) false then with_head false (has_bit control 16) (content_read info false
    control field)
    else if address == address_of (other_of at) true then with_head true (has_bit control 16) (content_read info true
    control field)
    else Err WrongAddress
