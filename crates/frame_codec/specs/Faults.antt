-- What is wrong with octets that are no form of a frame, and which of several faults is answered.
use Rattle.std.specs.Prelude.{◌≢◌, ℕ, ◌<◌, List, [], length, slice_index}
use Rattle.link_timers.specs.declared.role.Role.{Role}
use Rattle.frame_codec.specs.declared.fault.FrameFault.{FrameFault}
use Rattle.frame_codec.specs.declared.fault.FrameFault.TheVariants.{
  TooShort,
  WrongAddress,
  UnknownControl,
  InfoNotAllowed,
  InfoTooLong,
}
use Rattle.frame_codec.specs.Frame.{
  Content,
  I,
  Rr,
  Rnr,
  Rej,
  Sabm,
  Disc,
  Dm,
  Ua,
  Frmr,
  FrameValue,
}
use Rattle.frame_codec.specs.FrameForm.{IsHead}

-- the frame may not have this information field, whatever the length of what an I frame carries
abbrev pub IsNotAllowed : Content → List ℕ → Type 0
IsNotAllowed (I ns nr information) field = ⊥
IsNotAllowed (Rr nr) field = field ≢ []
IsNotAllowed (Rnr nr) field = field ≢ []
IsNotAllowed (Rej nr) field = field ≢ []
IsNotAllowed Sabm field = field ≢ []
IsNotAllowed Disc field = field ≢ []
IsNotAllowed Dm field = field ≢ []
IsNotAllowed Ua field = field ≢ []
IsNotAllowed (Frmr report) field = length field ≢ 3

-- an I frame with more than so many octets of information
abbrev pub IsTooLong : (info : ℕ) → Content → List ℕ → Type 0
IsTooLong info (I ns nr information) field = info < length field
IsTooLong info (Rr nr) field = ⊥
IsTooLong info (Rnr nr) field = ⊥
IsTooLong info (Rej nr) field = ⊥
IsTooLong info Sabm field = ⊥
IsTooLong info Disc field = ⊥
IsTooLong info Dm field = ⊥
IsTooLong info Ua field = ⊥
IsTooLong info (Frmr report) field = ⊥

-- the octets, received at an end of this role of a line whose I frames carry at most so many octets, have the fault
abbrev pub HasFault : FrameFault → Role → (info : ℕ) → List ℕ → Type 0
HasFault TooShort at info bytes = length bytes < 2
HasFault WrongAddress at info bytes = (slice_index bytes 0 ≢ 0x01) × (slice_index bytes 0 ≢ 0x03)
HasFault UnknownControl at info bytes = (f : FrameValue) (field : List ℕ) → IsHead at bytes f field → ⊥
HasFault InfoNotAllowed at info bytes = (f : FrameValue) × (field : List ℕ) × IsHead at bytes f field × IsNotAllowed
    f.content field
HasFault InfoTooLong at info bytes = (f : FrameValue) × (field : List ℕ) × IsHead at bytes f field × IsTooLong info f.content
    field

-- the place of a fault in the order in which they are tested
abbrev pub place_of : FrameFault → ℕ
place_of TooShort = 1
place_of WrongAddress = 2
place_of UnknownControl = 3
place_of InfoNotAllowed = 4
place_of InfoTooLong = 5

-- the fault is the first that the octets have
pub record IsFirstFault (fault : FrameFault) (at : Role) (info : ℕ) (bytes : List ℕ) : Type 0 where
  pub has : HasFault fault at info bytes
  pub none_before : (other : FrameFault) → place_of other < place_of fault → HasFault other at info bytes → ⊥
