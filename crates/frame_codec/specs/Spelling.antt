-- The one spelling in octets that each frame is written with (ISO 7776 3 and 4).
use Rattle.std.specs.Prelude.{◌≡◌, ℕ, ◌+◌, ◌*◌, ◌<◌, ◌≤◌, Bool, true, false, List, [], ◌∷◌, length}
use Rattle.link_timers.specs.declared.role.Role.{Role}
use Rattle.link_timers.specs.declared.role.Role.TheVariants.{Dte, Dce}
use Rattle.frame_codec.specs.Frame.{
  Report,
  Content,
  I,
  Rr,
  Rnr,
  Rej,
  Sabm,
  Disc,
  Dm,
  Ua,
  Frmr,
  FrameValue,
}

-- a bit as a number
abbrev pub bit_of : Bool → ℕ
bit_of true = 1
bit_of false = 0

-- the address octet of a frame that an end of this role sends: A is 03 and B is 01, the DCE sends its commands
-- with A and
-- its responses with B, and the DTE the other way round (ISO 7776 4.2)
abbrev pub address_of : Role → (response : Bool) → ℕ
address_of Dce false = 0x03
address_of Dce true = 0x01
address_of Dte false = 0x01
address_of Dte true = 0x03

-- the control octet: N(R) in bits 6 to 8, the poll or final bit in bit 5 and N(S) in bits 2 to 4 of an I frame;
-- N(R) and the
-- poll or final bit in a supervisory frame; the poll or final bit alone in all else (ISO 7776 4.3, table 1)
abbrev pub control_of : Content → (pf : Bool) → ℕ
control_of (I ns nr information) pf = nr * 32 + bit_of pf * 16 + ns * 2
control_of (Rr nr) pf = nr * 32 + bit_of pf * 16 + 0x01
control_of (Rnr nr) pf = nr * 32 + bit_of pf * 16 + 0x05
control_of (Rej nr) pf = nr * 32 + bit_of pf * 16 + 0x09
control_of Sabm pf = bit_of pf * 16 + 0x2F
control_of Disc pf = bit_of pf * 16 + 0x43
control_of Dm pf = bit_of pf * 16 + 0x0F
control_of Ua pf = bit_of pf * 16 + 0x63
control_of (Frmr report) pf = bit_of pf * 16 + 0x87

-- the second octet of a report: V(S) in bits 2 to 4, whether a response was rejected in bit 5, V(R) in bits 6 to 8
abbrev pub states_of : Report → ℕ
states_of report = report.vr * 32 + bit_of report.response * 16 + report.vs * 2

-- the third octet of a report: W, X, Y and Z in bits 1 to 4
abbrev pub reasons_of : Report → ℕ
reasons_of report = bit_of report.z * 8 + bit_of report.y * 4 + bit_of report.x * 2 + bit_of report.w

-- the information field: what an I frame carries, the three octets of a Frame Reject (ISO 7776 5.2), and else nothing
abbrev pub field_of : Content → List ℕ
field_of (I ns nr information) = information
field_of (Rr nr) = []
field_of (Rnr nr) = []
field_of (Rej nr) = []
field_of Sabm = []
field_of Disc = []
field_of Dm = []
field_of Ua = []
field_of (Frmr report) = report.control ∷ states_of report ∷ reasons_of report ∷ []

-- the octets of a frame that an end of this role sends
abbrev pub spelling : Role → FrameValue → List ℕ
spelling from f = address_of from f.response ∷ control_of f.content f.pf ∷ field_of f.content

-- an I frame, SABM and DISC are commands, DM, UA and FRMR are responses, and a supervisory frame is either
abbrev pub GoesAs : Content → (response : Bool) → Type 0
GoesAs (I ns nr information) response = response ≡ false
GoesAs (Rr nr) response = Unit {0}
GoesAs (Rnr nr) response = Unit {0}
GoesAs (Rej nr) response = Unit {0}
GoesAs Sabm response = response ≡ false
GoesAs Disc response = response ≡ false
GoesAs Dm response = response ≡ true
GoesAs Ua response = response ≡ true
GoesAs (Frmr report) response = response ≡ true

-- its sequence numbers are numbers modulo 8, and what a report repeats is an octet and two such numbers
abbrev pub HasNumbers : Content → Type 0
HasNumbers (I ns nr information) = (ns < 8) × (nr < 8)
HasNumbers (Rr nr) = nr < 8
HasNumbers (Rnr nr) = nr < 8
HasNumbers (Rej nr) = nr < 8
HasNumbers Sabm = Unit {0}
HasNumbers Disc = Unit {0}
HasNumbers Dm = Unit {0}
HasNumbers Ua = Unit {0}
HasNumbers (Frmr report) = (report.control < 256) × (report.vs < 8) × (report.vr < 8)

-- the most octets of information that an I frame carries on any line: a packet
abbrev pub most_information : ℕ
most_information = 1028

-- the most octets of a frame: address, control and information
abbrev pub most_octets : ℕ
most_octets = 1030

-- an I frame carries at most so many octets
abbrev pub FitsField : (info : ℕ) → Content → Type 0
FitsField info (I ns nr information) = length information ≤ info
FitsField info (Rr nr) = Unit {0}
FitsField info (Rnr nr) = Unit {0}
FitsField info (Rej nr) = Unit {0}
FitsField info Sabm = Unit {0}
FitsField info Disc = Unit {0}
FitsField info Dm = Unit {0}
FitsField info Ua = Unit {0}
FitsField info (Frmr report) = Unit {0}

-- what has a spelling on a line whose I frames carry at most so many octets
pub record HasSpelling (info : ℕ) (f : FrameValue) : Type 0 where
  pub goes_as : GoesAs f.content f.response
  pub numbers : HasNumbers f.content
  pub fits : FitsField info f.content
