-- The grammar of frames as they are read (ISO 7776 3 and 4): which octets are a form of which frame.
use Rattle.std.specs.Prelude.{◌≡◌, ℕ, ◌+◌, ◌*◌, ◌<◌, ◌≤◌, List, [], ◌∷◌, length}
use Rattle.link_timers.specs.declared.role.Role.{Role}
use Rattle.link_timers.specs.Role.{other_of}
use Rattle.frame_codec.specs.Frame.{
  Report,
  Content,
  I,
  Rr,
  Rnr,
  Rej,
  Sabm,
  Disc,
  Dm,
  Ua,
  Frmr,
  FrameValue,
}
use Rattle.frame_codec.specs.Spelling.{address_of, control_of, states_of, reasons_of, GoesAs, HasNumbers}

-- three octets are a form of the report: bit 1 of the second and bits 5 to 8 of the third are not looked at
pub record ReportForm (report : Report) (field : List ℕ) : Type 0 where
  pub spare : ℕ
  pub spares : ℕ
  pub spare_bit : spare < 2
  pub spare_bits : spares < 16
  pub octets : field ≡ report.control ∷ (states_of report + spare) ∷ (spares * 16 + reasons_of report) ∷ []

-- the information field is a form of what the frame says there, and that of an I frame has at most so many octets
abbrev pub FieldForm : (info : ℕ) → Content → List ℕ → Type 0
FieldForm info (I ns nr information) field = (field ≡ information) × (length field ≤ info)
FieldForm info (Rr nr) field = field ≡ []
FieldForm info (Rnr nr) field = field ≡ []
FieldForm info (Rej nr) field = field ≡ []
FieldForm info Sabm field = field ≡ []
FieldForm info Disc field = field ≡ []
FieldForm info Dm field = field ≡ []
FieldForm info Ua field = field ≡ []
FieldForm info (Frmr report) field = ReportForm report field

-- the text begins with the address and the control octet of a frame that the other end may send, and this field
-- follows
pub record IsHead (at : Role) (bytes : List ℕ) (f : FrameValue) (field : List ℕ) : Type 0 where
  pub octets : bytes ≡ address_of (other_of at) f.response ∷ control_of f.content f.pf ∷ field
  pub goes_as : GoesAs f.content f.response
  pub numbers : HasNumbers f.content

-- the octets, received at an end of this role of a line whose I frames carry at most so many octets, are a form of
-- the frame
pub record FrameForm (at : Role) (info : ℕ) (bytes : List ℕ) (f : FrameValue) : Type 0 where
  pub field : List ℕ
  pub head : IsHead at bytes f field
  pub form : FieldForm info f.content field
