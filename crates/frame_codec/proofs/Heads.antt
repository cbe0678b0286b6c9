-- What an address and a control octet of a frame are read as: the frame, up to what its information field decides.
use Rattle.std.proofs.Common.{
  ◌≡◌,
  ℕ,
  ◌+◌,
  ◌*◌,
  ◌/◌,
  ◌%◌,
  ◌<◌,
  Bool,
  true,
  false,
  List,
  ◌∷◌,
  length,
  refl,
  sym,
  ◌∙◌,
  ap,
  subst,
  arith,
}
use Rattle.std.specs.Prelude.{Result, Ok, Err, nat_le, nat_eq, if◌then◌else◌}
use borrow.Author.Tests.{ne_eqb}
use Rattle.link_timers.specs.declared.role.Role.{Role}
use Rattle.link_timers.specs.declared.role.Role.TheVariants.{Dte, Dce}
use Rattle.link_timers.specs.Role.{other_of}
use Rattle.frame_codec.specs.declared.fault.FrameFault.{FrameFault}
use Rattle.frame_codec.specs.declared.fault.FrameFault.TheVariants.{InfoTooLong}
use Rattle.frame_codec.specs.Frame.{Content, I, Rr, Rnr, Rej, Sabm, Disc, Dm, Ua, Frmr, FrameValue}
use Rattle.frame_codec.specs.Spelling.{bit_of, address_of, control_of, GoesAs, HasNumbers}
use Rattle.frame_codec.specs.FrameForm.{IsHead}
use Rattle.frame_codec.specs.Reading.{has_bit, bare, report_read, content_read, with_head, reading}

-- what the information field makes of a frame with this control octet
abbrev pub field_read : (info : ℕ) → Content → List ℕ → Result Content FrameFault
field_read info (I ns nr information) field =
    if nat_le (length field) info then Ok (I ns nr field) else Err InfoTooLong
field_read info (Rr nr) field = bare (Rr nr) field
field_read info (Rnr nr) field = bare (Rnr nr) field
field_read info (Rej nr) field = bare (Rej nr) field
field_read info Sabm field = bare Sabm field
field_read info Disc field = bare Disc field
field_read info Dm field = bare Dm field
field_read info Ua field = bare Ua field
field_read info (Frmr report) field = report_read field

-- a bit below two
pub bit_of_below : (b : Bool) → bit_of b < 2
bit_of_below true = omega arith
bit_of_below false = omega arith

-- a bit that is tested is that bit
pub tested : (b : Bool) → nat_eq (bit_of b) 1 ≡ b
tested true = refl
tested false = refl

-- bit 5, above any four bits and below any three
pub has_bit_16 : (b : Bool) (high low : ℕ) → low < 16 → has_bit (high * 32 + bit_of b * 16 + low) 16 ≡ b
has_bit_16 b high low below =
    let bound = bit_of_below b in
    let middle : (high * 32 + bit_of b * 16 + low) / 16 % 2 ≡ bit_of b = omega arith in
    ap (λ n. nat_eq n 1) middle ∙ tested b

-- the supervisory frames, by the low half of their control octet
ready : (info : ℕ) (response : Bool) (control nr : ℕ) (field : List ℕ) → control % 16 ≡ 1 → control / 32 ≡ nr →
    content_read info response control field ≡ bare (Rr nr) field
ready info response control nr field low high = rw (low, high) refl

not_ready : (info : ℕ) (response : Bool) (control nr : ℕ) (field : List ℕ) → control % 16 ≡ 5 → control / 32 ≡ nr →
    content_read info response control field ≡ bare (Rnr nr) field
not_ready info response control nr field low high = rw (low, high) refl

rejects : (info : ℕ) (response : Bool) (control nr : ℕ) (field : List ℕ) → control % 16 ≡ 9 → control / 32 ≡ nr →
    content_read info response control field ≡ bare (Rej nr) field
rejects info response control nr field low high = rw (low, high) refl

-- an I frame, by the lowest bit of its control octet
informs : (info : ℕ) (control ns nr : ℕ) (field : List ℕ) → control % 2 ≡ 0 → control / 2 % 8 ≡ ns → control / 32 ≡
    nr → content_read info false control field ≡ field_read info (I ns nr field) field
informs info control ns nr field even low high =
    let one : nat_eq (control % 16) 1 ≡ false = ne_eqb (control % 16) 1 (λ e. omega arith) in
    let five : nat_eq (control % 16) 5 ≡ false = ne_eqb (control % 16) 5 (λ e. omega arith) in
    let nine : nat_eq (control % 16) 9 ≡ false = ne_eqb (control % 16) 9 (λ e. omega arith) in
    rw (one, five, nine, even, low, high) refl

-- the control octet of a frame, read in its direction
pub content_read-control_of : (info : ℕ) (content : Content) (response pf : Bool) (field : List ℕ) → GoesAs content response
    → HasNumbers content → content_read info response (control_of content pf) field ≡ field_read info content field
content_read-control_of info (I ns nr information) response pf field goes numbers =
    let bound = bit_of_below pf in
    subst (λ b. content_read info b (nr * 32 + bit_of pf * 16 + ns * 2) field ≡ field_read info (I ns
    nr information) field) (sym goes)
    (informs info (nr * 32 + bit_of pf * 16 + ns * 2) ns nr field (omega arith) (omega (
      arith,
      numbers.0,
    )) (omega (arith, numbers.0)))
content_read-control_of info (Rr nr) response pf field goes numbers =
    let bound = bit_of_below pf in ready info response (nr * 32 + bit_of pf * 16 + 0x01) nr field (omega
    arith) (omega arith)
content_read-control_of info (Rnr nr) response pf field goes numbers =
    let bound = bit_of_below pf in not_ready info response (nr * 32 + bit_of pf * 16 + 0x05) nr field
    (omega arith) (omega arith)
content_read-control_of info (Rej nr) response pf field goes numbers =
    let bound = bit_of_below pf in rejects info response (nr * 32 + bit_of pf * 16 + 0x09) nr field (omega
    arith) (omega arith)
content_read-control_of info Sabm true pf field goes numbers = absurd (cc)
content_read-control_of info Sabm false true field goes numbers = refl
content_read-control_of info Sabm false false field goes numbers = refl
content_read-control_of info Disc true pf field goes numbers = absurd (cc)
content_read-control_of info Disc false true field goes numbers = refl
content_read-control_of info Disc false false field goes numbers = refl
content_read-control_of info Dm false pf field goes numbers = absurd (cc)
content_read-control_of info Dm true true field goes numbers = refl
content_read-control_of info Dm true false field goes numbers = refl
content_read-control_of info Ua false pf field goes numbers = absurd (cc)
content_read-control_of info Ua true true field goes numbers = refl
content_read-control_of info Ua true false field goes numbers = refl
content_read-control_of info (Frmr report) false pf field goes numbers = absurd (cc)
content_read-control_of info (Frmr report) true true field goes numbers = refl
content_read-control_of info (Frmr report) true false field goes numbers = refl

-- and its poll or final bit
pub has_bit-control_of : (content : Content) (pf : Bool) → HasNumbers content → has_bit (control_of content pf)
    16 ≡ pf
has_bit-control_of (I ns nr information) pf numbers = has_bit_16 pf nr (ns * 2) (omega
    (arith, numbers.0))
has_bit-control_of (Rr nr) pf numbers = has_bit_16 pf nr 1 (omega arith)
has_bit-control_of (Rnr nr) pf numbers = has_bit_16 pf nr 5 (omega arith)
has_bit-control_of (Rej nr) pf numbers = has_bit_16 pf nr 9 (omega arith)
has_bit-control_of Sabm true numbers = refl
has_bit-control_of Sabm false numbers = refl
has_bit-control_of Disc true numbers = refl
has_bit-control_of Disc false numbers = refl
has_bit-control_of Dm true numbers = refl
has_bit-control_of Dm false numbers = refl
has_bit-control_of Ua true numbers = refl
has_bit-control_of Ua false numbers = refl
has_bit-control_of (Frmr report) true numbers = refl
has_bit-control_of (Frmr report) false numbers = refl

-- the address octet tells commands from responses
pub reading-address_of : (at : Role) (info : ℕ) (response : Bool) (control : ℕ) (field : List ℕ) → reading at info (address_of
    (other_of at) response ∷ control ∷ field) ≡ with_head response (has_bit control 16) (content_read info response
    control field)
reading-address_of Dte info true control field = refl
reading-address_of Dte info false control field = refl
reading-address_of Dce info true control field = refl
reading-address_of Dce info false control field = refl

-- what a text is read as that begins with the head of a frame
pub reading_at_head : (at : Role) (info : ℕ) (bytes : List ℕ) (f : FrameValue) (field : List ℕ) → IsHead at bytes f field →
    reading at info bytes ≡ with_head f.response f.pf (field_read info f.content field)
reading_at_head at info bytes f field head =
    ap (reading at info) head.octets
    ∙ reading-address_of at info f.response (control_of f.content f.pf) field
    ∙ ap (λ pf. with_head f.response pf (content_read info f.response (control_of f.content f.pf) field))
    (has_bit-control_of f.content f.pf head.numbers)
    ∙ ap (with_head f.response f.pf) (content_read-control_of info f.content f.response f.pf field head.goes_as
    head.numbers)
