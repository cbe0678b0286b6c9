-- What a control octet and an information field are read as is what the table of frames says of them.
use Rattle.std.proofs.Common.{
  ◌≡◌,
  ◌≢◌,
  ℕ,
  zero,
  suc,
  ◌+◌,
  ◌*◌,
  ◌/◌,
  ◌%◌,
  ◌<◌,
  Bool,
  true,
  false,
  ◌||◌,
  List,
  [],
  ◌∷◌,
  length,
  refl,
  sym,
  subst,
  arith,
}
use Rattle.std.specs.Prelude.{Result, Ok, Err, nat_le, nat_eq, slice_index, if◌then◌else◌}
use borrow.Author.Tests.{eqb-true, leb-true, leb-false}
use Rattle.frame_codec.specs.declared.fault.FrameFault.{FrameFault}
use Rattle.frame_codec.specs.declared.fault.FrameFault.TheVariants.{
  TooShort,
  WrongAddress,
  UnknownControl,
  InfoNotAllowed,
  InfoTooLong,
}
use Rattle.frame_codec.specs.Frame.{Report, Content, I, Rr, Rnr, Rej, Sabm, Disc, Dm, Ua, Frmr}
use Rattle.frame_codec.specs.Spelling.{bit_of, control_of, GoesAs, HasNumbers}
use Rattle.frame_codec.specs.FrameForm.{ReportForm, FieldForm}
use Rattle.frame_codec.specs.Faults.{IsNotAllowed, IsTooLong}
use Rattle.frame_codec.specs.Reading.{
  has_bit,
  bare,
  report_read,
  information_read,
  command_read,
  response_read,
  content_read,
}

-- every item is an octet
abbrev pub AreOctets : List ℕ → Type 0
AreOctets bytes = (i : ℕ) → slice_index bytes i < 256

-- a content in this direction with this control octet
pub record IsNamed (response : Bool) (control : ℕ) (content : Content) : Type 0 where
  pub control_is : control ≡ control_of content (has_bit control 16)
  pub goes_as : GoesAs content response
  pub numbers : HasNumbers content

-- what the table says of what was read; of a control octet that is not known, no more than that
abbrev pub Outcome : (info : ℕ) (response : Bool) (control : ℕ) (field : List ℕ) → Result Content FrameFault → Type 0
Outcome info response control field (Ok content) = IsNamed response control content × FieldForm info content field
Outcome info response control field (Err TooShort) = ⊥
Outcome info response control field (Err WrongAddress) = ⊥
Outcome info response control field (Err UnknownControl) = Unit {0}
Outcome info response control field (Err InfoNotAllowed) = (content : Content) × IsNamed response control content ×
    IsNotAllowed content field
Outcome info response control field (Err InfoTooLong) = (content : Content) × IsNamed response control content ×
    IsTooLong info content field

cond_by : (P : Bool → Type 0) (b : Bool) → (b ≡ true → P true) → (b ≡ false → P false) → P b
cond_by P true holds fails = holds refl
cond_by P false holds fails = fails refl

-- one bit of a number is its remainder
pub bit_of_test : (n : ℕ) → n < 2 → bit_of (nat_eq n 1) ≡ n
bit_of_test zero below = refl
bit_of_test (suc zero) below = refl
bit_of_test (suc (suc n)) below = absurd (omega arith)

pub bit_of-has_bit : (octet power : ℕ) → bit_of (has_bit octet power) ≡ octet / power % 2
bit_of-has_bit octet power = bit_of_test (octet / power % 2) (omega arith)

-- a frame without an information field
bare_outcome : (info : ℕ) (response : Bool) (control : ℕ) (content : Content) (field : List ℕ) → IsNamed response control
    content → (field ≡ [] → FieldForm info content field) → (field ≢ [] → IsNotAllowed content field) → Outcome info response
    control field (bare content field)
bare_outcome info response control content [] named form fault = (named, form refl)
bare_outcome info response control content (octet ∷ octets) named form fault = (content, named, fault (λ e. absurd (cc)))

-- an I frame
information_outcome : (info : ℕ) (control : ℕ) (field : List ℕ) → control < 256 → control % 2 ≡ 0 → Outcome info false control
    field (information_read info control field)
information_outcome info control field octet even =
    let named : IsNamed false control (I (control / 2 % 8) (control / 32) field) = record {
      control_is = omega (arith, bit_of-has_bit control 16);
      goes_as = refl;
      numbers = (omega arith, omega arith);
    } in
    cond_by (λ b. Outcome info false control field (if b then Ok (I (control / 2 % 8) (control / 32) field)
    else Err InfoTooLong)) (nat_le (length field) info)
    (λ is. (named, (refl, leb-true (length field) info is)))
    (λ isnt. (I (control / 2 % 8) (control / 32) field, named, leb-false (length field) info isnt))

-- the octets of a report
report_form : (control states reasons : ℕ) → states < 256 → reasons < 256 →
    ReportForm (record {
      control = control;
      vs = states / 2 % 8;
      vr = states / 32;
      response = has_bit states
          16;
      w = has_bit reasons 1;
      x = has_bit reasons 2;
      y = has_bit reasons 4;
      z = has_bit reasons 8;
    }) (control
    ∷ states ∷ reasons ∷ [])
report_form control states reasons s r =
    let second : states ≡ states / 32 * 32 + bit_of (has_bit states 16) * 16 + states / 2 % 8 * 2 + states % 2 =
    omega (arith, bit_of-has_bit states 16) in
    let third : reasons ≡ reasons / 16 * 16 + (bit_of (has_bit reasons 8) * 8 + bit_of (has_bit reasons 4) * 4 +
    bit_of (has_bit reasons 2) * 2 + bit_of (has_bit reasons 1)) =
    omega (
      arith,
      bit_of-has_bit reasons 1,
      bit_of-has_bit reasons 2,
      bit_of-has_bit reasons 4,
      bit_of-has_bit
          reasons 8,
    ) in
    record {
      spare = states % 2;
      spares = reasons / 16;
      spare_bit = omega arith;
      spare_bits = omega arith;
      octets = λ i. control ∷ second i ∷ third i ∷ [];
    }

-- an empty report, for a Frame Reject whose information field is none
abbrev no_report : Report
no_report = record {
  control = 0;
  vs = 0;
  vr = 0;
  response = false;
  w = false;
  x = false;
  y = false;
  z =
      false;
}

reject_outcome : (info : ℕ) (control : ℕ) (field : List ℕ) → AreOctets field → control ≡ bit_of (has_bit control 16) * 16 +
    0x87 → Outcome info true control field (report_read field)
reject_outcome info control [] octets is = (
  Frmr no_report,
  record {
    control_is = is;
    goes_as = refl;
    numbers =
        (omega arith, omega arith, omega arith);
  },
  λ e. omega arith,
)
reject_outcome info control (a ∷ []) octets is = (
  Frmr no_report,
  record {
    control_is = is;
    goes_as = refl;
    numbers = (omega arith, omega arith, omega arith);
  },
  λ e. omega arith,
)
reject_outcome info control (a ∷ b ∷ []) octets is = (
  Frmr no_report,
  record {
    control_is = is;
    goes_as = refl;
    numbers = (omega arith, omega arith, omega arith);
  },
  λ e. omega arith,
)
reject_outcome info control (a ∷ b ∷ c ∷ []) octets is =
    let first : a < 256 = octets 0 in
    let second : b < 256 = octets 1 in
    let third : c < 256 = octets 2 in (
      record { control_is = is; goes_as = refl; numbers = (first, omega arith, omega arith) },
      report_form a b c
          second third,
    )
reject_outcome info control (a ∷ b ∷ c ∷ d ∷ field) octets is = (
  Frmr no_report,
  record {
    control_is = is;
    goes_as = refl;
    numbers = (omega arith, omega arith, omega arith);
  },
  λ e. omega arith,
)

-- a control octet that is one of two
either_by : (P : Bool → Type 0) (n a b : ℕ) → (n ≡ a → P true) → (n ≡ b → P true) → P false → P (nat_eq n a ||
    nat_eq n b)
either_by P n a b first second neither =
    cond_by (λ t. P (t || nat_eq n b)) (nat_eq n a) (λ is. first (eqb-true n a is))
    (λ _. cond_by P (nat_eq n b) (λ is. second (eqb-true n b is)) (λ _. neither))

named_at : (response : Bool) (control n : ℕ) (content : Content) → control ≡ n → n ≡ control_of content (has_bit n
    16) → GoesAs content response → HasNumbers content → IsNamed response control content
named_at response control n content e is goes numbers =
    record {
      control_is = subst (λ m. m ≡ control_of content (has_bit m 16)) (sym e) is;
      goes_as = goes;
      numbers =
          numbers;
    }

command_outcome : (info : ℕ) (control : ℕ) (field : List ℕ) → control < 256 → Outcome info false control field (command_read info control field)
command_outcome info control field octet =
    cond_by (λ b. Outcome info false control field (if b then information_read info control field else if nat_eq control 0x2F
    || nat_eq control 0x3F then bare Sabm field else if nat_eq control 0x43 || nat_eq control 0x53 then bare
    Disc field else Err UnknownControl)) (nat_eq (control % 2) 0)
    (λ is. information_outcome info control field octet (eqb-true (control % 2) 0 is))
    (λ _. either_by (λ b. Outcome info false control field (if b then bare Sabm field else if nat_eq control 0x43 ||
    nat_eq control 0x53 then bare Disc field else Err UnknownControl)) control 0x2F 0x3F
    (λ e. bare_outcome info false control Sabm field (named_at false control 0x2F Sabm e refl refl tt) (λ p. p) (λ
    p. p))
    (λ e. bare_outcome info false control Sabm field (named_at false control 0x3F Sabm e refl refl tt) (λ p. p) (λ
    p. p))
    (either_by (λ b. Outcome info false control field (if b then bare Disc field else Err UnknownControl)) control
    0x43 0x53
    (λ e. bare_outcome info false control Disc field (named_at false control 0x43 Disc e refl refl tt) (λ p.
    p) (λ p. p))
    (λ e. bare_outcome info false control Disc field (named_at false control 0x53 Disc e refl refl tt) (λ p.
    p) (λ p. p))
    tt))

response_outcome : (info : ℕ) (control : ℕ) (field : List ℕ) → AreOctets field → Outcome info true control field (response_read
    control field)
response_outcome info control field octets =
    either_by (λ b. Outcome info true control field (if b then bare Dm field else if nat_eq control 0x63
    || nat_eq control 0x73 then bare Ua field else if nat_eq control 0x87 || nat_eq control 0x97
    then report_read field else Err UnknownControl)) control 0x0F 0x1F
    (λ e. bare_outcome info true control Dm field (named_at true control 0x0F Dm e refl refl
    tt) (λ p. p) (λ p. p))
    (λ e. bare_outcome info true control Dm field (named_at true control 0x1F Dm e refl refl
    tt) (λ p. p) (λ p. p))
    (either_by (λ b. Outcome info true control field (if b then bare Ua field else if nat_eq control 0x87
    || nat_eq control 0x97 then report_read field else Err UnknownControl)) control 0x63 0x73
    (λ e. bare_outcome info true control Ua field (named_at true control 0x63 Ua e refl refl
    tt) (λ p. p) (λ p. p))
    (λ e. bare_outcome info true control Ua field (named_at true control 0x73 Ua e refl refl
    tt) (λ p. p) (λ p. p))
    (either_by (λ b. Outcome info true control field (if b then report_read field else Err UnknownControl)) control 0x87
    0x97
    (λ e. reject_outcome info control field octets (subst (λ n. n ≡ bit_of (has_bit n 16) * 16 + 0x87) (sym e) refl))
    (λ e. reject_outcome info control field octets (subst (λ n. n ≡ bit_of (has_bit n 16) * 16 + 0x87) (sym e) refl))
    tt))

-- a supervisory frame
supervisory_named : (response : Bool) (control low : ℕ) (content : Content) → control_of content (has_bit control
    16) ≡ control / 32 * 32 + bit_of (has_bit control 16) * 16 + low → control % 16 ≡ low → GoesAs content response
    → HasNumbers content → IsNamed response control content
supervisory_named response control low content spelt is goes numbers =
    record { control_is = omega (arith, bit_of-has_bit control 16, spelt); goes_as = goes; numbers = numbers }

pub content_outcome : (info : ℕ) (response : Bool) (control : ℕ) (field : List ℕ) → control < 256 → AreOctets field → Outcome info response control field (content_read info response control field)
content_outcome info response control field octet octets =
    cond_by (λ b. Outcome info response control field (if b then bare (Rr (control / 32)) field else if nat_eq
    (control % 16) 0x05 then bare (Rnr (control / 32)) field else if nat_eq (control % 16) 0x09
    then bare (Rej (control / 32)) field else if response then response_read control field else command_read info control field)) (nat_eq (control % 16) 0x01)
    (λ is. bare_outcome info response control (Rr (control / 32)) field (supervisory_named response control
    0x01 (Rr (control / 32)) refl (eqb-true (control % 16) 0x01 is) tt (omega arith)) (λ p. p) (λ p. p))
    (λ _. cond_by (λ b. Outcome info response control field (if b then bare (Rnr (control / 32)) field else
    if nat_eq (control % 16) 0x09 then bare (Rej (control / 32)) field else if response then response_read
    control field else command_read info control field)) (nat_eq (control % 16) 0x05)
    (λ is. bare_outcome info response control (Rnr (control / 32)) field (supervisory_named response control
    0x05 (Rnr (control / 32)) refl (eqb-true (control % 16) 0x05 is) tt (omega arith)) (λ p. p) (λ
    p. p))
    (λ _. cond_by (λ b. Outcome info response control field (if b then bare (Rej (control / 32)) field else if
    response then response_read control field else command_read info control field)) (nat_eq (control % 16) 0x09)
    (λ is. bare_outcome info response control (Rej (control / 32)) field (supervisory_named response control 0x09
    (Rej (control / 32)) refl (eqb-true (control % 16) 0x09 is) tt (omega arith)) (λ p. p) (λ p. p))
    (λ _. elim response as (λ b. Outcome info b control field (if b then response_read control field else command_read info control field)) [
      | true ↦ response_outcome info control field octets
      | false ↦ command_outcome info control field
          octet
    ])))
