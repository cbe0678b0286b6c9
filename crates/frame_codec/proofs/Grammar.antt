-- The grammar of frames: a text is a form of at most one frame, what is written reads back, and a text is a form
-- of no frame
-- exactly where it has a fault.
use Rattle.std.proofs.Common.{
  ◌≡◌,
  ◌≢◌,
  ℕ,
  suc,
  ◌+◌,
  ◌*◌,
  ◌/◌,
  ◌%◌,
  ◌<◌,
  ◌≤◌,
  Bool,
  true,
  false,
  List,
  [],
  ◌∷◌,
  length,
  refl,
  sym,
  ◌∙◌,
  ap,
  subst,
  arith,
}
use Rattle.std.specs.Prelude.{Result, Ok, Err, nat_le, nat_eq, slice_index, if◌then◌else◌}
use borrow.Author.Tests.{eqb-true, eqb-false, le-leb, lt-leb}
use Rattle.link_timers.specs.declared.role.Role.{Role}
use Rattle.link_timers.specs.declared.role.Role.TheVariants.{Dte, Dce}
use Rattle.link_timers.specs.Role.{other_of}
use Rattle.frame_codec.specs.declared.fault.FrameFault.{FrameFault}
use Rattle.frame_codec.specs.declared.fault.FrameFault.TheVariants.{
  TooShort,
  WrongAddress,
  UnknownControl,
  InfoNotAllowed,
  InfoTooLong,
}
use Rattle.frame_codec.specs.Frame.{
  Report,
  Content,
  I,
  Rr,
  Rnr,
  Rej,
  Sabm,
  Disc,
  Dm,
  Ua,
  Frmr,
  FrameValue,
}
use Rattle.frame_codec.specs.Spelling.{
  bit_of,
  address_of,
  control_of,
  field_of,
  states_of,
  reasons_of,
  spelling,
  HasNumbers,
  FitsField,
  HasSpelling,
}
use Rattle.frame_codec.specs.FrameForm.{ReportForm, FieldForm, IsHead, FrameForm}
use Rattle.frame_codec.specs.Faults.{IsNotAllowed, IsTooLong, HasFault, place_of, IsFirstFault}
use Rattle.frame_codec.specs.Reading.{has_bit, bare, report_read, content_read, with_head, reading}
use Rattle.frame_codec.proofs.Heads.{field_read, bit_of_below, tested, reading-address_of, reading_at_head}
use Rattle.frame_codec.proofs.Outcomes.{AreOctets, IsNamed, Outcome, content_outcome}

cond_by : (P : Bool → Type 0) (b : Bool) → (b ≡ true → P true) → (b ≡ false → P false) → P b
cond_by P true holds fails = holds refl
cond_by P false holds fails = fails refl

-- two numbers of which neither is less
not_apart : (m n : ℕ) → (m < n → ⊥) → (n < m → ⊥) → m ≡ n
not_apart m n not_less not_more = omega arith

octets_after : (address control : ℕ) (field : List ℕ) → AreOctets (address ∷ control ∷ field) → AreOctets field
octets_after address control field octets i = octets (suc (suc i))

-- a bit of the third octet of a report
reason_bits : (w x y z : Bool) (spares : ℕ) →
    (has_bit (spares * 16 + (bit_of z * 8 + bit_of y * 4 + bit_of x * 2 + bit_of w)) 1 ≡ w)
    × (has_bit (spares * 16 + (bit_of z * 8 + bit_of y * 4 + bit_of x * 2 + bit_of w)) 2 ≡ x)
    × (has_bit (spares * 16 + (bit_of z * 8 + bit_of y * 4 + bit_of x * 2 + bit_of w)) 4 ≡ y)
    × (has_bit (spares * 16 + (bit_of z * 8 + bit_of y * 4 + bit_of x * 2 + bit_of w)) 8 ≡ z)
reason_bits w x y z spares =
    let a = bit_of_below w in
    let b = bit_of_below x in
    let c = bit_of_below y in
    let d = bit_of_below z in
    let first : (spares * 16 + (bit_of z * 8 + bit_of y * 4 + bit_of x * 2 + bit_of w)) / 1 % 2 ≡ bit_of w = omega
    arith in
    let second : (spares * 16 + (bit_of z * 8 + bit_of y * 4 + bit_of x * 2 + bit_of w)) / 2 % 2 ≡ bit_of x = omega
    arith in
    let third : (spares * 16 + (bit_of z * 8 + bit_of y * 4 + bit_of x * 2 + bit_of w)) / 4 % 2 ≡ bit_of y = omega
    arith in
    let fourth : (spares * 16 + (bit_of z * 8 + bit_of y * 4 + bit_of x * 2 + bit_of w)) / 8 % 2 ≡ bit_of z = omega
    arith in (
      ap (λ k. nat_eq k 1) first ∙ tested w,
      ap (λ k. nat_eq k 1) second ∙ tested x,
      ap (λ k. nat_eq k 1) third ∙
          tested y,
      ap (λ k. nat_eq k 1) fourth ∙ tested z,
    )

-- the numbers of the second octet of a report
report_states : (r : Bool) (ns nr spare : ℕ) → ns < 8 → spare < 2 →
    ((nr * 32 + bit_of r * 16 + ns * 2 + spare) / 2 % 8 ≡ ns)
    × ((nr * 32 + bit_of r * 16 + ns * 2 + spare) / 32 ≡ nr)
    × (has_bit (nr * 32 + bit_of r * 16 + ns * 2 + spare) 16 ≡ r)
report_states r ns nr spare below low =
    let a = bit_of_below r in
    let middle : (nr * 32 + bit_of r * 16 + ns * 2 + spare) / 16 % 2 ≡ bit_of r = omega arith in
    (omega arith, omega arith, ap (λ k. nat_eq k 1) middle ∙ tested r)

report_reads : (report : Report) (field : List ℕ) → report.vs < 8 → ReportForm report field → report_read field ≡
    Ok (Frmr report)
report_reads report field below form =
    let states = report_states report.response report.vs report.vr form.spare below form.spare_bit in
    let reasons = reason_bits report.w report.x report.y report.z form.spares in
    ap report_read form.octets
    ∙ (λ i. Ok (Frmr (record {
      control = report.control;
      vs = states.0 i;
      vr = states.1 i;
      response = states.2 i;
      w = reasons.0 i;
      x = reasons.1 i;
      y = reasons.2 i;
      z = reasons.3 i;
    })))

-- a form of the information field is read as what the frame says there
form_reads : (info : ℕ) (content : Content) (field : List ℕ) → HasNumbers content → FieldForm info content field → field_read info
    content field ≡ Ok content
form_reads info (I ns nr information) field numbers form =
    rw (le-leb (length field) info form.1) (ap (λ octets. Ok (I ns nr octets)) form.0)
form_reads info (Rr nr) field numbers form = ap (bare (Rr nr)) form
form_reads info (Rnr nr) field numbers form = ap (bare (Rnr nr)) form
form_reads info (Rej nr) field numbers form = ap (bare (Rej nr)) form
form_reads info Sabm field numbers form = ap (bare Sabm) form
form_reads info Disc field numbers form = ap (bare Disc) form
form_reads info Dm field numbers form = ap (bare Dm) form
form_reads info Ua field numbers form = ap (bare Ua) form
form_reads info (Frmr report) field numbers form = report_reads report field numbers.1 form

-- a form of a frame is read as that frame
pub reading_form : (at : Role) (info : ℕ) (bytes : List ℕ) (f : FrameValue) → FrameForm at info bytes f → reading at info bytes ≡ Ok f
reading_form at info bytes f form =
    reading_at_head at info bytes f form.field form.head ∙ ap (with_head f.response f.pf) (form_reads info f.content
    form.field form.head.numbers form.form)

-- an information field that the frame may not have
bare_refused : (content : Content) (field : List ℕ) → field ≢ [] → bare content field ≡ Err InfoNotAllowed
bare_refused content [] some = absurd (some refl)
bare_refused content (octet ∷ octets) some = refl

report_refused : (field : List ℕ) → length field ≢ 3 → report_read field ≡ Err InfoNotAllowed
report_refused [] other = refl
report_refused (a ∷ []) other = refl
report_refused (a ∷ b ∷ []) other = refl
report_refused (a ∷ b ∷ c ∷ []) other = absurd (other refl)
report_refused (a ∷ b ∷ c ∷ d ∷ field) other = refl

refused : (info : ℕ) (content : Content) (field : List ℕ) → IsNotAllowed content field → field_read info content field ≡ Err
    InfoNotAllowed
refused info (I ns nr information) field fault = absurd fault
refused info (Rr nr) field fault = bare_refused (Rr nr) field fault
refused info (Rnr nr) field fault = bare_refused (Rnr nr) field fault
refused info (Rej nr) field fault = bare_refused (Rej nr) field fault
refused info Sabm field fault = bare_refused Sabm field fault
refused info Disc field fault = bare_refused Disc field fault
refused info Dm field fault = bare_refused Dm field fault
refused info Ua field fault = bare_refused Ua field fault
refused info (Frmr report) field fault = report_refused field fault

-- an I frame with too much information
overlong : (info : ℕ) (content : Content) (field : List ℕ) → IsTooLong info content field → field_read info content field ≡ Err InfoTooLong
overlong info (I ns nr information) field fault = rw (lt-leb (length field) info fault) refl
overlong info (Rr nr) field fault = absurd fault
overlong info (Rnr nr) field fault = absurd fault
overlong info (Rej nr) field fault = absurd fault
overlong info Sabm field fault = absurd fault
overlong info Disc field fault = absurd fault
overlong info Dm field fault = absurd fault
overlong info Ua field fault = absurd fault
overlong info (Frmr report) field fault = absurd fault

-- the control octet of a frame is known info
bare_known : (response pf : Bool) (content : Content) (field : List ℕ) → with_head response pf (bare content
    field) ≡ Err UnknownControl → ⊥
bare_known response pf content [] e = absurd (cc)
bare_known response pf content (octet ∷ octets) e = absurd (cc)

report_known : (response pf : Bool) (field : List ℕ) → with_head response pf (report_read field) ≡ Err
    UnknownControl → ⊥
report_known response pf [] e = absurd (cc)
report_known response pf (a ∷ []) e = absurd (cc)
report_known response pf (a ∷ b ∷ []) e = absurd (cc)
report_known response pf (a ∷ b ∷ c ∷ []) e = absurd (cc)
report_known response pf (a ∷ b ∷ c ∷ d ∷ field) e = absurd (cc)

information_known : (response pf short : Bool) (content : Content) → with_head response pf (if short then Ok
    content else Err InfoTooLong) ≡ Err UnknownControl → ⊥
information_known response pf true content e = absurd (cc)
information_known response pf false content e = absurd (cc)

known : (info : ℕ) (response pf : Bool) (content : Content) (field : List ℕ) → with_head response pf (field_read info content
    field) ≡ Err UnknownControl → ⊥
known info response pf (I ns nr information) field e = information_known response pf (nat_le
    (length field) info) (I ns nr field) e
known info response pf (Rr nr) field e = bare_known response pf (Rr nr) field e
known info response pf (Rnr nr) field e = bare_known response pf (Rnr nr) field e
known info response pf (Rej nr) field e = bare_known response pf (Rej nr) field e
known info response pf Sabm field e = bare_known response pf Sabm field e
known info response pf Disc field e = bare_known response pf Disc field e
known info response pf Dm field e = bare_known response pf Dm field e
known info response pf Ua field e = bare_known response pf Ua field e
known info response pf (Frmr report) field e = report_known response pf field e

-- the two address octets
address_known : (from : Role) (response : Bool) (octet : ℕ) → octet ≡ address_of from response → octet ≢ 0x01 →
    octet ≢ 0x03 → ⊥
address_known Dte true octet e one three = three e
address_known Dte false octet e one three = one e
address_known Dce true octet e one three = one e
address_known Dce false octet e one three = three e

-- a text with an information field that is not allowed is read so
refused_is : (at : Role) (info : ℕ) (bytes : List ℕ) → HasFault InfoNotAllowed at info bytes → reading at info bytes ≡ Err InfoNotAllowed
refused_is at info bytes (f, field, head, fault) =
    reading_at_head at info bytes f field head ∙ ap (with_head f.response f.pf) (refused info f.content field fault)

overlong_is : (at : Role) (info : ℕ) (bytes : List ℕ) → HasFault InfoTooLong at info bytes → reading at info bytes ≡ Err InfoTooLong
overlong_is at info bytes (f, field, head, fault) =
    reading_at_head at info bytes f field head ∙ ap (with_head f.response f.pf) (overlong info f.content field fault)

refused_read : (at : Role) (info : ℕ) (bytes : List ℕ) → HasFault InfoNotAllowed at info bytes → reading at info bytes ≡ Err InfoTooLong
    → ⊥
refused_read at info bytes fault e = let f = refused_is at info bytes fault in absurd (cc)

-- what a text is read as: a frame of which it is a form, or the first fault that it has
abbrev pub IsDecided : Role → (info : ℕ) → List ℕ → Result FrameValue FrameFault → Type 0
IsDecided at info bytes (Ok f) = FrameForm at info bytes f
IsDecided at info bytes (Err fault) = IsFirstFault fault at info bytes

-- no fault stands before the first, and so on
before_2 : (P : FrameFault → Type 0) → (P TooShort → ⊥) → (other : FrameFault) → place_of other < 2 → P other → ⊥
before_2 P a TooShort less fault = a fault
before_2 P a WrongAddress less fault = omega arith
before_2 P a UnknownControl less fault = omega arith
before_2 P a InfoNotAllowed less fault = omega arith
before_2 P a InfoTooLong less fault = omega arith

before_5 : (P : FrameFault → Type 0) (n : ℕ) → n ≤ 5 → (P TooShort → ⊥) → (P WrongAddress → ⊥) → (3 < n → P
    UnknownControl → ⊥) → (4 < n → P InfoNotAllowed → ⊥) → (other : FrameFault) → place_of other < n → P other → ⊥
before_5 P n most a b c d TooShort less fault = a fault
before_5 P n most a b c d WrongAddress less fault = b fault
before_5 P n most a b c d UnknownControl less fault = c less fault
before_5 P n most a b c d InfoNotAllowed less fault = d less fault
before_5 P n most a b c d InfoTooLong less fault = omega arith

before_1 : (P : FrameFault → Type 0) (other : FrameFault) → place_of other < 1 → P other → ⊥
before_1 P TooShort less fault = omega arith
before_1 P WrongAddress less fault = omega arith
before_1 P UnknownControl less fault = omega arith
before_1 P InfoNotAllowed less fault = omega arith
before_1 P InfoTooLong less fault = omega arith

-- a text with one of the two addresses
framed_decided : (at : Role) (info : ℕ) (response : Bool) (address control : ℕ) (field : List ℕ) → address ≡ address_of
    (other_of at) response → control < 256 → AreOctets field →
    reading at info (address ∷ control ∷ field) ≡ with_head response (has_bit control 16) (content_read info response control
    field) →
    IsDecided at info (address ∷ control ∷ field) (with_head response (has_bit control 16) (content_read info response
    control field))
framed_decided at info response address control field sent octet octets is_read =
    go (content_read info response control field) refl (content_outcome info response control field octet octets)
  where
    head : (content : Content) → IsNamed response control content → IsHead at (address ∷ control ∷ field) (record {
      content = content;
      response = response;
      pf = has_bit control 16;
    }) field
    head content named = record {
      octets = λ i. sent i ∷ named.control_is i ∷ field;
      goes_as = named.goes_as;
      numbers = named.numbers;
    }

    short : length (address ∷ control ∷ field) < 2 → ⊥
    short less = omega arith

    wrong : HasFault WrongAddress at info (address ∷ control ∷ field) → ⊥
    wrong fault = address_known (other_of at) response address sent fault.0 fault.1

    go : (r : Result Content FrameFault) → content_read info response control field ≡ r → Outcome info response control field
        r → IsDecided at info (address ∷ control ∷ field) (with_head response (has_bit control 16) r)
    go (Ok content) e outcome = record { field = field; head = head content outcome.0; form = outcome.1 }
    go (Err TooShort) e outcome = absurd outcome
    go (Err WrongAddress) e outcome = absurd outcome
    go (Err UnknownControl) e outcome = record {
      has = λ f rest h. known info f.response f.pf f.content rest (sym (reading_at_head at info (address ∷ control ∷ field)
          f rest h) ∙ is_read ∙ ap (with_head response (has_bit control 16)) e);
      none_before = before_5 (λ other. HasFault other at info (address ∷ control ∷ field)) 3 (omega arith) short wrong
          (λ less. absurd (omega arith)) (λ less. absurd (omega arith));
    }
    go (Err InfoNotAllowed) e outcome = record {
      has = (
        record { content = outcome.0; response = response; pf = has_bit control 16 },
        field,
        head outcome.0
            outcome.1,
        outcome.2,
      );
      none_before = before_5 (λ other. HasFault other at info (address ∷ control ∷ field)) 4 (omega arith) short wrong
          (λ less fault. fault (record { content = outcome.0; response = response; pf = has_bit control 16 })
          field (head outcome.0 outcome.1)) (λ less. absurd (omega arith));
    }
    go (Err InfoTooLong) e outcome = record {
      has = (
        record { content = outcome.0; response = response; pf = has_bit control 16 },
        field,
        head outcome.0
            outcome.1,
        outcome.2,
      );
      none_before = before_5 (λ other. HasFault other at info (address ∷ control ∷ field)) 5 (omega arith) short wrong
          (λ less fault. fault (record { content = outcome.0; response = response; pf = has_bit control 16 })
          field (head outcome.0 outcome.1))
          (λ less fault. refused_read at info (address ∷ control ∷ field) fault (is_read ∙ ap (with_head response
          (has_bit control 16)) e));
    }

-- the two addresses that an end does not know
other_address : (at : Role) (address : ℕ) → nat_eq address (address_of (other_of at) false) ≡ false → nat_eq
    address (address_of (other_of at) true) ≡ false → (address ≢ 0x01) × (address ≢ 0x03)
other_address Dte address command response = (eqb-false address 0x01 response, eqb-false address 0x03 command)
other_address Dce address command response = (eqb-false address 0x01 command, eqb-false address 0x03 response)

read_by : (at : Role) (info : ℕ) (address control : ℕ) (field : List ℕ) (response : Bool) → address ≡ address_of (other_of at)
    response → reading at info (address ∷ control ∷ field) ≡ with_head response (has_bit control 16) (content_read info
    response control field)
read_by at info address control field response e = ap (λ a. reading at info (a ∷ control ∷ field)) e ∙ reading-address_of at info
    response control field

-- every text is decided
pub reading_decided : (at : Role) (info : ℕ) (bytes : List ℕ) → AreOctets bytes → IsDecided at info bytes (reading at info bytes)
reading_decided at info [] octets = record { has = omega arith; none_before = before_1 (λ other. HasFault other at info []) }
reading_decided at info (address ∷ []) octets = record {
  has = omega arith;
  none_before = before_1 (λ other. HasFault
      other at info (address ∷ []));
}
reading_decided at info (address ∷ control ∷ field) octets =
    let control_is : control < 256 = octets 1 in
    let rest : AreOctets field = octets_after address control field octets in
    cond_by (λ b. IsDecided at info (address ∷ control ∷ field) (if b then with_head false (has_bit control 16)
    (content_read info false control field) else if nat_eq address (address_of (other_of at) true) then with_head
    true (has_bit control 16) (content_read info true control field) else Err WrongAddress)) (nat_eq address
    (address_of (other_of at) false))
    (λ is. let e = eqb-true address (address_of (other_of at) false) is in framed_decided at info false address control
    field e control_is rest (read_by at info address control field false e))
    (λ isnt. cond_by (λ b. IsDecided at info (address ∷ control ∷ field) (if b then with_head true (has_bit control 16)
    (content_read info true control field) else Err WrongAddress)) (nat_eq address (address_of (other_of at) true))
    (λ is. let e = eqb-true address (address_of (other_of at) true) is in framed_decided at info true address control
    field e control_is rest (read_by at info address control field true e))
    (λ neither. record {
      has = other_address at address isnt neither;
      none_before = before_2 (λ other. HasFault
          other at info (address ∷ control ∷ field)) (λ less. omega arith);
    }))

-- a text with a fault is a form of no frame
pub fault_no_form : (fault : FrameFault) (at : Role) (info : ℕ) (bytes : List ℕ) (f : FrameValue) → HasFault fault at info bytes →
    FrameForm at info bytes f → ⊥
fault_no_form TooShort at info bytes f fault form = let e = ap length form.head.octets in omega arith
fault_no_form WrongAddress at info bytes f fault form = address_known (other_of at) f.response (slice_index bytes 0) (ap
    (λ octets. slice_index octets 0) form.head.octets) fault.0 fault.1
fault_no_form UnknownControl at info bytes f fault form = fault f form.field form.head
fault_no_form InfoNotAllowed at info bytes f fault form = let a = refused_is at info bytes fault in let b = reading_form at info
    bytes f form in absurd (cc)
fault_no_form InfoTooLong at info bytes f fault form = let a = overlong_is at info bytes fault in let b = reading_form at info
    bytes f form in absurd (cc)

-- no two faults stand at one place
same_place : (a b : FrameFault) → place_of a ≡ place_of b → a ≡ b
same_place TooShort TooShort e = refl
same_place TooShort WrongAddress e = absurd (omega arith)
same_place TooShort UnknownControl e = absurd (omega arith)
same_place TooShort InfoNotAllowed e = absurd (omega arith)
same_place TooShort InfoTooLong e = absurd (omega arith)
same_place WrongAddress TooShort e = absurd (omega arith)
same_place WrongAddress WrongAddress e = refl
same_place WrongAddress UnknownControl e = absurd (omega arith)
same_place WrongAddress InfoNotAllowed e = absurd (omega arith)
same_place WrongAddress InfoTooLong e = absurd (omega arith)
same_place UnknownControl TooShort e = absurd (omega arith)
same_place UnknownControl WrongAddress e = absurd (omega arith)
same_place UnknownControl UnknownControl e = refl
same_place UnknownControl InfoNotAllowed e = absurd (omega arith)
same_place UnknownControl InfoTooLong e = absurd (omega arith)
same_place InfoNotAllowed TooShort e = absurd (omega arith)
same_place InfoNotAllowed WrongAddress e = absurd (omega arith)
same_place InfoNotAllowed UnknownControl e = absurd (omega arith)
same_place InfoNotAllowed InfoNotAllowed e = refl
same_place InfoNotAllowed InfoTooLong e = absurd (omega arith)
same_place InfoTooLong TooShort e = absurd (omega arith)
same_place InfoTooLong WrongAddress e = absurd (omega arith)
same_place InfoTooLong UnknownControl e = absurd (omega arith)
same_place InfoTooLong InfoNotAllowed e = absurd (omega arith)
same_place InfoTooLong InfoTooLong e = refl

first_is_one : (a b : FrameFault) (at : Role) (info : ℕ) (bytes : List ℕ) → IsFirstFault a at info bytes → IsFirstFault b at info bytes
    → a ≡ b
first_is_one a b at info bytes p q = same_place a b (not_apart (place_of a) (place_of b) (λ less. q.none_before a less
    p.has) (λ less. p.none_before b less q.has))

-- the first fault of a text is what it is read as
pub reading_fault : (fault : FrameFault) (at : Role) (info : ℕ) (bytes : List ℕ) → AreOctets bytes → IsFirstFault fault at info
    bytes → reading at info bytes ≡ Err fault
reading_fault fault at info bytes octets first = go (reading at info bytes) (reading_decided at info bytes octets)
  where
    go : (r : Result FrameValue FrameFault) → IsDecided at info bytes r → r ≡ Err fault
    go (Ok f) form = absurd (fault_no_form fault at info bytes f first.has form)
    go (Err other) second = ap (λ e. Err e) (first_is_one other fault at info bytes second first)

-- what is written is a form of what was meant, at the other end
field_of_form : (info : ℕ) (content : Content) → FitsField info content → FieldForm info content (field_of content)
field_of_form info (I ns nr information) fits = (refl, fits)
field_of_form info (Rr nr) fits = refl
field_of_form info (Rnr nr) fits = refl
field_of_form info (Rej nr) fits = refl
field_of_form info Sabm fits = refl
field_of_form info Disc fits = refl
field_of_form info Dm fits = refl
field_of_form info Ua fits = refl
field_of_form info (Frmr report) fits = record {
  spare = 0;
  spares = 0;
  spare_bit = omega arith;
  spare_bits = omega arith;
  octets = let second : states_of report ≡ states_of report + 0 = omega arith in
      let third : reasons_of report ≡ 0 * 16 + reasons_of report = omega arith in
      λ i. report.control ∷ second i ∷ third i ∷ [];
}

other_other : (role : Role) → other_of (other_of role) ≡ role
other_other Dte = refl
other_other Dce = refl

pub spelling_form : (from : Role) (info : ℕ) (f : FrameValue) → HasSpelling info f → FrameForm (other_of from) info (spelling from f) f
spelling_form from info f spelt = record {
  field = field_of f.content;
  head = record {
    octets = ap (λ role. address_of role f.response ∷ control_of f.content f.pf ∷ field_of f.content) (sym
        (other_other from));
    goes_as = spelt.goes_as;
    numbers = spelt.numbers;
  };
  form = field_of_form info f.content spelt.fits;
}

-- and is read back
pub reading-spelling : (from : Role) (info : ℕ) (f : FrameValue) → HasSpelling info f
    → reading (other_of from) info (spelling from f) ≡ Ok f
reading-spelling from info f spelt =
    reading_form (other_of from) info (spelling from f) f (spelling_form from info f spelt)

pub spelled_form : (from : Role) (info : ℕ) (f : FrameValue) (bytes : List ℕ) → HasSpelling info f → bytes ≡ spelling from f →
    FrameForm (other_of from) info bytes f
spelled_form from info f bytes spelt e = subst (λ octets. FrameForm (other_of from) info octets f) (sym e) (spelling_form from info f spelt)

-- what octets are a form of has a spelling
fits_form : (info : ℕ) (content : Content) (field : List ℕ) → FieldForm info content field → FitsField info content
fits_form info (I ns nr information) field form = subst (λ octets. length octets ≤ info) form.0 form.1
fits_form info (Rr nr) field form = tt
fits_form info (Rnr nr) field form = tt
fits_form info (Rej nr) field form = tt
fits_form info Sabm field form = tt
fits_form info Disc field form = tt
fits_form info Dm field form = tt
fits_form info Ua field form = tt
fits_form info (Frmr report) field form = tt

pub form_spelt : (at : Role) (info : ℕ) (bytes : List ℕ) (f : FrameValue) → FrameForm at info bytes f → HasSpelling info f
form_spelt at info bytes f form = record {
  goes_as = form.head.goes_as;
  numbers = form.head.numbers;
  fits = fits_form info f.content form.field form.form;
}
