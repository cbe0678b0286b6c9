use Rattle.std.proofs.Common.{◌≡◌, List, ℕ, sym, ◌∙◌, subst, arith}
use Rattle.std.proofs.lemmas.Grind.{common_steps}
use Rattle.std.specs.Prelude.{Result, Ok, Err, IfOk, IfErr}
use Rattle.link_timers.specs.declared.role.Role.{Role}
use Rattle.frame_codec.specs.declared.fault.FrameFault.{FrameFault}
use Rattle.frame_codec.specs.declared.fault.FrameFault.TheVariants.{WrongAddress}
use Rattle.frame_codec.specs.declared.frame.Frame.{Frame}
use Rattle.frame_codec.specs.FrameForm.{FrameForm}
use Rattle.frame_codec.specs.Faults.{IsFirstFault}
use Rattle.frame_codec.specs.Reading.{reading}
use Rattle.frame_codec.specs.Views.{value_of, frame_read}
use Rattle.frame_codec.proofs.Grammar.{IsDecided, reading_decided, reading_form, reading_fault}
use Rattle.frame_codec.proofs.reading.read_frame.Goals as goal

if_ok : (at : Role) (info : ℕ) (bytes : List ℕ) (result : Result Frame FrameFault) → frame_read result ≡ reading at info bytes →
    IsDecided at info bytes (reading at info bytes) → IfOk result (λ frame. FrameForm at info bytes (value_of frame))
if_ok at info bytes (Ok frame) reads decided = subst (IsDecided at info bytes) (sym reads) decided
if_ok at info bytes (Err fault) reads decided = tt

if_err : (at : Role) (info : ℕ) (bytes : List ℕ) (result : Result Frame FrameFault) → frame_read result ≡ reading at info bytes →
    IsDecided at info bytes (reading at info bytes) → IfErr result (λ fault. IsFirstFault fault at info bytes)
if_err at info bytes (Ok frame) reads decided = tt
if_err at info bytes (Err fault) reads decided = subst (IsDecided at info bytes) (sym reads) decided

err_is : (result : Result Frame FrameFault) (fault : FrameFault) → frame_read result ≡ Err fault → result ≡ Err fault
err_is (Ok frame) fault e = absurd (cc)
err_is (Err other) fault e = cc

-- ---- a command

pub returns-then-address-address_octet-clause-reading : goal.returns-then-address-address_octet-clause-reading
returns-then-address-address_octet-clause-reading c = grind (arith, common_steps)

pub returns-then-address-address_octet-clause-form : goal.returns-then-address-address_octet-clause-form
returns-then-address-address_octet-clause-form c =
    if_ok _ _ _ c.framed.result (returns-then-address-address_octet-clause-reading c)
    (reading_decided c.args.at c.args.info c.args.bytes.now (λ i. omega (arith, c.type_inv.bytes i)))

pub returns-then-address-address_octet-clause-every_form : goal.returns-then-address-address_octet-clause-every_form
returns-then-address-address_octet-clause-every_form c =
    λ f form. returns-then-address-address_octet-clause-reading c ∙ reading_form _ _ _ f form

pub returns-then-address-address_octet-clause-fault : goal.returns-then-address-address_octet-clause-fault
returns-then-address-address_octet-clause-fault c =
    if_err _ _ _ c.framed.result (returns-then-address-address_octet-clause-reading c)
    (reading_decided c.args.at c.args.info c.args.bytes.now (λ i. omega (arith, c.type_inv.bytes i)))

pub returns-then-address-address_octet-clause-every_fault : goal.returns-then-address-address_octet-clause-every_fault
returns-then-address-address_octet-clause-every_fault c =
    λ fault first. err_is c.framed.result fault (returns-then-address-address_octet-clause-reading c
    ∙ reading_fault fault c.args.at c.args.info c.args.bytes.now (λ i. omega (arith, c.type_inv.bytes i)) first)

-- ---- a response

pub returns-then-address-address_octet-2-clause-reading : goal.returns-then-address-address_octet-2-clause-reading
returns-then-address-address_octet-2-clause-reading c = grind (arith, common_steps)

pub returns-then-address-address_octet-2-clause-form : goal.returns-then-address-address_octet-2-clause-form
returns-then-address-address_octet-2-clause-form c =
    if_ok _ _ _ c.framed-then-address-address_octet-2.result (returns-then-address-address_octet-2-clause-reading c)
    (reading_decided c.args.at c.args.info c.args.bytes.now (λ i. omega (arith, c.type_inv.bytes i)))

pub returns-then-address-address_octet-2-clause-every_form : goal.returns-then-address-address_octet-2-clause-every_form
returns-then-address-address_octet-2-clause-every_form c =
    λ f form. returns-then-address-address_octet-2-clause-reading c ∙ reading_form _ _ _ f form

pub returns-then-address-address_octet-2-clause-fault : goal.returns-then-address-address_octet-2-clause-fault
returns-then-address-address_octet-2-clause-fault c =
    if_err _ _ _ c.framed-then-address-address_octet-2.result (returns-then-address-address_octet-2-clause-reading c)
    (reading_decided c.args.at c.args.info c.args.bytes.now (λ i. omega (arith, c.type_inv.bytes i)))

pub returns-then-address-address_octet-2-clause-every_fault : goal.returns-then-address-address_octet-2-clause-every_fault
returns-then-address-address_octet-2-clause-every_fault c =
    λ fault first. err_is c.framed-then-address-address_octet-2.result fault
    (returns-then-address-address_octet-2-clause-reading c
    ∙ reading_fault fault c.args.at c.args.info c.args.bytes.now (λ i. omega (arith, c.type_inv.bytes i)) first)

-- ---- neither

pub returns-else-address-address_octet-2-clause-reading : goal.returns-else-address-address_octet-2-clause-reading
returns-else-address-address_octet-2-clause-reading c = grind (arith, common_steps)

pub returns-else-address-address_octet-2-clause-every_fault : goal.returns-else-address-address_octet-2-clause-every_fault
returns-else-address-address_octet-2-clause-every_fault c =
    λ fault first. err_is (Err WrongAddress) fault (returns-else-address-address_octet-2-clause-reading c
    ∙ reading_fault fault c.args.at c.args.info c.args.bytes.now (λ i. omega (arith, c.type_inv.bytes i)) first)
