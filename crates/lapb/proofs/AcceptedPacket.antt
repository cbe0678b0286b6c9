-- The packet that is accepted is what follows the control octet of the frame.
use Rattle.std.proofs.Common.{◌≡◌, ℕ, Bool, true, false, drop, refl, sym, ◌∙◌, ap}
use Rattle.std.specs.Prelude.{Option, Some, None, Result, Ok, Err, not, ◌&&◌, ◌==◌, if◌then◌else◌, nat_lt}
use Rattle.link_timers.specs.declared.role.Role.{Role}
use Rattle.link_timers.specs.declared.role.Role.TheVariants.{Dte, Dce}
use Rattle.frame_codec.specs.declared.fault.FrameFault.{FrameFault}
use Rattle.frame_codec.specs.declared.fault.FrameFault.TheVariants.{TooShort, WrongAddress, UnknownControl}
use Rattle.frame_codec.specs.declared.fault.FrameFault.TheVariants.{InfoNotAllowed, InfoTooLong}
use Rattle.frame_codec.specs.Frame.{FrameValue, Content, Report, I, Rr, Rnr, Rej, Sabm, Disc, Dm, Ua, Frmr}
use Rattle.frame_codec.specs.FrameForm.{FrameForm, FieldForm}
use Rattle.frame_codec.specs.Reading.{reading}
use Rattle.frame_codec.proofs.Outcomes.{AreOctets}
use Rattle.frame_codec.proofs.Grammar.{IsDecided, reading_decided}
use Rattle.lapb.specs.declared.phase.Phase.{Phase}
use Rattle.lapb.specs.Machine.{Octets, Link, Step, Defect, UndefinedControl, InformationNotAllowed}
use Rattle.lapb.specs.Machine.{InformationTooLong, is_same, is_valid, ahead, acknowledged, accept, discard}
use Rattle.lapb.specs.Machine.{on_information, on_supervisory, reject_as, reject_number, checked, in_up}
use Rattle.lapb.specs.Machine.{in_setting_up, in_down, in_rejecting, in_phase, on_content, on_defect_in, come_up}
use Rattle.lapb.specs.Machine.{still, sends}
use Rattle.lapb.specs.Octets.{on_fault, on_reading, on_octets}

cond_by : (P : Bool → Type 0) (b : Bool) → (b ≡ true → P true) → (b ≡ false → P false) → P b
cond_by P true holds fails = holds refl
cond_by P false holds fails = fails refl

-- the packet that a frame carries
abbrev pub packet_in : Content → Option Octets
packet_in (I ns nr packet) = Some packet
packet_in (Rr nr) = None
packet_in (Rnr nr) = None
packet_in (Rej nr) = None
packet_in Sabm = None
packet_in Disc = None
packet_in Dm = None
packet_in Ua = None
packet_in (Frmr report) = None

-- what is accepted is what the frame carries
abbrev Accepts : Option Octets → Step → Type 0
Accepts carried step = (packet : Octets) → step.accepted ≡ Some packet → carried ≡ Some packet

nothing_accepted : (carried : Option Octets) (step : Step) → step.accepted ≡ None → Accepts carried step
nothing_accepted carried step none = λ packet e. let both : ◌≡◌ {A = Option Octets} None (Some packet) = sym none ∙
    e in absurd (cc)

rejects : (carried : Option Octets) (role : Role) (l : Link) (report : Report) (pf : Bool) → Accepts carried
    (reject_as role l report pf)
rejects carried Dte l report pf = nothing_accepted carried (reject_as Dte l report pf) refl
rejects carried Dce l report pf = nothing_accepted carried (reject_as Dce l report pf) refl

checks : (carried : Option Octets) (l : Link) (content : Content) (r p : Bool) (nr : ℕ) (taken : Step) →
    Accepts carried taken → Accepts carried (checked l content r p nr taken)
checks carried l content r p nr taken of =
    cond_by (λ b. Accepts carried (if b then record taken { anew = nat_lt 0 (ahead l.oldest nr) } else
    reject_number l content r p)) (is_valid l nr)
    (λ _. of) (λ _. rejects carried l.role l _ _)

informs : (l : Link) (ns : ℕ) (p : Bool) (packet : Octets) → Accepts (Some packet) (on_information l ns p packet)
informs l ns p packet =
    cond_by (λ b. Accepts (Some packet) (if b then accept l p packet else discard l p)) (ns == l.expected)
    (λ _ other e. e) (λ _. nothing_accepted (Some packet) (discard l p) refl)

up_accepts : (role : Role) (l : Link) (content : Content) (r p : Bool) → Accepts (packet_in content) (in_up role l
    content r p)
up_accepts role l (I ns nr packet) r p = checks (Some packet) l (I ns nr packet)
    r p nr (on_information (acknowledged l nr) ns p packet) (informs (acknowledged l nr) ns p
    packet)
up_accepts role l (Rr nr) r p = checks None l (Rr nr) r p nr (on_supervisory
    (acknowledged l nr) false false r p) (nothing_accepted None (on_supervisory (acknowledged l nr) false
    false r p) refl)
up_accepts role l (Rnr nr) r p = checks None l (Rnr nr) r p nr
    (on_supervisory (acknowledged l nr) true false r p) (nothing_accepted None (on_supervisory (acknowledged l
    nr) true false r p) refl)
up_accepts role l (Rej nr) r p = checks None l (Rej nr) r p nr (on_supervisory (acknowledged l
    nr) false true r p) (nothing_accepted None (on_supervisory (acknowledged l nr) false true r p) refl)
up_accepts role l Disc r p = nothing_accepted None (in_up role l Disc r p) refl
up_accepts role l Ua r p = nothing_accepted None (in_up role l Ua r p) refl
up_accepts Dte l Sabm r p = nothing_accepted None (in_up Dte l Sabm r p) refl
up_accepts Dce l Sabm r p = nothing_accepted None (in_up Dce l Sabm r p) refl
up_accepts Dte l Dm r p = nothing_accepted None (in_up Dte l Dm r p) refl
up_accepts Dce l Dm r p = nothing_accepted None (in_up Dce l Dm r p) refl
up_accepts Dte l (Frmr report) r p = nothing_accepted None (in_up Dte l (Frmr report) r p) refl
up_accepts Dce l (Frmr report) r p = nothing_accepted None (in_up Dce l (Frmr report) r p) refl

setting_up_accepts : (l : Link) (content : Content) (r p : Bool) → (in_setting_up l content r p).accepted ≡ None
setting_up_accepts l Ua r p = cond_by (λ b. ◌≡◌ {A = Option Octets} (if b then come_up l else still
    l).accepted None) (is_same p l.bit) (λ _. refl) (λ _. refl)
setting_up_accepts l (I ns nr packet) r p = refl
setting_up_accepts l (Rr nr) r p = refl
setting_up_accepts l (Rnr nr) r p = refl
setting_up_accepts l (Rej nr) r p = refl
setting_up_accepts l Sabm r p = refl
setting_up_accepts l Disc r p = refl
setting_up_accepts l Dm r p = refl
setting_up_accepts l (Frmr report) r p = refl

asked : (l : Link) (frame : FrameValue) (due : Bool) → ◌≡◌ {A = Option Octets} (if due then sends l frame else
    still l).accepted None
asked l frame true = refl
asked l frame false = refl

down_accepts : (role : Role) (l : Link) (content : Content) (r p : Bool) → (in_down role l content r p).accepted ≡ None
down_accepts Dte l Sabm r p = refl
down_accepts Dte l Dm r p = refl
down_accepts Dce l Sabm r p = asked l _ (p && not r)
down_accepts Dce l Dm r p = asked l _ (p && not r)
down_accepts Dte l Disc r p = refl
down_accepts Dce l Disc r p = refl
down_accepts Dte l (I ns nr packet) r p = asked l _ (p && not r)
down_accepts Dce l (I ns nr packet) r p = asked l _ (p && not r)
down_accepts Dte l (Rr nr) r p = asked l _ (p && not r)
down_accepts Dce l (Rr nr) r p = asked l _ (p && not r)
down_accepts Dte l (Rnr nr) r p = asked l _ (p && not r)
down_accepts Dce l (Rnr nr) r p = asked l _ (p && not r)
down_accepts Dte l (Rej nr) r p = asked l _ (p && not r)
down_accepts Dce l (Rej nr) r p = asked l _ (p && not r)
down_accepts Dte l Ua r p = asked l _ (p && not r)
down_accepts Dce l Ua r p = asked l _ (p && not r)
down_accepts Dte l (Frmr report) r p = asked l _ (p && not r)
down_accepts Dce l (Frmr report) r p = asked l _ (p && not r)

repeated : (l : Link) (frame : FrameValue) (due : Bool) → ◌≡◌ {A = Option Octets} (if due then still l else sends l
    frame).accepted None
repeated l frame true = refl
repeated l frame false = refl

rejecting_accepts : (l : Link) (content : Content) (r p : Bool) → (in_rejecting l content r p).accepted ≡ None
rejecting_accepts l Disc r p = refl
rejecting_accepts l (I ns nr packet) r p = repeated l _ r
rejecting_accepts l (Rr nr) r p = repeated l _ r
rejecting_accepts l (Rnr nr) r p = repeated l _ r
rejecting_accepts l (Rej nr) r p = repeated l _ r
rejecting_accepts l Sabm r p = repeated l _ r
rejecting_accepts l Dm r p = repeated l _ r
rejecting_accepts l Ua r p = repeated l _ r
rejecting_accepts l (Frmr report) r p = repeated l _ r

phase_accepts : (phase : Phase) (role : Role) (l : Link) (content : Content) (r p : Bool) → Accepts (packet_in
    content) (in_phase phase role l content r p)
phase_accepts Phase.Down role l content r p = nothing_accepted (packet_in content) (in_down role l content r p)
    (down_accepts role l content r p)
phase_accepts Phase.SettingUp role l content r p = nothing_accepted (packet_in content) (in_setting_up l content r
    p) (setting_up_accepts l content r p)
phase_accepts Phase.Up role l content r p = up_accepts role l content r p
phase_accepts Phase.Rejecting role l content r p = nothing_accepted (packet_in content) (in_rejecting l content r
    p) (rejecting_accepts l content r p)

content_accepts : (content : Content) (role : Role) (l : Link) (r p : Bool) → Accepts (packet_in content)
    (on_content content role l r p)
content_accepts Sabm Dce l r p = nothing_accepted None (on_content Sabm Dce l r p) refl
content_accepts Sabm Dte l r p = phase_accepts l.phase Dte l Sabm r p
content_accepts (I ns nr packet) role l r p = phase_accepts l.phase role l (I ns
    nr packet) r p
content_accepts (Rr nr) role l r p = phase_accepts l.phase role l (Rr nr) r p
content_accepts (Rnr nr) role l r p = phase_accepts l.phase role l (Rnr nr) r p
content_accepts (Rej nr) role l r p = phase_accepts l.phase role l (Rej nr) r p
content_accepts Disc role l r p = phase_accepts l.phase role l Disc r p
content_accepts Dm role l r p = phase_accepts l.phase role l Dm r p
content_accepts Ua role l r p = phase_accepts l.phase role l Ua r p
content_accepts (Frmr report) role l r p = phase_accepts l.phase role l (Frmr report) r p

defect_accepts : (phase : Phase) (l : Link) (defect : Defect) (control : ℕ) (r : Bool) → Accepts None (on_defect_in
    phase l defect control r)
defect_accepts Phase.Down l defect control r = nothing_accepted None (still l) refl
defect_accepts Phase.SettingUp l defect control r = nothing_accepted None (still l) refl
defect_accepts Phase.Up l defect control r = rejects None l.role l _ _
defect_accepts Phase.Rejecting l defect control r = nothing_accepted None (still l) refl

fault_accepts : (l : Link) (fault : FrameFault) (bytes : Octets) → Accepts None (on_fault l fault bytes)
fault_accepts l TooShort bytes = nothing_accepted None (still l) refl
fault_accepts l WrongAddress bytes = nothing_accepted None (still l) refl
fault_accepts l UnknownControl bytes = defect_accepts l.phase l UndefinedControl _ _
fault_accepts l InfoNotAllowed bytes = defect_accepts l.phase l InformationNotAllowed _ _
fault_accepts l InfoTooLong bytes = defect_accepts l.phase l InformationTooLong _ _

-- the packet of an I frame stands behind its control octet
packet_is : (at : Role) (info : ℕ) (bytes : Octets) (f : FrameValue) → FrameForm at info bytes f → (packet : Octets) → packet_in
    f.content ≡ Some packet → packet ≡ drop 2 bytes
packet_is at info bytes f form packet e = go f.content form.form e ∙ sym (ap (drop 2) form.head.octets)
  where
    go : (content : Content) → FieldForm info content form.field → packet_in content ≡ Some packet → packet ≡ form.field
    go (I ns nr other) field e = let same : other ≡ packet = cc in sym same ∙ sym field.0
    go (Rr nr) field e = absurd (cc)
    go (Rnr nr) field e = absurd (cc)
    go (Rej nr) field e = absurd (cc)
    go Sabm field e = absurd (cc)
    go Disc field e = absurd (cc)
    go Dm field e = absurd (cc)
    go Ua field e = absurd (cc)
    go (Frmr report) field e = absurd (cc)

pub accepted_is : (l : Link) (bytes : Octets) → AreOctets bytes → (packet : Octets) → (on_octets l bytes).accepted
    ≡ Some packet → packet ≡ drop 2 bytes
accepted_is l bytes octets packet e = go (reading l.role l.info bytes) (reading_decided l.role l.info bytes octets) e
  where
    go : (read : Result FrameValue FrameFault) → IsDecided l.role l.info bytes read → (on_reading l bytes read).accepted ≡
        Some packet → packet ≡ drop 2 bytes
    go (Ok frame) form accepted = packet_is l.role l.info bytes frame form packet (content_accepts frame.content l.role l
        frame.response frame.pf packet accepted)
    go (Err fault) first accepted = let none : ◌≡◌ {A = Option Octets} None (Some packet) = fault_accepts l fault
        bytes packet accepted in absurd (cc)
