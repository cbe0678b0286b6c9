-- Octets that come on a line: the packet that a frame brings consists of octets.
use Rattle.std.proofs.Common.{◌≡◌, ℕ, ◌/◌, ◌%◌, Bool, true, false, if◌then◌else◌, List, [], ◌∷◌, length, Option, None, Result, Ok, Err, refl, sym, subst, nat_le, nat_lt}
use Rattle.link_timers.specs.declared.role.Role.{Role}
use Rattle.link_timers.specs.declared.role.Role.TheVariants.{Dte, Dce}
use Rattle.frame_codec.specs.declared.fault.FrameFault.{FrameFault}
use Rattle.frame_codec.specs.declared.fault.FrameFault.TheVariants.{TooShort, WrongAddress, UnknownControl, InfoNotAllowed, InfoTooLong}
use Rattle.frame_codec.specs.Frame.{Content, I, Rr, Rnr, Rej, Sabm, Disc, Dm, Ua, Frmr, FrameValue}
use Rattle.frame_codec.specs.Reading as frames
use Rattle.lapb.specs.declared.phase.Phase.{Phase}
use Rattle.lapb.specs.declared.phase.Phase.TheVariants.{Down, SettingUp, Up, Rejecting}
use Rattle.lapb.specs.Machine as link
use Rattle.lapb.specs.Machine.{Link, Step, Defect}
use Rattle.frame_codec.specs.Frame.{Report}
use Rattle.lapb.specs.Octets as link_octets
use Rattle.packet_laws.specs.Readable.{IfAny, AreOctets}

by_if : {X : Type 0} (P : X → Type 0) (b : Bool) (x y : X) → P x → P y → P (if b then x else y)
by_if P true x y f g = f
by_if P false x y f g = g

-- ---- the packet that a frame brings

abbrev IsField : Content → Type 0
IsField (I ns nr packet) = AreOctets packet
IsField content = Unit {0}

abbrev ReadsContent : Result Content FrameFault → Type 0
ReadsContent (Ok content) = IsField content
ReadsContent (Err fault) = Unit {0}

record OnContent (r : Result Content FrameFault) : Type 0 where
  it : ReadsContent r

abbrev ReadsFrame : Result FrameValue FrameFault → Type 0
ReadsFrame (Ok frame) = IsField frame.content
ReadsFrame (Err fault) = Unit {0}

record OnFrame (r : Result FrameValue FrameFault) : Type 0 where
  it : ReadsFrame r

bare_read : (content : Content) (field : List ℕ) → IsField content → OnContent (frames.bare content field)
bare_read content [] i = record { it = i }
bare_read content (x ∷ xs) i = record { it = tt }

no_frame : (fault : FrameFault) → OnContent (Err fault)
no_frame fault = record { it = tt }

report_read : (field : List ℕ) → OnContent (frames.report_read field)
report_read [] = record { it = tt }
report_read (a ∷ []) = record { it = tt }
report_read (a ∷ b ∷ []) = record { it = tt }
report_read (a ∷ b ∷ c ∷ []) = record { it = tt }
report_read (a ∷ b ∷ c ∷ d ∷ field) = record { it = tt }

response_read : (control : ℕ) (field : List ℕ) → OnContent (frames.response_read control field)
response_read control field =
    by_if (λ r. OnContent r) _ _ _ (bare_read Dm field tt) (by_if (λ r. OnContent r) _ _ _ (bare_read Ua field tt) (by_if (λ r. OnContent r) _ _ _ (report_read field) (no_frame UnknownControl)))

information_read : (info control : ℕ) (field : List ℕ) → AreOctets field → OnContent (frames.information_read info control field)
information_read info control field are =
    by_if (λ r. OnContent r) (nat_le (length field) info) (Ok (I (control / 2 % 8) (control / 32) field)) (Err InfoTooLong) (record { it = are }) (no_frame InfoTooLong)

command_read : (info control : ℕ) (field : List ℕ) → AreOctets field → OnContent (frames.command_read info control field)
command_read info control field are =
    by_if (λ r. OnContent r) _ _ _ (information_read info control field are) (by_if (λ r. OnContent r) _ _ _ (bare_read Sabm field tt) (by_if (λ r. OnContent r) _ _ _ (bare_read Disc field tt) (no_frame UnknownControl)))

content_read : (info : ℕ) (response : Bool) (control : ℕ) (field : List ℕ) → AreOctets field → OnContent (frames.content_read info response control field)
content_read info response control field are =
    by_if (λ r. OnContent r) _ _ _ (bare_read (Rr (control / 32)) field tt)
    (by_if (λ r. OnContent r) _ _ _ (bare_read (Rnr (control / 32)) field tt)
    (by_if (λ r. OnContent r) _ _ _ (bare_read (Rej (control / 32)) field tt) (by_if (λ r. OnContent r) _ _ _ (response_read control field) (command_read info control field are))))

with_head : (response pf : Bool) (r : Result Content FrameFault) → OnContent r → OnFrame (frames.with_head response pf r)
with_head response pf (Ok content) i = record { it = i.it }
with_head response pf (Err fault) i = record { it = tt }

wrong : (fault : FrameFault) → OnFrame (Err fault)
wrong fault = record { it = tt }

frame_read : (at : Role) (info : ℕ) (octets : List ℕ) → AreOctets octets → OnFrame (frames.reading at info octets)
frame_read at info [] are = wrong TooShort
frame_read at info (address ∷ []) are = wrong TooShort
frame_read at info (address ∷ control ∷ field) are =
    by_if (λ r. OnFrame r) _ _ _ (with_head false (frames.has_bit control 16) (frames.content_read info false control field) (content_read info false control field are.1.1))
    (by_if (λ r. OnFrame r) _ _ _ (with_head true (frames.has_bit control 16) (frames.content_read info true control field) (content_read info true control field are.1.1)) (wrong WrongAddress))

record Accepts (st : Step) : Type 0 where
  it : IfAny (λ packet. AreOctets packet) st.accepted

none_accepted : (st : Step) → st.accepted ≡ None → Accepts st
none_accepted st e = record { it = subst (λ (o : Option (List ℕ)). IfAny (λ packet. AreOctets packet) o) (sym e) tt }

still_accepts : (l : Link) → Accepts (link.still l)
still_accepts l = record { it = tt }

sends_accepts : (l : Link) (frame : FrameValue) → Accepts (link.sends l frame)
sends_accepts l frame = record { it = tt }

comes_up : (l : Link) → Accepts (link.come_up l)
comes_up l = record { it = tt }

accepts_packet : (l : Link) (p : Bool) (packet : List ℕ) → AreOctets packet → Accepts (link.accept l p packet)
accepts_packet l p packet are = record { it = are }

discards : (l : Link) (p : Bool) → Accepts (link.discard l p)
discards l p = record { it = tt }

begins_anew : (st : Step) (b : Bool) → Accepts st → Accepts (record st { anew = b })
begins_anew st b i = record { it = i.it }

rejects : (role : Role) (l : Link) (report : Report) (pf : Bool) → Accepts (link.reject_as role l report pf)
rejects Dte l report pf = none_accepted _ refl
rejects Dce l report pf = none_accepted _ refl

rejects_number : (l : Link) (content : Content) (r p : Bool) → Accepts (link.reject_number l content r p)
rejects_number l content r p = rejects l.role l _ _

checks : (l : Link) (content : Content) (r p : Bool) (nr : ℕ) (taken : Step) → Accepts taken → Accepts (link.checked l content r p nr taken)
checks l content r p nr taken i = by_if (λ st. Accepts st) _ _ _ (begins_anew taken (nat_lt 0 (link.ahead l.oldest nr)) i) (rejects_number l content r p)

informs : (l : Link) (ns : ℕ) (p : Bool) (packet : List ℕ) → AreOctets packet → Accepts (link.on_information l ns p packet)
informs l ns p packet are = by_if (λ st. Accepts st) _ _ _ (accepts_packet l p packet are) (discards l p)

supervises : (l : Link) (busy back r p : Bool) → Accepts (link.on_supervisory l busy back r p)
supervises l busy back r p = record { it = tt }

in_up : (role : Role) (l : Link) (content : Content) (r p : Bool) → IsField content → Accepts (link.in_up role l content r p)
in_up role l (I ns nr packet) r p i = checks l (I ns nr packet) r p nr _ (informs (link.acknowledged l nr) ns p packet i)
in_up role l (Rr nr) r p i = checks l (Rr nr) r p nr _ (supervises (link.acknowledged l nr) false false r p)
in_up role l (Rnr nr) r p i = checks l (Rnr nr) r p nr _ (supervises (link.acknowledged l nr) true false r p)
in_up role l (Rej nr) r p i = checks l (Rej nr) r p nr _ (supervises (link.acknowledged l nr) false true r p)
in_up role l Disc r p i = none_accepted _ refl
in_up role l Ua r p i = none_accepted _ refl
in_up Dte l content r p i = none_accepted _ refl
in_up Dce l (Frmr report) r p i = none_accepted _ refl
in_up Dce l content r p i = none_accepted _ refl

in_setting_up : (l : Link) (content : Content) (r p : Bool) → Accepts (link.in_setting_up l content r p)
in_setting_up l Ua r p = by_if (λ st. Accepts st) _ _ _ (comes_up l) (still_accepts l)
in_setting_up l Disc r p = none_accepted _ refl
in_setting_up l content r p = none_accepted _ refl

in_down : (role : Role) (l : Link) (content : Content) (r p : Bool) → Accepts (link.in_down role l content r p)
in_down Dte l Sabm r p = none_accepted _ refl
in_down Dte l Dm r p = none_accepted _ refl
in_down Dte l Disc r p = none_accepted _ refl
in_down Dce l Disc r p = none_accepted _ refl
in_down role l content r p = by_if (λ st. Accepts st) _ _ _ (sends_accepts l _) (still_accepts l)

in_rejecting : (l : Link) (content : Content) (r p : Bool) → Accepts (link.in_rejecting l content r p)
in_rejecting l Disc r p = none_accepted _ refl
in_rejecting l content r p = by_if (λ st. Accepts st) _ _ _ (still_accepts l) (sends_accepts l _)

in_phase : (phase : Phase) (role : Role) (l : Link) (content : Content) (r p : Bool) → IsField content → Accepts (link.in_phase phase role l content r p)
in_phase Down role l content r p i = in_down role l content r p
in_phase SettingUp role l content r p i = in_setting_up l content r p
in_phase Up role l content r p i = in_up role l content r p i
in_phase Rejecting role l content r p i = in_rejecting l content r p

on_content : (content : Content) (role : Role) (l : Link) (r p : Bool) → IsField content → Accepts (link.on_content content role l r p)
on_content Sabm Dce l r p i = none_accepted _ refl
on_content content role l r p i = in_phase l.phase role l content r p i

on_defect : (phase : Phase) (l : Link) (d : Defect) (control : ℕ) (r : Bool) → Accepts (link.on_defect_in phase l d control r)
on_defect Up l d control r = rejects l.role l _ _
on_defect phase l d control r = none_accepted _ refl

on_fault : (l : Link) (fault : FrameFault) (octets : List ℕ) → Accepts (link_octets.on_fault l fault octets)
on_fault l TooShort octets = none_accepted _ refl
on_fault l WrongAddress octets = none_accepted _ refl
on_fault l UnknownControl octets = on_defect l.phase l _ _ _
on_fault l InfoNotAllowed octets = on_defect l.phase l _ _ _
on_fault l InfoTooLong octets = on_defect l.phase l _ _ _

on_reading : (l : Link) (octets : List ℕ) (r : Result FrameValue FrameFault) → OnFrame r → Accepts (link_octets.on_reading l octets r)
on_reading l octets (Ok frame) i = on_content frame.content l.role l frame.response frame.pf i.it
on_reading l octets (Err fault) i = on_fault l fault octets

pub accepts_octets : (l : Link) (octets : List ℕ) → AreOctets octets → IfAny (λ packet. AreOctets packet) (link_octets.on_octets l octets).accepted
accepts_octets l octets are = (on_reading l octets (frames.reading l.role l.info octets) (frame_read l.role l.info octets are)).it
