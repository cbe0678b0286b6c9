-- The greatest number of unacknowledged packets of a link stays as it was made.
use Rattle.std.proofs.Common.{◌≡◌, ℕ, Bool, true, false, if◌then◌else◌, List, [], ◌∷◌, Result, Ok, Err, refl, nat_lt}
use Rattle.link_timers.specs.declared.role.Role.{Role}
use Rattle.link_timers.specs.declared.role.Role.TheVariants.{Dte, Dce}
use Rattle.frame_codec.specs.declared.fault.FrameFault.{FrameFault}
use Rattle.frame_codec.specs.declared.fault.FrameFault.TheVariants.{TooShort, WrongAddress, UnknownControl, InfoNotAllowed, InfoTooLong}
use Rattle.frame_codec.specs.Frame.{Content, Report, I, Rr, Rnr, Rej, Sabm, Disc, Dm, Ua, Frmr, FrameValue}
use Rattle.frame_codec.specs.Reading as frames
use Rattle.lapb.specs.declared.phase.Phase.{Phase}
use Rattle.lapb.specs.declared.phase.Phase.TheVariants.{Down, SettingUp, Up, Rejecting}
use Rattle.lapb.specs.Machine as link
use Rattle.lapb.specs.Machine.{Link, Step, Defect}
use Rattle.lapb.specs.Octets as link_octets

by_if : {X : Type 0} (P : X → Type 0) (b : Bool) (x y : X) → P x → P y → P (if b then x else y)
by_if P true x y f g = f
by_if P false x y f g = g

record SameK (k : ℕ) (st : Step) : Type 0 where
  it : st.link.k ≡ k

still_k : (l : Link) → SameK l.k (link.still l)
still_k l = record { it = refl }

sends_k : (l : Link) (frame : FrameValue) → SameK l.k (link.sends l frame)
sends_k l frame = record { it = refl }

sets_up_k : (l : Link) → SameK l.k (link.set_up l)
sets_up_k l = record { it = refl }

disconnects_k : (l : Link) → SameK l.k (link.disconnect l)
disconnects_k l = record { it = refl }

disc_k : (l : Link) (p : Bool) → SameK l.k (link.take_disc l p)
disc_k l p = record { it = refl }

sabm_k : (l : Link) (p : Bool) → SameK l.k (link.take_sabm l p)
sabm_k l p = record { it = refl }

comes_up_k : (l : Link) → SameK l.k (link.come_up l)
comes_up_k l = record { it = refl }

rejects_k : (role : Role) (l : Link) (report : Report) (p : Bool) → SameK l.k (link.reject_as role l report p)
rejects_k Dte l report p = sets_up_k l
rejects_k Dce l report p = record { it = refl }

anew_k : (k : ℕ) (st : Step) (b : Bool) → SameK k st → SameK k (record st { anew = b })
anew_k k st b i = record { it = i.it }

checks_k : (l : Link) (content : Content) (r p : Bool) (nr : ℕ) (taken : Step) → SameK l.k taken → SameK l.k (link.checked l content r p nr taken)
checks_k l content r p nr taken i = by_if (λ st. SameK l.k st) _ _ _ (anew_k l.k taken (nat_lt 0 (link.ahead l.oldest nr)) i) (rejects_k l.role l _ _)

accepts_k : (l : Link) (p : Bool) (packet : List ℕ) → SameK l.k (link.accept l p packet)
accepts_k l p packet = record { it = refl }

discards_k : (l : Link) (p : Bool) → SameK l.k (link.discard l p)
discards_k l p = record { it = refl }

informs_k : (l : Link) (ns : ℕ) (p : Bool) (packet : List ℕ) → SameK l.k (link.on_information l ns p packet)
informs_k l ns p packet = by_if (λ st. SameK l.k st) _ _ _ (accepts_k l p packet) (discards_k l p)

supervises_k : (l : Link) (busy back r p : Bool) → SameK l.k (link.on_supervisory l busy back r p)
supervises_k l busy back r p = record { it = refl }

in_up_k : (role : Role) (l : Link) (content : Content) (r p : Bool) → SameK l.k (link.in_up role l content r p)
in_up_k role l (I ns nr packet) r p = checks_k l (I ns nr packet) r p nr _ (informs_k (link.acknowledged l nr) ns p packet)
in_up_k role l (Rr nr) r p = checks_k l (Rr nr) r p nr _ (supervises_k (link.acknowledged l nr) false false r p)
in_up_k role l (Rnr nr) r p = checks_k l (Rnr nr) r p nr _ (supervises_k (link.acknowledged l nr) true false r p)
in_up_k role l (Rej nr) r p = checks_k l (Rej nr) r p nr _ (supervises_k (link.acknowledged l nr) false true r p)
in_up_k role l Disc r p = disc_k l p
in_up_k role l Ua r p = still_k l
in_up_k Dte l content r p = sets_up_k l
in_up_k Dce l (Frmr report) r p = disconnects_k l
in_up_k Dce l content r p = still_k l

in_setting_up_k : (l : Link) (content : Content) (r p : Bool) → SameK l.k (link.in_setting_up l content r p)
in_setting_up_k l Ua r p = by_if (λ st. SameK l.k st) _ _ _ (comes_up_k l) (still_k l)
in_setting_up_k l Disc r p = sends_k l _
in_setting_up_k l content r p = still_k l

in_down_k : (role : Role) (l : Link) (content : Content) (r p : Bool) → SameK l.k (link.in_down role l content r p)
in_down_k Dte l Sabm r p = sets_up_k l
in_down_k Dte l Dm r p = sets_up_k l
in_down_k Dte l Disc r p = sends_k l _
in_down_k Dce l Disc r p = sends_k l _
in_down_k role l content r p = by_if (λ st. SameK l.k st) _ _ _ (sends_k l _) (still_k l)

in_rejecting_k : (l : Link) (content : Content) (r p : Bool) → SameK l.k (link.in_rejecting l content r p)
in_rejecting_k l Disc r p = disc_k l p
in_rejecting_k l content r p = by_if (λ st. SameK l.k st) _ _ _ (still_k l) (sends_k l _)

in_phase_k : (phase : Phase) (role : Role) (l : Link) (content : Content) (r p : Bool) → SameK l.k (link.in_phase phase role l content r p)
in_phase_k Down role l content r p = in_down_k role l content r p
in_phase_k SettingUp role l content r p = in_setting_up_k l content r p
in_phase_k Up role l content r p = in_up_k role l content r p
in_phase_k Rejecting role l content r p = in_rejecting_k l content r p

on_content_k : (content : Content) (role : Role) (l : Link) (r p : Bool) → SameK l.k (link.on_content content role l r p)
on_content_k Sabm Dce l r p = sabm_k l p
on_content_k content role l r p = in_phase_k l.phase role l content r p

on_defect_k : (phase : Phase) (l : Link) (d : Defect) (control : ℕ) (r : Bool) → SameK l.k (link.on_defect_in phase l d control r)
on_defect_k Up l d control r = rejects_k l.role l _ _
on_defect_k phase l d control r = still_k l

on_fault_k : (l : Link) (fault : FrameFault) (octets : List ℕ) → SameK l.k (link_octets.on_fault l fault octets)
on_fault_k l TooShort octets = still_k l
on_fault_k l WrongAddress octets = still_k l
on_fault_k l UnknownControl octets = on_defect_k l.phase l _ _ _
on_fault_k l InfoNotAllowed octets = on_defect_k l.phase l _ _ _
on_fault_k l InfoTooLong octets = on_defect_k l.phase l _ _ _

on_reading_k : (l : Link) (octets : List ℕ) (r : Result FrameValue FrameFault) → SameK l.k (link_octets.on_reading l octets r)
on_reading_k l octets (Ok frame) = on_content_k frame.content l.role l frame.response frame.pf
on_reading_k l octets (Err fault) = on_fault_k l fault octets

pub octets_keep_k : (l : Link) (octets : List ℕ) → (link_octets.on_octets l octets).link.k ≡ l.k
octets_keep_k l octets = (on_reading_k l octets (frames.reading l.role l.info octets)).it

relinks_as : (role : Role) (phase : Phase) (l : Link) → SameK l.k (link.relink_as role phase l)
relinks_as Dte SettingUp l = still_k l
relinks_as Dte phase l = sets_up_k l
relinks_as Dce phase l = disconnects_k l

pub relink_keeps_k : (l : Link) → (link.relink l).link.k ≡ l.k
relink_keeps_k l = (relinks_as l.role l.phase l).it

polls_k : (l : Link) → SameK l.k (link.poll l)
polls_k l = record { it = refl }

relink_k : (l : Link) → SameK l.k (link.relink l)
relink_k l = relinks_as l.role l.phase l

expires_k : (phase : Phase) (l : Link) → SameK l.k (link.expire_in phase l)
expires_k Down l = record { it = refl }
expires_k SettingUp l = record { it = refl }
expires_k Up l = by_if (λ st. SameK l.k st) _ _ _ (relink_k l) (polls_k l)
expires_k Rejecting l = record { it = refl }

t1_k : (l : Link) → SameK l.k (link.on_t1 l)
t1_k l = by_if (λ st. SameK l.k st) _ _ _ (expires_k l.phase l) (still_k l)

pub t1_keeps_k : (l : Link) → (link.on_t1 l).link.k ≡ l.k
t1_keeps_k l = (t1_k l).it

sent_k : (l : Link) (packets : List (List ℕ)) → SameK l.k (link.send_all l packets)
sent_k l [] = record { it = refl }
sent_k l (packet ∷ packets) = record { it = refl }

settles_in_k : (phase : Phase) (l : Link) → SameK l.k (link.settle_in phase l)
settles_in_k Up l = sent_k l (link.sendable l)
settles_in_k phase l = still_k l

pub settle_keeps_k : (l : Link) → (link.settle l).link.k ≡ l.k
settle_keeps_k l = (settles_in_k l.phase l).it
