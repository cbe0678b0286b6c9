-- What a step tells the packet layer: when a session begins, when it ends, and that packets are accepted inside it
-- alone.
use Rattle.std.specs.Prelude.{◌≡◌, ℕ, Bool, true, ◌⊎◌, List, [], ◌∷◌, None}
use Rattle.std.proofs.Common.{refl, sym, ap, ◌∙◌, inl, inr}
use Rattle.link_timers.specs.declared.role.Role.{Role}
use Rattle.link_timers.specs.declared.role.Role.TheVariants.{Dte, Dce}
use Rattle.frame_codec.specs.Frame.{FrameValue, Content, Report}
use Rattle.frame_codec.specs.Frame.Content.{Sabm, Ua}
use Rattle.lapb.specs.declared.phase.Phase.{Phase}
use Rattle.lapb.specs.declared.note.Note.{Note}
use Rattle.lapb.specs.Machine.{Octets, Link, Step, Defect, still, left, set_up, disconnect, relink}
use Rattle.lapb.specs.Machine.{reject_as, defect_report}
use Rattle.lapb.specs.Machine.{in_up}
use Rattle.lapb.specs.Machine.{on_content, on_frame, on_defect, on_t1}
use Rattle.lapb.specs.Machine.{send_all, settle, is_same}
use Rattle.lapb.proofs.Rules.{UpRules, OutRules, up_by, left_none, not_setting, by_up, by_content, by_relink, by_t1}
use Rattle.lapb.proofs.Rules.{by_settle, by_defect}

-- ---- a frame in the information transfer phase begins no session

-- the step stays up and says nothing, or leaves and says so
pub data Stays (step : Step) : Type 0 where
  goes_on : step.link.phase ≡ Phase.Up → step.note ≡ Note.Nothing → Stays step
  leaves : (step.link.phase ≡ Phase.Up → ⊥) → step.note ≡ Note.Down → step.accepted ≡ None → Stays step

stays-reject : (role : Role) (l : Link) (report : Report) (p : Bool) → l.phase ≡ Phase.Up → Stays (reject_as role l
    report p)
stays-reject Dte l report p up = leaves (λ e. cc) (ap left up) refl
stays-reject Dce l report p up = leaves (λ e. cc) (ap left up) refl

stays-up : (l : Link) (content : Content) (r p : Bool) → l.phase ≡ Phase.Up → UpRules l content r p Stays
stays-up l content r p up = record {
  still = λ _. goes_on up refl;
  set_up = leaves (λ e. cc) (ap left up) refl;
  disconnect = leaves (λ e. cc) (ap left up) refl;
  take_disc = leaves (λ e. cc) (ap left up) refl;
  reject = stays-reject l.role l _ _ up;
  supervisory = λ _ _ _ _ _ _. goes_on up refl;
  accept = λ _ _ _ _ _. goes_on up refl;
  discard = λ _ _ _ _. goes_on up refl;
}

pub stays-in_up : (role : Role) (l : Link) (content : Content) (r p : Bool) → l.phase ≡ Phase.Up → Stays (in_up role l
    content r p)
stays-in_up role l content r p up = by_up role l content r p Stays (stays-up l content r p up)

-- ---- what a step says

-- from a phase, by a step: a session begins, goes on, ends, or there is none
pub data Says (before : Phase) (step : Step) : Type 0 where
  begins : step.note ≡ Note.Up → step.link.phase ≡ Phase.Up → step.accepted ≡ None → Says before step
  continues : before ≡ Phase.Up → step.note ≡ Note.Nothing → step.link.phase ≡ Phase.Up → Says before step
  ends : before ≡ Phase.Up → step.note ≡ Note.Down → (step.link.phase ≡ Phase.Up → ⊥) → step.accepted ≡ None → Says
      before step
  stays_out : (before ≡ Phase.Up → ⊥) → step.note ≡ Note.Nothing → (step.link.phase ≡ Phase.Up → ⊥) → step.accepted ≡
      None → Says before step

says-stays : (before : Phase) (step : Step) → before ≡ Phase.Up → Stays step → Says before step
says-stays before step was (goes_on up none) = continues was none up
says-stays before step was (leaves off down none) = ends was down off none

says-still : (l : Link) → Says l.phase (still l)
says-still l = up_by (Says l.phase (still l)) l.phase (λ up. continues up refl up) (λ off. stays_out off refl off refl)

says-set_up : (l : Link) → Says l.phase (set_up l)
says-set_up l =
    up_by (Says l.phase (set_up l)) l.phase (λ up. ends up (ap left up) (λ e. cc) refl)
    (λ off. stays_out off (left_none l.phase off) (λ e. cc) refl)

says-disconnect : (l : Link) → Says l.phase (disconnect l)
says-disconnect l =
    up_by (Says l.phase (disconnect l)) l.phase (λ up. ends up (ap left up) (λ e. cc) refl)
    (λ off. stays_out off (left_none l.phase off) (λ e. cc) refl)

says-out : (l : Link) (content : Content) (p : Bool) → (l.phase ≡ Phase.Up → ⊥) → OutRules l content p (Says l.phase)
says-out l content p off = record {
  still = says-still l;
  refuse = λ bit. stays_out off refl off refl;
  report = λ bit. stays_out off refl off refl;
  set_up = says-set_up l;
  take_disc = stays_out off (left_none l.phase off) (λ e. cc) refl;
  come_up = λ _ _ _. begins refl refl refl;
}

-- a frame
pub says_on_frame : (l : Link) (content : Content) (role : Role) (r p : Bool) → Says l.phase (on_content content role
    l r p)
says_on_frame l content role r p =
    by_content content role l r p (Says l.phase) (λ _ _. begins refl refl refl)
    (λ up. says-stays l.phase (in_up role l content r p) up (stays-in_up role l content r p up))
    (λ off. says-out l content p off)

-- ---- T1, relinks, the end of an event, frames that could not be read

pub says_relink : (l : Link) → Says l.phase (relink l)
says_relink l = by_relink l (Says l.phase) (says-still l) (says-set_up l) (says-disconnect l)

pub says_on_t1 : (l : Link) → Says l.phase (on_t1 l)
says_on_t1 l = by_t1 l (Says l.phase) (record {
  still = says-still l;
  relink = says_relink l;
  poll = λ up. continues up refl up;
  refuse = λ off. stays_out off refl off refl;
  ask = λ e. stays_out (not_setting l e) refl (not_setting l e) refl;
  report = λ off. stays_out off refl off refl;
})

says-send_all : (l : Link) (packets : List Octets) → l.phase ≡ Phase.Up → Says l.phase (send_all l packets)
says-send_all l [] up = continues up refl up
says-send_all l (packet ∷ packets) up = continues up refl up

pub says_settle : (l : Link) → Says l.phase (settle l)
says_settle l = by_settle l (Says l.phase) (says-still l) (λ up packets _. says-send_all l packets up)

pub says_on_defect : (l : Link) (defect : Defect) (control : ℕ) (r : Bool) → Says l.phase (on_defect l defect control
    r)
says_on_defect l defect control r =
    by_defect l defect control r (Says l.phase) (says-still l)
    (λ up bit. says-stays l.phase _ up (stays-reject l.role l (defect_report l defect control r) bit up))

-- ---- which frame begins a session

-- a step that begins none
abbrev pub Quiet : Step → Type 0
Quiet step = step.note ≡ Note.Up → ⊥

quiet-stays : (step : Step) → Stays step → Quiet step
quiet-stays step (goes_on up none) e = cc
quiet-stays step (leaves off down none) e = cc

quiet_left : (phase : Phase) → left phase ≡ Note.Up → ⊥
quiet_left Phase.Down e = cc
quiet_left Phase.SettingUp e = cc
quiet_left Phase.Up e = cc
quiet_left Phase.Rejecting e = cc

-- a frame that is no SABM to a DCE begins one at a link that is setting up alone, and is the UA of its act
pub begins_by : (l : Link) (content : Content) (role : Role) (r p : Bool)
    → (on_content content role l r p).note ≡ Note.Up → ((content ≡ Sabm) × (role ≡ Dce))
    ⊎ ((l.phase ≡ Phase.SettingUp) × (content ≡ Ua) × (is_same p l.bit ≡ true))
begins_by l content role r p =
    by_content content role l r p
    (λ step. step.note ≡ Note.Up → ((content ≡ Sabm) × (role ≡ Dce))
    ⊎ ((l.phase ≡ Phase.SettingUp) × (content ≡ Ua) × (is_same p l.bit ≡ true)))
    (λ sabm dce _. inl (sabm, dce))
    (λ up note. absurd (quiet-stays (in_up role l content r p) (stays-in_up role l content r p up) note))
    (λ _. record {
      still = λ note. absurd (cc);
      refuse = λ _ note. absurd (cc);
      report = λ _ note. absurd (cc);
      set_up = λ note. absurd (quiet_left l.phase note);
      take_disc = λ note. absurd (quiet_left l.phase note);
      come_up = λ setting ua same _. inr (setting, ua, same);
    })

-- a DTE begins a session by the UA of its act, and by nothing else
pub dte_begins : (l : Link) (frame : FrameValue) → l.role ≡ Dte → (l.phase ≡ Phase.Rejecting → ⊥) → (on_frame l
    frame).note ≡ Note.Up →
    (l.phase ≡ Phase.SettingUp) × (frame.content ≡ Ua) × (is_same frame.pf l.bit ≡ true)
dte_begins l frame role off n = elim (begins_by l frame.content l.role frame.response frame.pf n) [
  | inl sabm ↦ absurd (let e : Dte ≡ Dce = sym role ∙ sabm.1 in cc)
  | inr answer ↦ answer
]
