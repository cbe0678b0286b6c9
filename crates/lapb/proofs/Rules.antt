-- What a link does at each call is done by one of a few rules. What holds of the step of each rule holds of the call's.
use Rattle.std.specs.Prelude.{◌≡◌, ℕ, Bool, true, false, not, ◌&&◌, ◌⊎◌, List, [], drop, if◌then◌else◌, ◌==◌, nat_le}
use Rattle.std.specs.Prelude.{nat_lt}
use Rattle.std.proofs.Common.{refl, sym, ◌∙◌, inl, inr}
use Rattle.link_timers.specs.declared.role.Role.{Role}
use Rattle.link_timers.specs.declared.role.Role.TheVariants.{Dte, Dce}
use Rattle.frame_codec.specs.Frame.{Content}
use Rattle.frame_codec.specs.Frame.Content.{I, Rr, Rnr, Rej, Sabm, Disc, Dm, Ua, Frmr}
use Rattle.lapb.specs.declared.phase.Phase.{Phase}
use Rattle.lapb.specs.declared.note.Note.{Note}
use Rattle.lapb.specs.Machine.{Octets, Link, Step, Defect, response, command, still, sends, left, set_up, disconnect}
use Rattle.lapb.specs.Machine.{relink, relink_as, ahead, take_sabm, come_up, take_disc, reject_as, reject_number}
use Rattle.lapb.specs.Machine.{defect_report, is_valid, acknowledged, on_supervisory, accept, discard, on_information}
use Rattle.lapb.specs.Machine.{checked}
use Rattle.lapb.specs.Machine.{in_up, in_setting_up, in_down, in_rejecting, in_phase, on_content, on_defect}
use Rattle.lapb.specs.Machine.{on_defect_in, on_t1, expire_in, runs, poll, send_all, settle, settle_in, is_same}
use Rattle.lapb.specs.Named.{newly}
use Rattle.lapb.proofs.Cases.{cond_by}

-- ---- phases

-- up or not
pub up_by : (P : Type 0) (phase : Phase) → (phase ≡ Phase.Up → P) → ((phase ≡ Phase.Up → ⊥) → P) → P
up_by P Phase.Down up out = out (λ e. cc)
up_by P Phase.SettingUp up out = out (λ e. cc)
up_by P Phase.Up up out = up refl
up_by P Phase.Rejecting up out = out (λ e. cc)

-- who was not up tells nothing of a session's end
pub left_none : (phase : Phase) → (phase ≡ Phase.Up → ⊥) → left phase ≡ Note.Nothing
left_none Phase.Down off = refl
left_none Phase.SettingUp off = refl
left_none Phase.Up off = absurd (off refl)
left_none Phase.Rejecting off = refl

not_down : (l : Link) → l.phase ≡ Phase.Down → l.phase ≡ Phase.Up → ⊥
not_down l e f = let x : Phase.Down ≡ Phase.Up = sym e ∙ f in cc

pub not_setting : (l : Link) → l.phase ≡ Phase.SettingUp → l.phase ≡ Phase.Up → ⊥
not_setting l e f = let x : Phase.SettingUp ≡ Phase.Up = sym e ∙ f in cc

not_rejecting : (l : Link) → l.phase ≡ Phase.Rejecting → l.phase ≡ Phase.Up → ⊥
not_rejecting l e f = let x : Phase.Rejecting ≡ Phase.Up = sym e ∙ f in cc

-- ---- a frame in the information transfer phase

-- the frame has this N(R)
pub data Numbers : Content → ℕ → Type 0 where
  of_i : {ns nr : ℕ} {packet : Octets} → Numbers (I ns nr packet) nr
  of_rr : {nr : ℕ} → Numbers (Rr nr) nr
  of_rnr : {nr : ℕ} → Numbers (Rnr nr) nr
  of_rej : {nr : ℕ} → Numbers (Rej nr) nr

-- the rules for a frame of these contents, with its P/F bit
pub record UpRules (l : Link) (content : Content) (r p : Bool) (P : Step → Type 0) : Type 0 where
  pub still : newly l content ≡ 0 → P (still l)
  pub set_up : P (set_up l)
  pub disconnect : P (disconnect l)
  pub take_disc : P (take_disc l p)
  pub reject : P (reject_number l content r p)
  pub supervisory : (nr : ℕ) → Numbers content nr → is_valid l nr ≡ true → (busy back anew : Bool)
      → P (record (on_supervisory (acknowledged l nr) busy back r p) { anew = anew })
  pub accept : (nr : ℕ) (packet : Octets) → Numbers content nr → is_valid l nr ≡ true → (anew : Bool)
      → P (record (accept (acknowledged l nr) p packet) { anew = anew })
  pub discard : (nr : ℕ) → Numbers content nr → is_valid l nr ≡ true → (anew : Bool)
      → P (record (discard (acknowledged l nr) p) { anew = anew })

by_checked : (l : Link) (content : Content) (r p : Bool) (P : Step → Type 0) (nr : ℕ) (taken : Step)
    → ((anew : Bool) → is_valid l nr ≡ true → P (record taken { anew = anew })) → P (reject_number l content r p)
    → P (checked l content r p nr taken)
by_checked l content r p P nr taken valid wrong =
    let anew : Bool = nat_lt 0 (ahead l.oldest nr) in
    cond_by (λ b. P (if b then record taken { anew = anew } else reject_number l content r p)) (is_valid l nr)
    (λ e. valid anew e) (λ _. wrong)

pub by_up : (role : Role) (l : Link) (content : Content) (r p : Bool) (P : Step → Type 0)
    → UpRules l content r p P → P (in_up role l content r p)
by_up role l (I ns nr packet) r p P u =
    by_checked l (I ns nr packet) r p P nr (on_information (acknowledged l nr) ns p packet)
    (λ anew e. cond_by (λ b. P (record (if b then accept (acknowledged l nr) p packet else discard (acknowledged l nr)
    p) { anew = anew })) (ns == l.expected) (λ _. u.accept nr packet of_i e anew) (λ _. u.discard nr of_i e anew))
    u.reject
by_up role l (Rr nr) r p P u =
    by_checked l (Rr nr) r p P nr (on_supervisory (acknowledged l nr) false false r p)
    (λ anew e. u.supervisory nr of_rr e false false anew) u.reject
by_up role l (Rnr nr) r p P u =
    by_checked l (Rnr nr) r p P nr (on_supervisory (acknowledged l nr) true false r p)
    (λ anew e. u.supervisory nr of_rnr e true false anew) u.reject
by_up role l (Rej nr) r p P u =
    by_checked l (Rej nr) r p P nr (on_supervisory (acknowledged l nr) false true r p)
    (λ anew e. u.supervisory nr of_rej e false true anew) u.reject
by_up role l Disc r p P u = u.take_disc
by_up role l Ua r p P u = u.still refl
by_up Dte l Sabm r p P u = u.set_up
by_up Dte l Dm r p P u = u.set_up
by_up Dte l (Frmr report) r p P u = u.set_up
by_up Dce l Sabm r p P u = u.still refl
by_up Dce l Dm r p P u = u.still refl
by_up Dce l (Frmr report) r p P u = u.disconnect

-- ---- a frame in the other phases, and in any

pub record OutRules (l : Link) (content : Content) (p : Bool) (P : Step → Type 0) : Type 0 where
  pub still : P (still l)
  pub refuse : (bit : Bool) → P (sends l (response Dm bit))
  pub report : (bit : Bool) → P (sends l (response (Frmr l.report) bit))
  pub set_up : P (set_up l)
  pub take_disc : P (take_disc l p)
  pub come_up : l.phase ≡ Phase.SettingUp → content ≡ Ua → is_same p l.bit ≡ true → P (come_up l)

polite : (l : Link) (content : Content) (p : Bool) (P : Step → Type 0) (due : Bool) → OutRules l content p P
    → P (if due then sends l (response Dm true) else still l)
polite l content p P true o = o.refuse true
polite l content p P false o = o.still

by_down : (role : Role) (l : Link) (content : Content) (r p : Bool) (P : Step → Type 0) → OutRules l content p P
    → P (in_down role l content r p)
by_down Dte l Sabm r p P o = o.set_up
by_down Dte l Dm r p P o = o.set_up
by_down Dte l Disc r p P o = o.refuse p
by_down Dte l (I ns nr packet) r p P o = polite l _ p P (p && not r) o
by_down Dte l (Rr nr) r p P o = polite l _ p P (p && not r) o
by_down Dte l (Rnr nr) r p P o = polite l _ p P (p && not r) o
by_down Dte l (Rej nr) r p P o = polite l _ p P (p && not r) o
by_down Dte l Ua r p P o = polite l _ p P (p && not r) o
by_down Dte l (Frmr report) r p P o = polite l _ p P (p && not r) o
by_down Dce l Disc r p P o = o.refuse p
by_down Dce l Sabm r p P o = polite l _ p P (p && not r) o
by_down Dce l Dm r p P o = polite l _ p P (p && not r) o
by_down Dce l (I ns nr packet) r p P o = polite l _ p P (p && not r) o
by_down Dce l (Rr nr) r p P o = polite l _ p P (p && not r) o
by_down Dce l (Rnr nr) r p P o = polite l _ p P (p && not r) o
by_down Dce l (Rej nr) r p P o = polite l _ p P (p && not r) o
by_down Dce l Ua r p P o = polite l _ p P (p && not r) o
by_down Dce l (Frmr report) r p P o = polite l _ p P (p && not r) o

by_setting_up : (l : Link) (content : Content) (r p : Bool) (P : Step → Type 0) → l.phase ≡ Phase.SettingUp
    → OutRules l content p P → P (in_setting_up l content r p)
by_setting_up l Ua r p P e o =
    cond_by (λ b. P (if b then come_up l else still l)) (is_same p l.bit) (λ same. o.come_up e refl same) (λ _. o.still)
by_setting_up l Disc r p P e o = o.refuse p
by_setting_up l Sabm r p P e o = o.still
by_setting_up l Dm r p P e o = o.still
by_setting_up l (Frmr report) r p P e o = o.still
by_setting_up l (I ns nr packet) r p P e o = o.still
by_setting_up l (Rr nr) r p P e o = o.still
by_setting_up l (Rnr nr) r p P e o = o.still
by_setting_up l (Rej nr) r p P e o = o.still

again : (l : Link) (content : Content) (r p : Bool) (P : Step → Type 0) → OutRules l content p P
    → P (if r then still l else sends l (response (Frmr l.report) p))
again l content true p P o = o.still
again l content false p P o = o.report p

by_rejecting : (l : Link) (content : Content) (r p : Bool) (P : Step → Type 0) → OutRules l content p P
    → P (in_rejecting l content r p)
by_rejecting l Disc r p P o = o.take_disc
by_rejecting l Sabm r p P o = again l _ r p P o
by_rejecting l Dm r p P o = again l _ r p P o
by_rejecting l Ua r p P o = again l _ r p P o
by_rejecting l (Frmr report) r p P o = again l _ r p P o
by_rejecting l (I ns nr packet) r p P o = again l _ r p P o
by_rejecting l (Rr nr) r p P o = again l _ r p P o
by_rejecting l (Rnr nr) r p P o = again l _ r p P o
by_rejecting l (Rej nr) r p P o = again l _ r p P o

by_phase : (phase : Phase) (role : Role) (l : Link) (content : Content) (r p : Bool) (P : Step → Type 0)
    → l.phase ≡ phase → (l.phase ≡ Phase.Up → P (in_up role l content r p))
    → ((l.phase ≡ Phase.Up → ⊥) → OutRules l content p P) → P (in_phase phase role l content r p)
by_phase Phase.Down role l content r p P e up out = by_down role l content r p P (out (not_down l e))
by_phase Phase.SettingUp role l content r p P e up out = by_setting_up l content r p P e (out (not_setting l e))
by_phase Phase.Up role l content r p P e up out = up e
by_phase Phase.Rejecting role l content r p P e up out = by_rejecting l content r p P (out (not_rejecting l e))

pub by_content : (content : Content) (role : Role) (l : Link) (r p : Bool) (P : Step → Type 0)
    → (content ≡ Sabm → role ≡ Dce → P (take_sabm l p)) → (l.phase ≡ Phase.Up → P (in_up role l content r p))
    → ((l.phase ≡ Phase.Up → ⊥) → OutRules l content p P) → P (on_content content role l r p)
by_content Sabm Dce l r p P sabm up out = sabm refl refl
by_content Sabm Dte l r p P sabm up out = by_phase l.phase Dte l Sabm r p P refl up out
by_content (I ns nr packet) role l r p P sabm up out = by_phase l.phase role l (I ns nr packet) r p P refl up out
by_content (Rr nr) role l r p P sabm up out = by_phase l.phase role l (Rr nr) r p P refl up out
by_content (Rnr nr) role l r p P sabm up out = by_phase l.phase role l (Rnr nr) r p P refl up out
by_content (Rej nr) role l r p P sabm up out = by_phase l.phase role l (Rej nr) r p P refl up out
by_content Disc role l r p P sabm up out = by_phase l.phase role l Disc r p P refl up out
by_content Dm role l r p P sabm up out = by_phase l.phase role l Dm r p P refl up out
by_content Ua role l r p P sabm up out = by_phase l.phase role l Ua r p P refl up out
by_content (Frmr report) role l r p P sabm up out = by_phase l.phase role l (Frmr report) r p P refl up out

-- ---- the other calls

by_relink_as : (role : Role) (phase : Phase) (l : Link) (P : Step → Type 0) → P (still l) → P (set_up l)
    → P (disconnect l) → P (relink_as role phase l)
by_relink_as Dte Phase.SettingUp l P same set down = same
by_relink_as Dte Phase.Down l P same set down = set
by_relink_as Dte Phase.Up l P same set down = set
by_relink_as Dte Phase.Rejecting l P same set down = set
by_relink_as Dce phase l P same set down = down

-- a start or a relink
pub by_relink : (l : Link) (P : Step → Type 0) → P (still l) → P (set_up l) → P (disconnect l) → P (relink l)
by_relink l P same set down = by_relink_as l.role l.phase l P same set down

-- an expiry of T1
pub record T1Rules (l : Link) (P : Step → Type 0) : Type 0 where
  pub still : P (still l)
  pub relink : P (relink l)
  pub poll : l.phase ≡ Phase.Up → P (poll l)
  pub refuse : (l.phase ≡ Phase.Up → ⊥) → P (record (sends l (response Dm false)) { anew = true })
  pub ask : l.phase ≡ Phase.SettingUp → P (record (sends l (command Sabm l.bit)) { anew = true })
  pub report : (l.phase ≡ Phase.Up → ⊥) → P (record (sends l (response (Frmr l.report) false)) { anew = true })

by_expire_in : (phase : Phase) (l : Link) (P : Step → Type 0) → l.phase ≡ phase → T1Rules l P → P (expire_in phase l)
by_expire_in Phase.Down l P e t = t.refuse (not_down l e)
by_expire_in Phase.SettingUp l P e t = t.ask e
by_expire_in Phase.Up l P e t =
    cond_by (λ b. P (if b then relink l else poll l)) (nat_le l.n2 l.polls) (λ _. t.relink) (λ _. t.poll e)
by_expire_in Phase.Rejecting l P e t = t.report (not_rejecting l e)

pub by_t1 : (l : Link) (P : Step → Type 0) → T1Rules l P → P (on_t1 l)
by_t1 l P t =
    cond_by (λ b. P (if b then expire_in l.phase l else still l)) (runs l) (λ _. by_expire_in l.phase l P refl t)
    (λ _. t.still)

by_settle_in : (phase : Phase) (l : Link) (P : Step → Type 0) → l.phase ≡ phase → P (still l)
    → (l.phase ≡ Phase.Up → (packets : List Octets) → packets ≡ [] ⊎ (packets ≡ drop l.next l.queue)
    → P (send_all l packets)) → P (settle_in phase l)
by_settle_in Phase.Up l P e same all =
    cond_by (λ b. P (send_all l (if b then drop l.next l.queue else []))) _
    (λ _. all e (drop l.next l.queue) (inr refl)) (λ _. all e [] (inl refl))
by_settle_in Phase.Down l P e same all = same
by_settle_in Phase.SettingUp l P e same all = same
by_settle_in Phase.Rejecting l P e same all = same

-- the end of an event
pub by_settle : (l : Link) (P : Step → Type 0) → P (still l)
    → (l.phase ≡ Phase.Up → (packets : List Octets) → packets ≡ [] ⊎ (packets ≡ drop l.next l.queue)
    → P (send_all l packets)) → P (settle l)
by_settle l P same all = by_settle_in l.phase l P refl same all

by_defect_in : (phase : Phase) (l : Link) (defect : Defect) (control : ℕ) (r : Bool) (P : Step → Type 0)
    → l.phase ≡ phase → P (still l)
    → (l.phase ≡ Phase.Up → (bit : Bool) → P (reject_as l.role l (defect_report l defect control r) bit))
    → P (on_defect_in phase l defect control r)
by_defect_in Phase.Down l defect control r P e same wrong = same
by_defect_in Phase.SettingUp l defect control r P e same wrong = same
by_defect_in Phase.Up l defect control r P e same wrong = wrong e _
by_defect_in Phase.Rejecting l defect control r P e same wrong = same

-- a frame that could not be read
pub by_defect : (l : Link) (defect : Defect) (control : ℕ) (r : Bool) (P : Step → Type 0) → P (still l)
    → (l.phase ≡ Phase.Up → (bit : Bool) → P (reject_as l.role l (defect_report l defect control r) bit))
    → P (on_defect l defect control r)
by_defect l defect control r P same wrong = by_defect_in l.phase l defect control r P refl same wrong
