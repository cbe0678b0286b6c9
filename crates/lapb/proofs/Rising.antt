-- Sessions come in rising order: the acts of SABMs, the sessions of both ends, and what each call tells.
use Rattle.std.specs.Prelude.{◌≡◌, ℕ, ◌+◌, ◌<◌, ◌≤◌, Bool, true, false, not, ◌&&◌, ◌⊎◌, List, [], ◌∷◌, Option, Some}
use Rattle.std.specs.Prelude.{None, if◌then◌else◌, Result, Ok, Err}
use Rattle.std.proofs.Common.{refl, sym, ap, ◌∙◌, subst, inl, inr, arith}
use Rattle.link_timers.specs.declared.role.Role.{Role}
use Rattle.link_timers.specs.declared.role.Role.TheVariants.{Dte, Dce}
use Rattle.frame_codec.specs.declared.fault.FrameFault.{FrameFault}
use Rattle.frame_codec.specs.declared.fault.FrameFault.TheVariants.{TooShort, WrongAddress, UnknownControl}
use Rattle.frame_codec.specs.declared.fault.FrameFault.TheVariants.{InfoNotAllowed, InfoTooLong}
use Rattle.frame_codec.specs.Frame.{FrameValue, Content, Report}
use Rattle.frame_codec.specs.Frame.Content.{Rr, Rej}
use Rattle.frame_codec.specs.Reading.{reading}
use Rattle.frame_codec.specs.Spelling.{spelling}
use Rattle.lapb.specs.declared.phase.Phase.{Phase}
use Rattle.lapb.specs.declared.note.Note.{Note}
use Rattle.lapb.specs.Machine.{Octets, Link, Step, left, answers, response, still, set_up, disconnect, relink}
use Rattle.lapb.specs.Machine.{reject_as}
use Rattle.lapb.specs.Machine.{on_frame, on_t1, numbered, send_all, settle}
use Rattle.lapb.specs.Machine.{is_up}
use Rattle.lapb.specs.Octets.{on_octets, on_reading, on_fault}
use Rattle.lapb.specs.declared.link.LinkParams.{LinkParams}
use Rattle.lapb.specs.World.{Sent, World, Event, Offer, Deliver, Lose, Expire, Relink, Settle, Restart}
use Rattle.lapb.specs.World.{stamped, kept_of, is_sabm, is_setting_up, is_up_note, act_after, dte_does, to_dte}
use Rattle.lapb.specs.World.{to_dce, without_first, happens, run, opening, Always}
use Rattle.lapb.specs.Reach.{Reached}
use Rattle.lapb.specs.Fits.{AllSpelt, octets_of}
use Rattle.lapb.specs.LinkLine.{StandsIn}
use Rattle.lapb.specs.Rising.{AsksInOrder, SessionsRise, Tells, IsPlain, CallsTell}
use Rattle.lapb.proofs.Cases.{cond_by, Each, each-kept, each-weaken}
use Rattle.lapb.proofs.Flights.{Flight, flight-append, flight-stamped, Ups}
use Rattle.lapb.proofs.Inv.{Inv}
use Rattle.lapb.proofs.Events.{happens-keeps}
use Rattle.lapb.proofs.Rules.{UpRules, OutRules, by_up, by_content, by_relink, by_t1, by_settle}
use Rattle.lapb.proofs.Notes.{Says, begins, continues, ends, stays_out, says_on_frame, says_on_t1, says_relink}
use Rattle.lapb.proofs.Notes.{says_settle, says_on_defect, dte_begins}
use Rattle.lapb.proofs.LinkLaw.{opening-meets, always-inv}
use Rattle.lapb.proofs.Reach.{reached_inv}
use Rattle.lapb.proofs.Fitting.{octets_taken}
use Rattle.lapb.proofs.Sessions.{dce_begins}

-- ---- what a call tells

not-up : (p : Phase) → (p ≡ Phase.Up → ⊥) → is_up p ≡ false
not-up Phase.Down off = refl
not-up Phase.SettingUp off = refl
not-up Phase.Up off = absurd (off refl)
not-up Phase.Rejecting off = refl

some-none : (o : Option Octets) (packet : Octets) → o ≡ Some packet → o ≡ None → ⊥
some-none o packet e f = cc

says-tells : (before : Link) (step : Step) → Says before.phase step → Tells before step
says-tells before step (begins note up none) = record {
  begins = λ e. (up, none);
  ends = λ e. absurd (let x = sym note ∙ e in cc);
  stays = λ e. absurd (let x = sym note ∙ e in cc);
  comes_up = λ off e. note;
  leaves = λ e off. absurd (off up);
  accepts = λ packet e. absurd (some-none step.accepted packet e none);
}
says-tells before step (continues was note up) = record {
  begins = λ e. absurd (let x = sym note ∙ e in cc);
  ends = λ e. absurd (let x = sym note ∙ e in cc);
  stays = λ e. ap is_up (up ∙ sym was);
  comes_up = λ off e. absurd (off was);
  leaves = λ e off. absurd (off up);
  accepts = λ packet e. (note, was, up);
}
says-tells before step (ends was note off none) = record {
  begins = λ e. absurd (let x = sym note ∙ e in cc);
  ends = λ e. (was, off, none);
  stays = λ e. absurd (let x = sym note ∙ e in cc);
  comes_up = λ out e. absurd (off e);
  leaves = λ e out. note;
  accepts = λ packet e. absurd (some-none step.accepted packet e none);
}
says-tells before step (stays_out was note off none) = record {
  begins = λ e. absurd (let x = sym note ∙ e in cc);
  ends = λ e. absurd (let x = sym note ∙ e in cc);
  stays = λ e. not-up step.link.phase off ∙ sym (not-up before.phase was);
  comes_up = λ out e. absurd (off e);
  leaves = λ e out. absurd (was e);
  accepts = λ packet e. absurd (some-none step.accepted packet e none);
}

-- a frame, octets
pub tells_on_frame : (l : Link) (frame : FrameValue) → Tells l (on_frame l frame)
tells_on_frame l frame = says-tells l (on_frame l frame) (says_on_frame l frame.content l.role frame.response frame.pf)

tells-still : (l : Link) → Tells l (still l)
tells-still l = record {
  begins = λ e. absurd (cc);
  ends = λ e. absurd (cc);
  stays = λ e. refl;
  comes_up = λ off e. absurd (off e);
  leaves = λ e off. absurd (off e);
  accepts = λ packet e. absurd (cc);
}

tells-fault : (l : Link) (fault : FrameFault) (bytes : Octets) → Tells l (on_fault l fault bytes)
tells-fault l TooShort bytes = tells-still l
tells-fault l WrongAddress bytes = tells-still l
tells-fault l UnknownControl bytes = says-tells l _ (says_on_defect l _ _ _)
tells-fault l InfoNotAllowed bytes = says-tells l _ (says_on_defect l _ _ _)
tells-fault l InfoTooLong bytes = says-tells l _ (says_on_defect l _ _ _)

tells-reading : (l : Link) (bytes : Octets) (r : Result FrameValue FrameFault) → Tells l (on_reading l bytes r)
tells-reading l bytes (Ok frame) = tells_on_frame l frame
tells-reading l bytes (Err fault) = tells-fault l fault bytes

pub tells_on_octets : (l : Link) (bytes : Octets) → Tells l (on_octets l bytes)
tells_on_octets l bytes = tells-reading l bytes (reading l.role l.info bytes)

pub tells_on_t1 : (l : Link) → Tells l (on_t1 l)
tells_on_t1 l = says-tells l (on_t1 l) (says_on_t1 l)

pub tells_relink : (l : Link) → Tells l (relink l)
tells_relink l = says-tells l (relink l) (says_relink l)

pub tells_settle : (l : Link) → Tells l (settle l)
tells_settle l = says-tells l (settle l) (says_settle l)

-- ---- calls that begin no session and accept nothing

left-not_up : (p : Phase) → is_up_note (left p) ≡ false
left-not_up Phase.Down = refl
left-not_up Phase.SettingUp = refl
left-not_up Phase.Up = refl
left-not_up Phase.Rejecting = refl

plain-left : (step : Step) (phase : Phase) → step.note ≡ left phase → step.accepted ≡ None → IsPlain step
plain-left step phase note none = record { begins = ap is_up_note note ∙ left-not_up phase; accepts = none }

pub plain_relink : (l : Link) → IsPlain (relink l)
plain_relink l =
    by_relink l IsPlain (record { begins = refl; accepts = refl }) (plain-left (set_up l) l.phase refl refl)
    (plain-left (disconnect l) l.phase refl refl)

pub plain_on_t1 : (l : Link) → IsPlain (on_t1 l)
plain_on_t1 l = by_t1 l IsPlain (record {
  still = record { begins = refl; accepts = refl };
  relink = plain_relink l;
  poll = λ _. record { begins = refl; accepts = refl };
  refuse = λ _. record { begins = refl; accepts = refl };
  ask = λ _. record { begins = refl; accepts = refl };
  report = λ _. record { begins = refl; accepts = refl };
})

plain-send_all : (l : Link) (packets : List Octets) → IsPlain (send_all l packets)
plain-send_all l [] = record { begins = refl; accepts = refl }
plain-send_all l (packet ∷ packets) = record { begins = refl; accepts = refl }

pub plain_settle : (l : Link) → IsPlain (settle l)
plain_settle l =
    by_settle l IsPlain (record { begins = refl; accepts = refl }) (λ _ packets _. plain-send_all l packets)

pub calls_tell : (l : Link) → CallsTell l
calls_tell l = record {
  frame = λ frame. tells_on_frame l frame;
  octets = λ octets. tells_on_octets l octets;
  t1 = (tells_on_t1 l, plain_on_t1 l);
  relink = (tells_relink l, plain_relink l);
  settle = (tells_settle l, plain_settle l);
  offer = λ packet. refl;
}

-- ---- a SABM is sent by a link that is setting up alone

abbrev NoSets : List FrameValue → Type 0
NoSets = Each (λ f. is_sabm f.content ≡ false)

abbrev MaySet : Step → Type 0
MaySet step = (step.link.phase ≡ Phase.SettingUp) ⊎ NoSets step.frames

none-answers : (due : Bool) (nr : ℕ) → NoSets (answers due nr)
none-answers true nr = (refl, tt)
none-answers false nr = tt

none-numbered : (ns nr : ℕ) (packets : List Octets) → NoSets (numbered ns nr packets)
none-numbered ns nr [] = tt
none-numbered ns nr (packet ∷ packets) = (refl, none-numbered (ns + 1) nr packets)

sets-reject : (role : Role) (l : Link) (report : Report) (p : Bool) → MaySet (reject_as role l report p)
sets-reject Dte l report p = inl refl
sets-reject Dce l report p = inr (refl, tt)

none-discarded : (rejecting due : Bool) (nr : ℕ) → NoSets (if rejecting then answers due nr else response (Rej nr) due ∷
    [])
none-discarded true due nr = none-answers due nr
none-discarded false due nr = (refl, tt)

sets-up : (l : Link) (content : Content) (r p : Bool) → UpRules l content r p MaySet
sets-up l content r p = record {
  still = λ _. inr tt;
  set_up = inl refl;
  disconnect = inr (refl, tt);
  take_disc = inr (refl, tt);
  reject = sets-reject l.role l _ _;
  supervisory = λ _ _ _ _ _ _. inr (none-answers (p && not r) l.expected);
  accept = λ _ _ _ _ _. inr (none-answers p _);
  discard = λ _ _ _ _. inr (none-discarded l.rejecting p l.expected);
}

sets-out : (l : Link) (content : Content) (p : Bool) → OutRules l content p MaySet
sets-out l content p = record {
  still = inr tt;
  refuse = λ _. inr (refl, tt);
  report = λ _. inr (refl, tt);
  set_up = inl refl;
  take_disc = inr (refl, tt);
  come_up = λ _ _ _. inr (refl, tt);
}

sets-frame : (l : Link) (frame : FrameValue) → MaySet (on_frame l frame)
sets-frame l frame =
    by_content frame.content l.role l frame.response frame.pf MaySet (λ _ _. inr (refl, tt))
    (λ _. by_up l.role l frame.content frame.response frame.pf MaySet (sets-up l frame.content frame.response frame.pf))
    (λ _. sets-out l frame.content frame.pf)

sets-relink : (l : Link) → MaySet (relink l)
sets-relink l = by_relink l MaySet (inr tt) (inl refl) (inr (refl, tt))

sets-t1 : (l : Link) → MaySet (on_t1 l)
sets-t1 l = by_t1 l MaySet (record {
  still = inr tt;
  relink = sets-relink l;
  poll = λ _. inr (refl, tt);
  refuse = λ _. inr (refl, tt);
  ask = λ setting. inl setting;
  report = λ _. inr (refl, tt);
})

sets-send_all : (l : Link) (packets : List Octets) → MaySet (send_all l packets)
sets-send_all l [] = inr (cond_by (λ b. NoSets (if b then response (Rr l.expected) false ∷ [] else [])) l.owed
    (λ _. (refl, tt)) (λ _. tt))
sets-send_all l (packet ∷ packets) = inr (none-numbered (l.oldest + l.next) l.expected (packet ∷ packets))

sets-settle : (l : Link) → MaySet (settle l)
sets-settle l = by_settle l MaySet (inr tt) (λ _ packets _. sets-send_all l packets)

-- ---- acts and sessions

abbrev Begun : List Sent → Type 0
Begun = Flight (λ s. is_sabm s.frame.content ≡ true → 1 ≤ s.act)

-- over the parts of a world
pub record Rises' (own session act : ℕ) (phase : Phase) (up : List Sent) : Type 0 where
  pub own_before : own ≤ session
  pub later : phase ≡ Phase.SettingUp → own < act
  pub begun : Begun up

abbrev pub Rises : World → Type 0
Rises w = Rises' w.own w.session w.act w.dte.phase w.up

-- an act in which the DTE is setting up is later than its session
act-later : (now before : Bool) (own act : ℕ) → own ≤ act → (before ≡ true → own < act) → now ≡ true →
    own < (if now && not before then act + 1 else act)
act-later true true own act le b e = b refl
act-later true false own act le b e = omega arith
act-later false before own act le b e = absurd (cc)

setting-is : (p : Phase) → is_setting_up p ≡ true → p ≡ Phase.SettingUp
setting-is Phase.SettingUp e = refl
setting-is Phase.Down e = absurd (cc)
setting-is Phase.Up e = absurd (cc)
setting-is Phase.Rejecting e = absurd (cc)

abbrev own_after : World → Step → ℕ
own_after w step = if is_up_note step.note then w.act else w.own

-- a DTE that does not come up keeps its session
same-own : (w : World) (step : Step) (note : Note) → step.note ≡ note → is_up_note note ≡ false →
    own_after w step ≡ w.own
same-own w step note e off = ap (λ b. if b then w.act else w.own) (ap is_up_note e ∙ off)

own-before : (w : World) (step : Step) → w.own ≤ w.session →
    (step.link.phase ≡ Phase.Up → own_after w step ≡ w.session) →
    Says w.dte.phase step → own_after w step ≤ w.session
own-before w step le now (begins note up none) = let e = now up in omega arith
own-before w step le now (continues was note up) = let e = now up in omega arith
own-before w step le now (ends was note off none) = let e = same-own w step Note.Down note refl in omega arith
own-before w step le now (stays_out was note off none) = let e = same-own w step Note.Nothing note refl in omega arith

own-later : (w : World) (step : Step) → w.own ≤ w.act → (w.dte.phase ≡ Phase.SettingUp → w.own < w.act) →
    Says w.dte.phase step → step.link.phase ≡ Phase.SettingUp → own_after w step < act_after w step
own-later w step le later (begins note up none) e = absurd (let x = sym up ∙ e in cc)
own-later w step le later (continues was note up) e = absurd (let x = sym up ∙ e in cc)
own-later w step le later (ends was note off none) e =
    let same = same-own w step Note.Down note refl in
    let less = act-later (is_setting_up step.link.phase) (is_setting_up w.dte.phase) w.own w.act le
    (λ s. later (setting-is w.dte.phase s)) (ap is_setting_up e) in omega arith
own-later w step le later (stays_out was note off none) e =
    let same = same-own w step Note.Nothing note refl in
    let less = act-later (is_setting_up step.link.phase) (is_setting_up w.dte.phase) w.own w.act le
    (λ s. later (setting-is w.dte.phase s)) (ap is_setting_up e) in omega arith

-- the SABMs that a step sends
begun-sent : (t : ℕ) (kept : List Bool) (step : Step) → (step.link.phase ≡ Phase.SettingUp → 1 ≤ t) → MaySet step →
    Begun (stamped t (kept_of kept step.frames))
begun-sent t kept step acts sets =
    flight-stamped (λ s. is_sabm s.frame.content ≡ true → 1 ≤ s.act) t (kept_of kept step.frames)
    (each-kept (λ f. is_sabm f.content ≡ true → 1 ≤ t) kept step.frames (elim sets [
      | inl e ↦ all (acts e) step.frames
      | inr none ↦ each-weaken (λ f. is_sabm f.content ≡ false) (λ f. is_sabm f.content ≡ true → 1 ≤ t)
          (λ f off is. absurd (cc)) step.frames none
    ]))
  where
    all : 1 ≤ t → (frames : List FrameValue) → Each (λ f. is_sabm f.content ≡ true → 1 ≤ t) frames
    all le [] = tt
    all le (f ∷ frames) = (λ _. le, all le frames)

-- the DTE
dte-rises : (w : World) (kept : List Bool) (step : Step) → w.session ≤ w.act → Says w.dte.phase step → MaySet step →
    Inv (dte_does w kept step) → Rises w → Rises (dte_does w kept step)
dte-rises w kept step le says sets i r =
    let before = r.own_before in
    let reached : w.own ≤ w.act = omega arith in
    let later : step.link.phase ≡ Phase.SettingUp → own_after w step < act_after w step =
    own-later w step reached r.later says in
    record {
      own_before = own-before w step before (λ up. (i.up_in up).own_is) says;
      later = later;
      begun = flight-append (λ s. is_sabm s.frame.content ≡ true → 1 ≤ s.act) w.up
          (stamped (act_after w step) (kept_of kept step.frames)) r.begun
          (begun-sent (act_after w step) kept step (λ e. let less = later e in omega arith) sets);
    }

dte-takes : (w : World) (kept : List Bool) (flow : List Sent) → w.session ≤ w.act → Inv (to_dte w kept flow) → Rises w →
    Rises (to_dte w kept flow)
dte-takes w kept [] le i r = r
dte-takes w kept (s ∷ rest) le i r =
    dte-rises (record w { down = rest }) kept (on_frame w.dte s.frame) le
    (says_on_frame w.dte s.frame.content w.dte.role s.frame.response s.frame.pf) (sets-frame w.dte s.frame) i r

-- the DCE
session-later : (b : Bool) (session act : ℕ) → session ≤ act → session ≤ (if b then act else session)
session-later true session act le = le
session-later false session act le = omega arith

dce-takes : (w : World) (kept : List Bool) (flow : List Sent) → w.up ≡ flow →
    Ups w.session w.act w.dte.bit w.session flow → Rises w → Rises (to_dce w kept flow)
dce-takes w kept [] e u r = r
dce-takes w kept (s ∷ rest) e u r =
    let begun : Begun (s ∷ rest) = subst Begun e r.begun in
    let more = session-later (is_sabm s.frame.content) w.session s.act u.0 in
    let before = r.own_before in
    record { own_before = omega arith; later = r.later; begun = begun.1 }

up-lost : (w : World) (flow : List Sent) → w.up ≡ flow → Rises w → Rises (record w { up = without_first flow })
up-lost w [] e r = record { own_before = r.own_before; later = r.later; begun = tt }
up-lost w (s ∷ rest) e r =
    let begun : Begun (s ∷ rest) = subst Begun e r.begun in
    record { own_before = r.own_before; later = r.later; begun = begun.1 }

rises-happens : (w : World) (event : Event) → Inv w → Rises w → Rises (happens w event)
rises-happens w (Offer Dte packet) i r = r
rises-happens w (Offer Dce packet) i r = r
rises-happens w (Deliver Dte kept) i r = dte-takes w kept w.down i.reached (happens-keeps w (Deliver Dte kept) i) r
rises-happens w (Deliver Dce kept) i r = dce-takes w kept w.up refl i.ups r
rises-happens w (Lose Dte) i r = r
rises-happens w (Lose Dce) i r = up-lost w w.up refl r
rises-happens w (Expire Dte kept) i r = dte-rises w kept (on_t1 w.dte) i.reached (says_on_t1 w.dte) (sets-t1 w.dte)
    (happens-keeps w (Expire Dte kept) i) r
rises-happens w (Expire Dce kept) i r = r
rises-happens w (Relink Dte kept) i r = dte-rises w kept (relink w.dte) i.reached (says_relink w.dte)
    (sets-relink w.dte)
    (happens-keeps w (Relink Dte kept) i) r
rises-happens w (Relink Dce kept) i r = r
rises-happens w (Settle Dte kept) i r = dte-rises w kept (settle w.dte) i.reached (says_settle w.dte)
    (sets-settle w.dte)
    (happens-keeps w (Settle Dte kept) i) r
rises-happens w (Settle Dce kept) i r = r
rises-happens w (Restart Dte) i r = record { own_before = r.own_before; later = λ e. absurd (cc); begun = tt }
rises-happens w (Restart Dce) i r = record { own_before = r.own_before; later = r.later; begun = tt }

rises-run : (events : List Event) (w : World) → Inv w → Rises w → Rises (run events w)
rises-run [] w i r = r
rises-run (event ∷ events) w i r = rises-run events (happens w event) (happens-keeps w event i)
    (rises-happens w event i r)

rises-opening : (standing : Bool) (dte dce : LinkParams) → Rises (opening standing dte dce)
rises-opening true dte dce = record { own_before = omega arith; later = λ e. absurd (cc); begun = tt }
rises-opening false dte dce = record { own_before = omega arith; later = λ e. absurd (cc); begun = tt }

-- ---- what is promised

-- each SABM is of an act, from the DCE's session to the DTE's last act
asks-in_order : (w : World) (lo : ℕ) (flow : List Sent) → w.session ≤ lo → Ups w.session w.act w.dte.bit lo flow →
    Begun flow → AsksInOrder w flow
asks-in_order w lo [] le u b = tt
asks-in_order w lo (s ∷ rest) le u b =
    let from : lo ≤ s.act = u.0 in
    let late : w.session ≤ s.act = omega arith in
    (λ is. (b.0 is, late, u.1), asks-in_order w s.act rest late u.3 b.1)

-- no session falls
same : (n : ℕ) → n ≤ n
same n = omega arith

never-falls : (w : World) (event : Event) → Inv w → Rises w →
    (w.own ≤ (happens w event).own) × (w.session ≤ (happens w event).session)
never-falls w (Offer Dte packet) i r = (same w.own, same w.session)
never-falls w (Offer Dce packet) i r = (same w.own, same w.session)
never-falls w (Deliver Dte kept) i r = taken w.down
  where
    reached : w.own ≤ w.act
    reached = let a = r.own_before in let b = i.reached in omega arith

    taken : (flow : List Sent) → (w.own ≤ (to_dte w kept flow).own) × (w.session ≤ (to_dte w kept flow).session)
    taken [] = (same w.own, same w.session)
    taken (s ∷ rest) = (session-later (is_up_note (on_frame w.dte s.frame).note) w.own w.act reached, same w.session)
never-falls w (Deliver Dce kept) i r = taken w.up i.ups
  where
    taken : (flow : List Sent) → Ups w.session w.act w.dte.bit w.session flow →
        (w.own ≤ (to_dce w kept flow).own) × (w.session ≤ (to_dce w kept flow).session)
    taken [] u = (same w.own, same w.session)
    taken (s ∷ rest) u = (same w.own, session-later (is_sabm s.frame.content) w.session s.act u.0)
never-falls w (Lose Dte) i r = (same w.own, same w.session)
never-falls w (Lose Dce) i r = (same w.own, same w.session)
never-falls w (Expire Dte kept) i r = (
  session-later (is_up_note (on_t1 w.dte).note) w.own w.act
      (let a = r.own_before in let b = i.reached in omega arith),
  same w.session,
)
never-falls w (Expire Dce kept) i r = (same w.own, same w.session)
never-falls w (Relink Dte kept) i r = (
  session-later (is_up_note (relink w.dte).note) w.own w.act
      (let a = r.own_before in let b = i.reached in omega arith),
  same w.session,
)
never-falls w (Relink Dce kept) i r = (same w.own, same w.session)
never-falls w (Settle Dte kept) i r = (
  session-later (is_up_note (settle w.dte).note) w.own w.act
      (let a = r.own_before in let b = i.reached in omega arith),
  same w.session,
)
never-falls w (Settle Dce kept) i r = (same w.own, same w.session)
never-falls w (Restart Dte) i r = (same w.own, same w.session)
never-falls w (Restart Dce) i r = (same w.own, same w.session)

rise : (w : World) → Inv w → Rises w → SessionsRise w
rise w i r = record {
  own = r.own_before;
  session = i.reached;
  up = λ up. let j = i.up_in up in (j.own_is ∙ sym j.act_is, sym j.act_is);
  setting_up = r.later;
  asked = asks-in_order w w.session w.up (same w.session) i.ups r.begun;
  never_falls = λ event. never-falls w event i r;
  at_dte = λ s rest e up. r.later (dte_begins w.dte s.frame i.dte_role i.dte_phase up).0;
  at_dce = λ s rest e. dce_begins w.dce s.frame i.dce_role i.dce_set;
}

pub sessions_rise : Always SessionsRise
sessions_rise standing dte dce few few' events =
    rise (run events (opening standing dte dce)) (always-inv standing dte dce few few' events)
    (rises-run events (opening standing dte dce) (opening-meets standing dte dce few few')
    (rises-opening standing dte dce))

pub reached_rise : (w : World) → Reached w → SessionsRise w
reached_rise w r =
    subst SessionsRise r.leads (sessions_rise r.standing r.dte r.dce r.dte_window r.dce_window r.events)

-- ---- the same of a line as a network keeps it

-- the session that the DTE begins by octets is later than the one before
pub later_at_dte : (w : World) (dte dce : Link) (up down : List Octets) (bytes : Octets) →
    StandsIn w dte dce up (bytes ∷ down) →
    (on_octets dte bytes).note ≡ Note.Up → w.own < w.act
later_at_dte w dte dce up down bytes s up_note = go w.down refl s.fit.down s.down_is
  where
    go : (flow : List Sent) → w.down ≡ flow → AllSpelt s.fit.info flow → octets_of Dce flow ≡ bytes ∷ down → w.own < w.act
    go [] is all e = absurd (cc)
    go (x ∷ flow) is all e =
        let head : spelling Dce x.frame ≡ bytes = cc in
        let step : on_frame w.dte x.frame ≡ on_octets dte bytes =
        sym (octets_taken s.fit.info w.dte Dce x.frame (reached_inv w s.reached).dte_role s.fit.dte all.0) ∙ ap (on_octets w.dte) head ∙ ap
        (λ l. on_octets l bytes) s.dte_is in
        (reached_rise w s.reached).at_dte x flow is (ap (λ (t : Step). t.note) step ∙ up_note)
