-- Every frame of two links has a spelling, so that the octets on the line are read as they were meant.
use Rattle.std.specs.Prelude.{map, ◌≡◌, ℕ, zero, suc, ◌+◌, ◌%◌, ◌<◌, ◌≤◌, Bool, true, false, not, ◌&&◌, List, [], ◌∷◌}
use Rattle.std.specs.Prelude.{◌++◌, ◌⊎◌, length, drop, if◌then◌else◌}
use Rattle.std.proofs.Common.{refl, sym, ap, ◌∙◌, subst, inl, inr, arith}
use Rattle.link_timers.specs.declared.role.Role.{Role}
use Rattle.link_timers.specs.declared.role.Role.TheVariants.{Dte, Dce}
use Rattle.link_timers.specs.Role.{other_of}
use Rattle.frame_codec.specs.Frame.{FrameValue, Content, Report, I, Rr, Rnr, Rej, Sabm, Disc, Dm, Ua, Frmr}
use Rattle.frame_codec.specs.Spelling.{spelling, HasSpelling, HasNumbers, control_of}
use Rattle.frame_codec.specs.Reading.{reading}
use Rattle.frame_codec.proofs.Grammar.{reading-spelling}
use Rattle.lapb.specs.declared.link.LinkParams.{LinkParams}
use Rattle.lapb.specs.declared.phase.Phase.{Phase}
use Rattle.lapb.specs.Machine.{Octets, Link, Step, Defect, UndefinedControl, InformationNotAllowed}
use Rattle.lapb.specs.Machine.{InformationTooLong, ahead, answers, response, command, numbered, still, sends, set_up}
use Rattle.lapb.specs.Machine.{disconnect, relink, take_disc, reject_as, report_of}
use Rattle.lapb.specs.Machine.{defect_report, acknowledged, on_supervisory, accept, discard}
use Rattle.lapb.specs.Machine.{on_frame, on_defect}
use Rattle.lapb.specs.Machine.{on_t1, poll, send_all, settle, offer}
use Rattle.lapb.specs.Machine.{can_offer, new, params_anew}
use Rattle.lapb.specs.World.{Sent, World, Event, Offer, Deliver, Lose, Expire, Relink, Settle, Restart}
use Rattle.lapb.specs.World.{stamped, kept_of, dte_does, dce_does, dce_enters, to_dte, to_dce, without_first, happens}
use Rattle.lapb.specs.World.{opening}
use Rattle.lapb.specs.Octets.{on_octets, on_reading}
use Rattle.lapb.specs.Fits.{AllShort, ReportFits, IsFit, AllSpelt, AreFit, IsShort, octets_of}
use Rattle.lapb.proofs.Cases.{Each, each-kept}
use Rattle.lapb.proofs.Rules.{Numbers, of_i, of_rr, of_rnr, of_rej, UpRules, OutRules, by_up, by_content, by_relink}
use Rattle.lapb.proofs.Rules.{by_t1, by_settle, by_defect}

-- a link of a line whose I frames carry at most so many octets
module _ (info : ℕ) where
  -- a step that leaves the link fit, and whose frames have spellings
  abbrev pub Fitting : Step → Type 0
  Fitting step = IsFit info step.link × Each (HasSpelling info) step.frames

  -- ---- frames

  spelt-ready : (nr : ℕ) (r p : Bool) → nr < 8 → HasSpelling info (record {
    content = Rr nr;
    response = r;
    pf = p;
  })
  spelt-ready nr r p low = record { goes_as = tt; numbers = low; fits = tt }

  spelt-reject : (nr : ℕ) (r p : Bool) → nr < 8 → HasSpelling info (record {
    content = Rej nr;
    response =
        r;
    pf = p;
  })
  spelt-reject nr r p low = record { goes_as = tt; numbers = low; fits = tt }

  spelt-dm : (p : Bool) → HasSpelling info (response Dm p)
  spelt-dm p = record { goes_as = refl; numbers = tt; fits = tt }

  spelt-ua : (p : Bool) → HasSpelling info (response Ua p)
  spelt-ua p = record { goes_as = refl; numbers = tt; fits = tt }

  spelt-sabm : (p : Bool) → HasSpelling info (command Sabm p)
  spelt-sabm p = record { goes_as = refl; numbers = tt; fits = tt }

  spelt-frmr : (report : Report) (p : Bool) → ReportFits report → HasSpelling info (response (Frmr report) p)
  spelt-frmr report p f = record { goes_as = refl; numbers = (f.control, f.vs, f.vr); fits = tt }

  spelt-answers : (due : Bool) (nr : ℕ) → nr < 8 → Each (HasSpelling info) (answers due nr)
  spelt-answers true nr low = (spelt-ready nr true true low, tt)
  spelt-answers false nr low = tt

  -- ---- packets

  short-drop : (n : ℕ) (packets : List Octets) → AllShort info packets → AllShort info (drop n packets)
  short-drop zero packets all = all
  short-drop (suc n) [] all = tt
  short-drop (suc n) (packet ∷ packets) all = short-drop n packets all.1

  short-append : (packets : List Octets) (packet : Octets) → AllShort info packets → length packet ≤ info → AllShort info (packets
      ++ packet ∷ [])
  short-append [] packet all short = (short, tt)
  short-append (p ∷ packets) packet all short = (all.0, short-append packets packet all.1 short)

  spelt-numbered : (start nr : ℕ) (packets : List Octets) → nr < 8 → AllShort info packets → Each (HasSpelling info)
      (numbered start nr packets)
  spelt-numbered start nr [] low all = tt
  spelt-numbered start nr (packet ∷ packets) low all = (
    record { goes_as = refl; numbers = (below start, low); fits = all.0 },
    spelt-numbered (start + 1) nr packets
        low all.1,
  )
    where
      below : (n : ℕ) → n % 8 < 8
      below n = omega arith

  -- ---- links

  fit-cleared : (l : Link) (phase : Phase) (bit heard polling repeats : Bool) (polls : ℕ) → IsFit info l → IsFit info (record l {
    phase = phase;
    oldest = 0;
    next = 0;
    top = 0;
    expected = 0;
    queue = [];
    heard = heard;
    owed = false;
    rejecting = false;
    busy = false;
    polling = polling;
    polls = polls;
    bit = bit;
    repeats = repeats;
  })
  fit-cleared l phase bit heard polling repeats polls f =
      record { info_is = f.info_is; oldest = omega arith; expected = omega arith; short = tt; report = f.report }

  fit-still : (l : Link) → IsFit info l → Fitting (still l)
  fit-still l f = (f, tt)

  fit-sends : (l : Link) (frame : FrameValue) → IsFit info l → HasSpelling info frame → Fitting (sends l frame)
  fit-sends l frame f s = (f, (s, tt))

  fit-set_up : (l : Link) → IsFit info l → Fitting (set_up l)
  fit-set_up l f = (fit-cleared l Phase.SettingUp (not l.bit) false false false 0 f, (spelt-sabm (not l.bit), tt))

  fit-disconnect : (l : Link) → IsFit info l → Fitting (disconnect l)
  fit-disconnect l f = (fit-cleared l Phase.Down l.bit false false true 0 f, (spelt-dm false, tt))

  pub fit_relink : (l : Link) → IsFit info l → Fitting (relink l)
  fit_relink l f = by_relink l Fitting (fit-still l f) (fit-set_up l f) (fit-disconnect l f)

  fit-reject : (role : Role) (l : Link) (report : Report) (p : Bool) → IsFit info l → ReportFits report → Fitting (reject_as
      role l report p)
  fit-reject Dte l report p f r = fit-set_up l f
  fit-reject Dce l report p f r =
      (record { info_is = f.info_is; oldest = omega arith; expected = omega arith; short = tt; report = r }, (spelt-frmr report p r, tt))

  fit-report : (l : Link) (control : ℕ) (a b c d e : Bool) → IsFit info l → control < 256 → ReportFits (report_of l control a
      b c d e)
  fit-report l control a b c d e f low = record {
    control = low;
    vs = below (l.oldest + l.next);
    vr = f.expected;
  }
    where
      below : (n : ℕ) → n % 8 < 8
      below n = omega arith

  control-below : (content : Content) (p : Bool) → HasNumbers content → control_of content p < 256
  control-below (I ns nr packet) true n = let a = n.0 in let b = n.1 in omega arith
  control-below (I ns nr packet) false n = let a = n.0 in let b = n.1 in omega arith
  control-below (Rr nr) true n = omega (arith, n)
  control-below (Rr nr) false n = omega (arith, n)
  control-below (Rnr nr) true n = omega (arith, n)
  control-below (Rnr nr) false n = omega (arith, n)
  control-below (Rej nr) true n = omega (arith, n)
  control-below (Rej nr) false n = omega (arith, n)
  control-below Sabm true n = omega arith
  control-below Sabm false n = omega arith
  control-below Disc true n = omega arith
  control-below Disc false n = omega arith
  control-below Dm true n = omega arith
  control-below Dm false n = omega arith
  control-below Ua true n = omega arith
  control-below Ua false n = omega arith
  control-below (Frmr report) true n = omega arith
  control-below (Frmr report) false n = omega arith

  -- ---- a link that is up

  fit-acknowledged : (l : Link) (nr : ℕ) → nr < 8 → IsFit info l → IsFit info (acknowledged l nr)
  fit-acknowledged l nr low f =
      record {
        info_is = f.info_is;
        oldest = low;
        expected = f.expected;
        short = short-drop (ahead l.oldest nr) l.queue f.short;
        report
            = f.report;
      }

  fit-supervisory : (l : Link) (busy back r p : Bool) → IsFit info l → Fitting (on_supervisory l busy back r p)
  fit-supervisory l busy back r p f = (
    record { info_is = f.info_is; oldest = f.oldest; expected = f.expected; short = f.short; report = f.report },
    spelt-answers (p && not
        r) l.expected f.expected,
  )

  fit-accept : (l : Link) (p : Bool) (packet : Octets) → IsFit info l → Fitting (accept l p packet)
  fit-accept l p packet f =
      let low : (l.expected + 1) % 8 < 8 = below (l.expected + 1) in (
        record { info_is = f.info_is; oldest = f.oldest; expected = low; short = f.short; report = f.report },
        spelt-answers p ((l.expected +
            1) % 8) low,
      )
    where
      below : (n : ℕ) → n % 8 < 8
      below n = omega arith

  spelt-discarded : (rejecting due : Bool) (nr : ℕ) → nr < 8 →
      Each (HasSpelling info) (if rejecting then answers due nr else response (Rej nr) due ∷ [])
  spelt-discarded true due nr low = spelt-answers due nr low
  spelt-discarded false due nr low = (spelt-reject nr true due low, tt)

  fit-discard : (l : Link) (p : Bool) → IsFit info l → Fitting (discard l p)
  fit-discard l p f = (
    record { info_is = f.info_is; oldest = f.oldest; expected = f.expected; short = f.short; report = f.report },
    spelt-discarded
        l.rejecting p l.expected f.expected,
  )

  low-number : {content : Content} {nr : ℕ} → Numbers content nr → HasNumbers content → nr < 8
  low-number of_i low = low.1
  low-number of_rr low = low
  low-number of_rnr low = low
  low-number of_rej low = low

  fit-take_disc : (l : Link) (p : Bool) → IsFit info l → Fitting (take_disc l p)
  fit-take_disc l p f = (fit-cleared l Phase.Down l.bit false false false 0 f, (spelt-ua p, tt))

  fit-up : (l : Link) (content : Content) (r p : Bool) → HasNumbers content → IsFit info l → UpRules l content r p Fitting
  fit-up l content r p n f =
      let acked : (nr : ℕ) → Numbers content nr → IsFit info (acknowledged l nr) =
      λ nr has. fit-acknowledged l nr (low-number has n) f in
      record {
        still = λ _. fit-still l f;
        set_up = fit-set_up l f;
        disconnect = fit-disconnect l f;
        take_disc = fit-take_disc l p f;
        reject = fit-reject l.role l (report_of l (control_of content p) r false false false true) (p && not r) f
            (fit-report l (control_of content p) r false false false true f (control-below content p n));
        supervisory = λ nr has _ busy back _. fit-supervisory (acknowledged l nr) busy back r p (acked nr has);
        accept = λ nr packet has _ _. fit-accept (acknowledged l nr) p packet (acked nr has);
        discard = λ nr has _ _. fit-discard (acknowledged l nr) p (acked nr has);
      }

  -- ---- any frame

  fit-out : (l : Link) (content : Content) (p : Bool) → IsFit info l → OutRules l content p Fitting
  fit-out l content p f = record {
    still = fit-still l f;
    refuse = λ bit. fit-sends l (response Dm bit) f (spelt-dm bit);
    report = λ bit. fit-sends l (response (Frmr l.report) bit) f (spelt-frmr l.report bit f.report);
    set_up = fit-set_up l f;
    take_disc = fit-take_disc l p f;
    come_up = λ _ _ _. (fit-cleared l Phase.Up l.bit true true false 1 f, (spelt-ready 0 false true (omega arith), tt));
  }

  pub fit_on_frame : (l : Link) (frame : FrameValue) → HasNumbers frame.content → IsFit info l → Fitting (on_frame l frame)
  fit_on_frame l frame n f =
      by_content frame.content l.role l frame.response frame.pf Fitting
      (λ _ _. (fit-cleared l Phase.Up l.bit false false false 0 f, (spelt-ua frame.pf, tt)))
      (λ _. by_up l.role l frame.content frame.response frame.pf Fitting (fit-up l frame.content frame.response frame.pf n
      f)) (λ _. fit-out l frame.content frame.pf f)

  -- ---- faulty frames, T1, the end of an event, offers

  defect-report-fits : (l : Link) (defect : Defect) (control : ℕ) (r : Bool) → IsFit info l → control < 256 → ReportFits
      (defect_report l defect control r)
  defect-report-fits l UndefinedControl control r f low = fit-report l control r true false false false f low
  defect-report-fits l InformationNotAllowed control r f low = fit-report l control r true true false false f low
  defect-report-fits l InformationTooLong control r f low = fit-report l control r false false true false f low

  pub fit_on_defect : (l : Link) (defect : Defect) (control : ℕ) (r : Bool) → control < 256 → IsFit info l → Fitting
      (on_defect l defect control r)
  fit_on_defect l defect control r low f =
      by_defect l defect control r Fitting (fit-still l f)
      (λ _ bit. fit-reject l.role l (defect_report l defect control r) bit f
      (defect-report-fits l defect control r f low))

  fit-poll : (l : Link) → IsFit info l → Fitting (poll l)
  fit-poll l f = (
    record { info_is = f.info_is; oldest = f.oldest; expected = f.expected; short = f.short; report = f.report },
    (
      spelt-ready l.expected
          false true f.expected,
      tt,
    ),
  )

  pub fit_on_t1 : (l : Link) → IsFit info l → Fitting (on_t1 l)
  fit_on_t1 l f = by_t1 l Fitting (record {
    still = fit-still l f;
    relink = fit_relink l f;
    poll = λ _. fit-poll l f;
    refuse = λ _. fit-sends l (response Dm false) f (spelt-dm false);
    ask = λ _. fit-sends l (command Sabm l.bit) f (spelt-sabm l.bit);
    report = λ _. fit-sends l (response (Frmr l.report) false) f (spelt-frmr l.report false f.report);
  })

  spelt-owed : (due : Bool) (nr : ℕ) → nr < 8 → Each (HasSpelling info) (if due then response (Rr nr)
      false ∷ [] else [])
  spelt-owed true nr low = (spelt-ready nr true false low, tt)
  spelt-owed false nr low = tt

  fit-send_all : (l : Link) (packets : List Octets) → AllShort info packets → IsFit info l → Fitting (send_all l packets)
  fit-send_all l [] short f = (
    record { info_is = f.info_is; oldest = f.oldest; expected = f.expected; short = f.short; report = f.report },
    spelt-owed l.owed
        l.expected f.expected,
  )
  fit-send_all l (packet ∷ packets) short f = (
    record { info_is = f.info_is; oldest = f.oldest; expected = f.expected; short = f.short; report = f.report },
    spelt-numbered (l.oldest + l.next) l.expected (packet ∷ packets) f.expected short,
  )

  short-sendable : (l : Link) (packets : List Octets) → packets ≡ [] ⊎ (packets ≡ drop l.next l.queue) → IsFit info l
      → AllShort info packets
  short-sendable l packets which f = elim which [
    | inl e ↦ subst (AllShort info) (sym e) tt
    | inr e ↦ subst (AllShort info) (sym e) (short-drop l.next l.queue f.short)
  ]

  pub fit_settle : (l : Link) → IsFit info l → Fitting (settle l)
  fit_settle l f =
      by_settle l Fitting (fit-still l f) (λ _ packets which. fit-send_all l packets (short-sendable l packets which f) f)

  pub fit_offer : (l : Link) (packet : Octets) → length packet ≤ info → IsFit info l → IsFit info (offer l packet)
  fit_offer l packet short f =
      record { info_is = f.info_is; oldest = f.oldest; expected = f.expected; short = longer (can_offer l); report = f.report }
    where
      longer : (b : Bool) → AllShort info (if b then l.queue ++ packet ∷ [] else l.queue)
      longer true = short-append l.queue packet f.short short
      longer false = f.short

  pub fit_new : (role : Role) (p : LinkParams) → p.info ≡ info → IsFit info (new role p)
  fit_new role p is = record {
    info_is = is;
    oldest = omega arith;
    expected = omega arith;
    short = tt;
    report = record { control = omega arith; vs = omega arith; vr = omega arith };
  }

-- ---- two links and their line

spelt-append : (info : ℕ) (flow new : List Sent) → AllSpelt info flow → AllSpelt info new → AllSpelt info (flow ++ new)
spelt-append info [] new all more = more
spelt-append info (s ∷ rest) new all more = (all.0, spelt-append info rest new all.1 more)

spelt-stamped : (info : ℕ) (act : ℕ) (frames : List FrameValue) → Each (HasSpelling info) frames → AllSpelt info (stamped act frames)
spelt-stamped info act [] all = tt
spelt-stamped info act (frame ∷ frames) all = (all.0, spelt-stamped info act frames all.1)

spelt-sent : (info : ℕ) (flow : List Sent) (act : ℕ) (kept : List Bool) (frames : List FrameValue) → AllSpelt info flow → Each
    (HasSpelling info) frames →
    AllSpelt info (flow ++ stamped act (kept_of kept frames))
spelt-sent info flow act kept frames all more =
    spelt-append info flow (stamped act (kept_of kept frames)) all (spelt-stamped info act (kept_of kept frames) (each-kept
    (HasSpelling info) kept frames more))

spelt-rest : (info : ℕ) (flow : List Sent) → AllSpelt info flow → AllSpelt info (without_first flow)
spelt-rest info [] all = tt
spelt-rest info (s ∷ rest) all = all.1

dte-fits : (w : World) (kept : List Bool) (step : Step) (f : AreFit w) → Fitting f.info step → AreFit (dte_does w kept
    step)
dte-fits w kept step f s = record {
  info = f.info;
  dte = s.0;
  dce = f.dce;
  up = spelt-sent f.info w.up _ kept step.frames f.up s.1;
  down = f.down;
}

dce-fits : (w : World) (kept : List Bool) (step : Step) (f : AreFit w) → Fitting f.info step → AreFit (dce_does w kept
    step)
dce-fits w kept step f s = record {
  info = f.info;
  dte = f.dte;
  dce = s.0;
  up = f.up;
  down = spelt-sent f.info w.down w.session kept step.frames f.down s.1;
}

to_dte-fits : (w : World) (kept : List Bool) (flow : List Sent) (f : AreFit w) → AllSpelt f.info flow → AreFit (to_dte w
    kept flow)
to_dte-fits w kept [] f all = f
to_dte-fits w kept (s ∷ rest) f all =
    dte-fits (record w { down = rest }) kept (on_frame w.dte s.frame)
    (record { info = f.info; dte = f.dte; dce = f.dce; up = f.up; down = all.1 })
    (fit_on_frame f.info w.dte s.frame all.0.numbers f.dte)

to_dce-fits : (w : World) (kept : List Bool) (flow : List Sent) (f : AreFit w) → AllSpelt f.info flow → AreFit (to_dce w
    kept flow)
to_dce-fits w kept [] f all = f
to_dce-fits w kept (s ∷ rest) f all =
    dce-fits (dce_enters (record w { up = rest }) s) kept (on_frame w.dce s.frame)
    (record { info = f.info; dte = f.dte; dce = f.dce; up = all.1; down = f.down })
    (fit_on_frame f.info w.dce s.frame all.0.numbers f.dce)

pub fit_opening : (standing : Bool) (dte dce : LinkParams) → dte.info ≡ dce.info → AreFit (opening standing dte dce)
fit_opening standing dte dce same = record {
  info = dce.info;
  dte = fit_new dce.info Dte (record dte { standing = standing }) same;
  dce = fit_new dce.info Dce (record dce { standing = standing }) refl;
  up = tt;
  down = tt;
}

-- every event keeps it, if packets that are offered fit
pub fit_happens : (w : World) (event : Event) (f : AreFit w) → IsShort f.info event → AreFit (happens w event)
fit_happens w (Offer Dte packet) f short =
    record { info = f.info; dte = fit_offer f.info w.dte packet short f.dte; dce = f.dce; up = f.up; down = f.down }
fit_happens w (Offer Dce packet) f short =
    record { info = f.info; dte = f.dte; dce = fit_offer f.info w.dce packet short f.dce; up = f.up; down = f.down }
fit_happens w (Deliver Dte kept) f short = to_dte-fits w kept w.down f f.down
fit_happens w (Deliver Dce kept) f short = to_dce-fits w kept w.up f f.up
fit_happens w (Lose Dte) f short =
    record { info = f.info; dte = f.dte; dce = f.dce; up = f.up; down = spelt-rest f.info w.down f.down }
fit_happens w (Lose Dce) f short =
    record { info = f.info; dte = f.dte; dce = f.dce; up = spelt-rest f.info w.up f.up; down = f.down }
fit_happens w (Expire Dte kept) f short = dte-fits w kept (on_t1 w.dte) f (fit_on_t1 f.info w.dte f.dte)
fit_happens w (Expire Dce kept) f short = dce-fits w kept (on_t1 w.dce) f (fit_on_t1 f.info w.dce f.dce)
fit_happens w (Relink Dte kept) f short = dte-fits w kept (relink w.dte) f (fit_relink f.info w.dte f.dte)
fit_happens w (Relink Dce kept) f short = dce-fits w kept (relink w.dce) f (fit_relink f.info w.dce f.dce)
fit_happens w (Settle Dte kept) f short = dte-fits w kept (settle w.dte) f (fit_settle f.info w.dte f.dte)
fit_happens w (Settle Dce kept) f short = dce-fits w kept (settle w.dce) f (fit_settle f.info w.dce f.dce)
fit_happens w (Restart Dte) f short = record {
  info = f.info;
  dte = fit_new f.info w.dte.role (params_anew w.dte) f.dte.info_is;
  dce = f.dce;
  up = tt;
  down = tt;
}
fit_happens w (Restart Dce) f short = record {
  info = f.info;
  dte = f.dte;
  dce = fit_new f.info w.dce.role (params_anew w.dce) f.dce.info_is;
  up = tt;
  down = tt;
}

-- ---- octets on the line

-- what is spelt at one end is taken as the frame that was meant at the other
pub octets_taken : (info : ℕ) (l : Link) (from : Role) (frame : FrameValue) → l.role ≡ other_of from → IsFit info l →
    HasSpelling info frame → on_octets l (spelling from frame) ≡ on_frame l frame
octets_taken info l from frame at fit spelt =
    (λ i. on_reading l (spelling from frame) (reading (at i) (fit.info_is i) (spelling from frame))) ∙
    ap (on_reading l (spelling from frame)) (reading-spelling from info frame spelt)

pub octets-sent : (from : Role) (flow : List Sent) (act : ℕ) (kept : List Bool) (frames : List FrameValue) →
    octets_of from (flow ++ stamped act (kept_of kept frames)) ≡ octets_of from flow ++ map (spelling from) (kept_of
    kept frames)
octets-sent from [] act kept frames = alone (kept_of kept frames)
  where
    alone : (fs : List FrameValue) → octets_of from (stamped act fs) ≡ map (spelling from) fs
    alone [] = refl
    alone (f ∷ fs) = ap (λ (xs : List Octets). spelling from f ∷ xs) (alone fs)
octets-sent from (s ∷ rest) act kept frames =
    ap (λ (xs : List Octets). spelling from s.frame ∷ xs) (octets-sent from rest act kept frames)
