-- The session goes on where no end had sent as many polls without an answer as it may.
use Rattle.std.specs.Prelude.{◌≡◌, ℕ, ◌+◌, ◌<◌, ◌≤◌, Bool, false, not, ◌&&◌, ◌⊎◌, List, [], ◌∷◌, ◌++◌, Option}
use Rattle.std.specs.Prelude.{Some, None, if◌then◌else◌, ◌==◌, nat_le}
use Rattle.std.proofs.Common.{refl, sym, ap, ◌∙◌, subst, inl, inr, arith, append-nil, append_assoc, leb-true}
use Rattle.link_timers.specs.declared.role.Role.TheVariants.{Dte, Dce}
use Rattle.frame_codec.specs.Frame.{FrameValue, Content}
use Rattle.frame_codec.specs.Frame.Content.{I, Rr, Rnr, Rej, Sabm, Disc, Dm, Ua, Frmr}
use Rattle.lapb.specs.declared.phase.Phase.{Phase}
use Rattle.lapb.specs.Machine.{Octets, Link, Step, still, disconnect, set_up, poll, send_all, sendable, settle}
use Rattle.lapb.specs.Machine.{on_frame, on_t1, runs}
use Rattle.lapb.specs.World.{Sent, World, Event, Offer, Deliver, Lose, Expire, Relink, Settle, Restart, stamped, logged}
use Rattle.lapb.specs.World.{emptied, is_setting_up, act_after, to_dte, to_dce, happens, run, opening, Always}
use Rattle.lapb.specs.World.{IsPrefix}
use Rattle.lapb.specs.Reach.{Reached}
use Rattle.lapb.proofs.Inv.{Inv, dte_in, dce_in, by_dte, by_dce}
use Rattle.lapb.proofs.Reach.{reached_inv, reached_happens, reached_up}
use Rattle.arrival_laws.specs.Arriving.{IsFlow, AllFlow, expiries, begins_anew, NoneAnew, Stays}
use Rattle.arrival_laws.proofs.Frames.{cond_by, sets, is_dm, NotAny, none-more, none-stamped, NoneOf}
use Rattle.arrival_laws.proofs.Took.{Took}
use Rattle.arrival_laws.proofs.Going.{none-sent, sent-phase}
use Rattle.arrival_laws.proofs.Heads.{dte_takes, dce_takes}
use Rattle.arrival_laws.proofs.Arrived.{reached_by}

-- ---- lists that grow

prefix-same : (xs : List Octets) → IsPrefix xs xs
prefix-same xs = ([], append-nil xs)

prefix-grows : (base xs more : List Octets) → IsPrefix base xs → IsPrefix base (xs ++ more)
prefix-grows base xs more p =
    (p.0 ++ more, sym (append_assoc base p.0 more) ∙ ap (λ (ys : List Octets). ys ++ more) p.1)

prefix-logged : (lists : ℕ → List Octets) (session : ℕ) (o : Option Octets) (at : ℕ) (base : List Octets) →
    IsPrefix base (lists at) → IsPrefix base (logged lists session o at)
prefix-logged lists session None at base p = p
prefix-logged lists session (Some packet) at base p =
    cond_by (λ b. IsPrefix base (if b then lists at ++ packet ∷ [] else lists at)) (at == session)
    (λ _. prefix-grows base (lists at) (packet ∷ []) p) (λ _. p)

-- ---- frames

none_anew : (content : Content) (r p : Bool) → begins_anew content ≡ false →
    (sets (record { content = content; response = r; pf = p }) ≡ false) ×
    (is_dm (record { content = content; response = r; pf = p }) ≡ false)
none_anew (I ns nr packet) r p e = (refl, refl)
none_anew (Rr nr) r p e = (refl, refl)
none_anew (Rnr nr) r p e = (refl, refl)
none_anew (Rej nr) r p e = (refl, refl)
none_anew Disc r p e = (refl, refl)
none_anew Ua r p e = (refl, refl)
none_anew (Frmr report) r p e = (refl, refl)
none_anew Sabm r p e = absurd (cc)
none_anew Dm r p e = absurd (cc)

no_sets : (flow : List Sent) → NoneAnew flow → NotAny sets flow
no_sets [] n = tt
no_sets (s ∷ rest) n = ((none_anew s.frame.content s.frame.response s.frame.pf n.0).0, no_sets rest n.1)

no_asks : (flow : List Sent) → NoneAnew flow → NotAny is_dm flow
no_asks [] n = tt
no_asks (s ∷ rest) n = ((none_anew s.frame.content s.frame.response s.frame.pf n.0).1, no_asks rest n.1)

-- ---- what goes on

-- over the parts of a world: the ends are up, and nothing on the way gives the session up
pub record Goes' (x y : Link) (ups downs : List Sent) : Type 0 where
  pub dte : x.phase ≡ Phase.Up
  pub dce : y.phase ≡ Phase.Up
  pub up : NotAny sets ups
  pub down : NotAny is_dm downs

-- a poll of an end is still to come, and may, or none is
abbrev pub Polls : ℕ → Link → Type 0
Polls n l = (n ≡ 0) ⊎ ((n ≤ 1) × (l.polls < l.n2))

pub record Steady (c : ℕ) (dte_base dce_base : List Octets) (w : World) (events : List Event) : Type 0 where
  pub reached : Reached w
  pub act : w.act ≡ c
  pub goes : Goes' w.dte w.dce w.up w.down
  pub dte_offered : IsPrefix dte_base (w.dte_offered c)
  pub dce_offered : IsPrefix dce_base (w.dce_offered c)
  pub dte_polls : Polls (expiries Dte events) w.dte
  pub dce_polls : Polls (expiries Dce events) w.dce

-- what a step of an end that stays up leaves
pub record Stands (l : Link) (step : Step) : Type 0 where
  pub phase : step.link.phase ≡ Phase.Up
  pub n2 : step.link.n2 ≡ l.n2
  pub polls : step.link.polls ≤ l.polls
  pub no_sabm : NoneOf sets step.frames
  pub no_dm : NoneOf is_dm step.frames

stands-took : (l : Link) (content : Content) (r p : Bool) (v : ℕ) (step : Step) → Took l content r p v step → Stands l step
stands-took l content r p v step k = record {
  phase = k.phase;
  n2 = k.n2;
  polls = k.polls;
  no_sabm = k.plain.no_sabm;
  no_dm = k.plain.no_dm;
}

stands-still : (l : Link) → l.phase ≡ Phase.Up → Stands l (still l)
stands-still l up = record { phase = up; n2 = refl; polls = omega arith; no_sabm = tt; no_dm = tt }

stands-ends : (l : Link) (packets : List Octets) → l.phase ≡ Phase.Up → Stands l (send_all l packets)
stands-ends l packets up = record {
  phase = sent-phase l packets ∙ up;
  n2 = n2 packets;
  polls = polls packets;
  no_sabm = none-sent sets (λ ns nr packet. refl) (λ nr. refl) l packets;
  no_dm = none-sent is_dm (λ ns nr packet. refl) (λ nr. refl) l packets;
}
  where
    n2 : (ps : List Octets) → (send_all l ps).link.n2 ≡ l.n2
    n2 [] = refl
    n2 (p ∷ ps) = refl

    polls : (ps : List Octets) → (send_all l ps).link.polls ≤ l.polls
    polls [] = omega arith
    polls (p ∷ ps) = omega arith

stands-settle : (w : World) → w.dte.role ≡ Dte → w.dte.phase ≡ Phase.Up → Stands w.dte (settle w.dte)
stands-settle w role =
    by_dte (λ v. v.dte.phase ≡ Phase.Up → Stands v.dte (settle v.dte)) w role (λ e. absurd (cc)) (λ e. absurd (cc))
    (λ e. stands-ends (dte_in w Phase.Up).dte (sendable (dte_in w Phase.Up).dte) refl) (λ e. absurd (cc))

stands-dce_settle : (w : World) → w.dce.role ≡ Dce → w.dce.phase ≡ Phase.Up → Stands w.dce (settle w.dce)
stands-dce_settle w role =
    by_dce (λ v. v.dce.phase ≡ Phase.Up → Stands v.dce (settle v.dce)) w role (λ e. absurd (cc)) (λ e. absurd (cc))
    (λ e. stands-ends (dce_in w Phase.Up).dce (sendable (dce_in w Phase.Up).dce) refl) (λ e. absurd (cc))

-- T1 polls where it may
pub record Polled (l : Link) (step : Step) : Type 0 where
  pub phase : step.link.phase ≡ Phase.Up
  pub no_sabm : NoneOf sets step.frames
  pub no_dm : NoneOf is_dm step.frames

polled : (l : Link) (step : Link → Step) → l.phase ≡ Phase.Up → l.polls < l.n2 →
    Polled l (if runs l then (if nat_le l.n2 l.polls then step l else poll l) else still l)
polled l step up few =
    cond_by (λ b. Polled l (if b then (if nat_le l.n2 l.polls then step l else poll l) else still l)) (runs l)
    (λ _. cond_by (λ b. Polled l (if b then step l else poll l)) (nat_le l.n2 l.polls)
    (λ e. absurd (let f = leb-true l.n2 l.polls e in omega arith))
    (λ _. record { phase = up; no_sabm = (refl, tt); no_dm = (refl, tt) }))
    (λ _. record { phase = up; no_sabm = tt; no_dm = tt })

polled-dte : (w : World) → w.dte.role ≡ Dte → w.dte.phase ≡ Phase.Up → w.dte.polls < w.dte.n2 → Polled w.dte (on_t1 w.dte)
polled-dte w role =
    by_dte (λ v. v.dte.phase ≡ Phase.Up → v.dte.polls < v.dte.n2 → Polled v.dte (on_t1 v.dte)) w role
    (λ e. absurd (cc)) (λ e. absurd (cc)) (λ _ few. polled (dte_in w Phase.Up).dte set_up refl few) (λ e. absurd (cc))

polled-dce : (w : World) → w.dce.role ≡ Dce → w.dce.phase ≡ Phase.Up → w.dce.polls < w.dce.n2 → Polled w.dce (on_t1 w.dce)
polled-dce w role =
    by_dce (λ v. v.dce.phase ≡ Phase.Up → v.dce.polls < v.dce.n2 → Polled v.dce (on_t1 v.dce)) w role
    (λ e. absurd (cc)) (λ e. absurd (cc)) (λ _ few. polled (dce_in w Phase.Up).dce disconnect refl few)
    (λ e. absurd (cc))

-- ---- each event

goes-dte : (x x' y : Link) (up down down' : List Sent) (t : ℕ) (frames : List FrameValue) → x'.phase ≡ Phase.Up →
    NoneOf sets frames → NotAny is_dm down' → Goes' x y up down → Goes' x' y (up ++ stamped t frames) down'
goes-dte x x' y up down down' t frames phase none none' g = record {
  dte = phase;
  dce = g.dce;
  up = none-more sets up (stamped t frames) g.up (none-stamped sets t frames none);
  down = none';
}

goes-dce : (x y y' : Link) (up up' down : List Sent) (t : ℕ) (frames : List FrameValue) → y'.phase ≡ Phase.Up →
    NoneOf is_dm frames → NotAny sets up' → Goes' x y up down → Goes' x y' up' (down ++ stamped t frames)
goes-dce x y y' up up' down t frames phase none none' g = record {
  dte = g.dte;
  dce = phase;
  up = none';
  down = none-more is_dm down (stamped t frames) g.down (none-stamped is_dm t frames none);
}

-- no act begins by a step after which the DTE is up
same_act : (w : World) (step : Step) → step.link.phase ≡ Phase.Up → act_after w step ≡ w.act
same_act w step up = ap (λ p. if is_setting_up p && not (is_setting_up w.dte.phase) then w.act + 1 else w.act) up

polls-less : (n : ℕ) (l : Link) (step : Step) → Stands l step → Polls n l → Polls n step.link
polls-less n l step s p = elim p [
  | inl e ↦ inl e
  | inr q ↦ inr (q.0, let few = q.1 in let a = s.polls in let b = s.n2 in omega arith)
]

-- an expiry is the last one
polls-once : (n : ℕ) (l l' : Link) → Polls (1 + n) l → Polls n l'
polls-once n l l' p = elim p [ inl e ↦ absurd (omega arith) | inr q ↦ inl (let few = q.0 in omega arith) ]

may_poll : (n : ℕ) (l : Link) → Polls (1 + n) l → l.polls < l.n2
may_poll n l p = elim p [ inl e ↦ absurd (omega arith) | inr q ↦ q.1 ]

module _ (c : ℕ) (base base' : List Octets) where
  deliver_dte : (w : World) (events : List Event) (flow : List Sent) → w.down ≡ flow → Steady c base base' w events →
      Reached (to_dte w [] flow) → Steady c base base' (to_dte w [] flow) events
  deliver_dte w events [] e s reached = s
  deliver_dte w events (x ∷ rest) e s reached =
      let i : Inv (record w { down = x ∷ rest }) = subst (λ (flow : List Sent). Inv (record w { down = flow })) e
      (reached_inv w s.reached) in
      let none : NotAny is_dm (x ∷ rest) = subst (λ (flow : List Sent). NotAny is_dm flow) e s.goes.down in
      let k = dte_takes w x.frame.response x.frame.pf x.act rest x.frame.content i s.goes.dte none.0 in
      let step : Step = on_frame w.dte x.frame in
      let stands = stands-took w.dte x.frame.content x.frame.response x.frame.pf _ step k.took in
      record {
        reached = reached;
        act = same_act (record w { down = rest }) step stands.phase ∙ s.act;
        goes = goes-dte w.dte step.link w.dce w.up w.down rest _ step.frames stands.phase stands.no_sabm none.1 s.goes;
        dte_offered = s.dte_offered;
        dce_offered = s.dce_offered;
        dte_polls = polls-less (expiries Dte events) w.dte step stands s.dte_polls;
        dce_polls = s.dce_polls;
      }

  deliver_dce : (w : World) (events : List Event) (flow : List Sent) → w.up ≡ flow → Steady c base base' w events →
      Reached (to_dce w [] flow) → Steady c base base' (to_dce w [] flow) events
  deliver_dce w events [] e s reached = s
  deliver_dce w events (x ∷ rest) e s reached =
      let i : Inv (record w { up = x ∷ rest }) = subst (λ (flow : List Sent). Inv (record w { up = flow })) e
      (reached_inv w s.reached) in
      let none : NotAny sets (x ∷ rest) = subst (λ (flow : List Sent). NotAny sets flow) e s.goes.up in
      let k = dce_takes w x.frame.response x.frame.pf x.act rest x.frame.content i s.goes.dce none.0 in
      let step : Step = on_frame w.dce x.frame in
      let stands = stands-took w.dce x.frame.content x.frame.response x.frame.pf _ step k.took in
      record {
        reached = reached;
        act = s.act;
        goes = goes-dce w.dte w.dce step.link w.up rest w.down _ step.frames stands.phase stands.no_dm none.1 s.goes;
        dte_offered = s.dte_offered;
        dce_offered = subst (λ b. IsPrefix base' (emptied b w.dce_offered x.act c)) (sym none.0) s.dce_offered;
        dte_polls = s.dte_polls;
        dce_polls = polls-less (expiries Dce events) w.dce step stands s.dce_polls;
      }

  goes_on : (w : World) (event : Event) (events : List Event) → IsFlow event → Steady c base base' w (event ∷ events) →
      Steady c base base' (happens w event) events
  goes_on w (Offer Dte packet) events l s = record {
    reached = reached_happens w (Offer Dte packet) s.reached;
    act = s.act;
    goes = record { dte = s.goes.dte; dce = s.goes.dce; up = s.goes.up; down = s.goes.down };
    dte_offered = prefix-logged w.dte_offered w.own _ c base s.dte_offered;
    dce_offered = s.dce_offered;
    dte_polls = elim s.dte_polls [ inl e ↦ inl (omega arith) | inr q ↦ inr (let f = q.0 in omega arith, q.1) ];
    dce_polls = elim s.dce_polls [ inl e ↦ inl (omega arith) | inr q ↦ inr (let f = q.0 in omega arith, q.1) ];
  }
  goes_on w (Offer Dce packet) events l s = record {
    reached = reached_happens w (Offer Dce packet) s.reached;
    act = s.act;
    goes = record { dte = s.goes.dte; dce = s.goes.dce; up = s.goes.up; down = s.goes.down };
    dte_offered = s.dte_offered;
    dce_offered = prefix-logged w.dce_offered w.session _ c base' s.dce_offered;
    dte_polls = elim s.dte_polls [ inl e ↦ inl (omega arith) | inr q ↦ inr (let f = q.0 in omega arith, q.1) ];
    dce_polls = elim s.dce_polls [ inl e ↦ inl (omega arith) | inr q ↦ inr (let f = q.0 in omega arith, q.1) ];
  }
  goes_on w (Deliver Dte kept) events l s =
      subst (λ (ks : List Bool). Steady c base base' (happens w (Deliver Dte ks)) events) (sym l)
      (deliver_dte w events w.down refl (none_expired s) (reached_happens w (Deliver Dte []) s.reached))
    where
      none_expired : Steady c base base' w (Deliver Dte kept ∷ events) → Steady c base base' w events
      none_expired s = record {
        reached = s.reached;
        act = s.act;
        goes = s.goes;
        dte_offered = s.dte_offered;
        dce_offered = s.dce_offered;
        dte_polls = elim s.dte_polls [ inl e ↦ inl (omega arith) | inr q ↦ inr (let f = q.0 in omega arith, q.1) ];
        dce_polls = elim s.dce_polls [ inl e ↦ inl (omega arith) | inr q ↦ inr (let f = q.0 in omega arith, q.1) ];
      }
  goes_on w (Deliver Dce kept) events l s =
      subst (λ (ks : List Bool). Steady c base base' (happens w (Deliver Dce ks)) events) (sym l)
      (deliver_dce w events w.up refl (none_expired s) (reached_happens w (Deliver Dce []) s.reached))
    where
      none_expired : Steady c base base' w (Deliver Dce kept ∷ events) → Steady c base base' w events
      none_expired s = record {
        reached = s.reached;
        act = s.act;
        goes = s.goes;
        dte_offered = s.dte_offered;
        dce_offered = s.dce_offered;
        dte_polls = elim s.dte_polls [ inl e ↦ inl (omega arith) | inr q ↦ inr (let f = q.0 in omega arith, q.1) ];
        dce_polls = elim s.dce_polls [ inl e ↦ inl (omega arith) | inr q ↦ inr (let f = q.0 in omega arith, q.1) ];
      }
  goes_on w (Expire Dte kept) events l s =
      subst (λ (ks : List Bool). Steady c base base' (happens w (Expire Dte ks)) events) (sym l) (
      let step : Step = on_t1 w.dte in
      let k = polled-dte w (reached_inv w s.reached).dte_role s.goes.dte (may_poll (expiries Dte events) w.dte s.dte_polls) in
      record {
        reached = reached_happens w (Expire Dte []) s.reached;
        act = same_act w step k.phase ∙ s.act;
        goes = goes-dte w.dte step.link w.dce w.up w.down w.down _ step.frames k.phase k.no_sabm s.goes.down s.goes;
        dte_offered = s.dte_offered;
        dce_offered = s.dce_offered;
        dte_polls = polls-once (expiries Dte events) w.dte step.link s.dte_polls;
        dce_polls = elim s.dce_polls [ inl e ↦ inl (omega arith) | inr q ↦ inr (let f = q.0 in omega arith, q.1) ];
      })
  goes_on w (Expire Dce kept) events l s =
      subst (λ (ks : List Bool). Steady c base base' (happens w (Expire Dce ks)) events) (sym l) (
      let step : Step = on_t1 w.dce in
      let k = polled-dce w (reached_inv w s.reached).dce_role s.goes.dce (may_poll (expiries Dce events) w.dce s.dce_polls) in
      record {
        reached = reached_happens w (Expire Dce []) s.reached;
        act = s.act;
        goes = goes-dce w.dte w.dce step.link w.up w.up w.down _ step.frames k.phase k.no_dm s.goes.up s.goes;
        dte_offered = s.dte_offered;
        dce_offered = s.dce_offered;
        dte_polls = elim s.dte_polls [ inl e ↦ inl (omega arith) | inr q ↦ inr (let f = q.0 in omega arith, q.1) ];
        dce_polls = polls-once (expiries Dce events) w.dce step.link s.dce_polls;
      })
  goes_on w (Settle Dte kept) events l s =
      subst (λ (ks : List Bool). Steady c base base' (happens w (Settle Dte ks)) events) (sym l) (
      let step : Step = settle w.dte in
      let k = stands-settle w (reached_inv w s.reached).dte_role s.goes.dte in
      record {
        reached = reached_happens w (Settle Dte []) s.reached;
        act = same_act w step k.phase ∙ s.act;
        goes = goes-dte w.dte step.link w.dce w.up w.down w.down _ step.frames k.phase k.no_sabm s.goes.down s.goes;
        dte_offered = s.dte_offered;
        dce_offered = s.dce_offered;
        dte_polls = polls-less (expiries Dte events) w.dte step k (elim s.dte_polls [
          | inl e ↦ inl (omega arith)
          | inr q ↦ inr (let f = q.0 in omega arith, q.1)
        ]);
        dce_polls = elim s.dce_polls [ inl e ↦ inl (omega arith) | inr q ↦ inr (let f = q.0 in omega arith, q.1) ];
      })
  goes_on w (Settle Dce kept) events l s =
      subst (λ (ks : List Bool). Steady c base base' (happens w (Settle Dce ks)) events) (sym l) (
      let step : Step = settle w.dce in
      let k = stands-dce_settle w (reached_inv w s.reached).dce_role s.goes.dce in
      record {
        reached = reached_happens w (Settle Dce []) s.reached;
        act = s.act;
        goes = goes-dce w.dte w.dce step.link w.up w.up w.down _ step.frames k.phase k.no_dm s.goes.up s.goes;
        dte_offered = s.dte_offered;
        dce_offered = s.dce_offered;
        dte_polls = elim s.dte_polls [ inl e ↦ inl (omega arith) | inr q ↦ inr (let f = q.0 in omega arith, q.1) ];
        dce_polls = polls-less (expiries Dce events) w.dce step k (elim s.dce_polls [
          | inl e ↦ inl (omega arith)
          | inr q ↦ inr (let f = q.0 in omega arith, q.1)
        ]);
      })
  goes_on w (Lose to) events l s = absurd l
  goes_on w (Relink at kept) events l s = absurd l
  goes_on w (Restart at) events l s = absurd l

  run-steady : (events : List Event) (w : World) → AllFlow events → Steady c base base' w events →
      Steady c base base' (run events w) []
  run-steady [] w l s = s
  run-steady (event ∷ events) w l s = run-steady events (happens w event) l.1 (goes_on w event events l.0 s)

pub stays : Always Stays
stays standing dte dce few few' events may es flow once once' =
    let w : World = run events (opening standing dte dce) in
    let s = run-steady w.act (w.dte_offered w.act) (w.dce_offered w.act) es w flow (record {
      reached = reached_by standing dte dce few few' events;
      act = refl;
      goes = record {
        dte = may.are_up.dte;
        dce = may.are_up.dce;
        up = no_sets w.up may.up;
        down = no_asks w.down may.down;
      };
      dte_offered = prefix-same (w.dte_offered w.act);
      dce_offered = prefix-same (w.dce_offered w.act);
      dte_polls = inr (once, may.dte);
      dce_polls = inr (once', may.dce);
    }) in
    let up = reached_up (run es w) s.reached s.goes.dte in
    record {
      act = s.act;
      are_up = record { dte = s.goes.dte; dce = s.goes.dce; own = up.0; session = up.1 };
      dte_offered = s.dte_offered;
      dce_offered = s.dce_offered;
    }
