-- The law of the link: it holds as the line is made, each event keeps it, and it says what is promised.
use Rattle.std.specs.Prelude.{◌≡◌, ℕ, ◌+◌, ◌<◌, ◌≤◌, Bool, true, false, not, ◌&&◌, List, [], ◌∷◌, ◌++◌, if◌then◌else◌}
use Rattle.std.specs.Prelude.{◌==◌}
use Rattle.std.proofs.Common.{refl, sym, ap, ◌∙◌, subst, inl, inr, arith, eqb-true}
use Rattle.std.proofs.lemmas.Bool.{eqb-false}
use Rattle.link_timers.specs.declared.role.Role.TheVariants.{Dte, Dce}
use Rattle.frame_codec.specs.Frame.{Content}
use Rattle.frame_codec.specs.Frame.Content.{I, Rr, Rnr, Rej, Sabm, Disc, Dm, Ua, Frmr}
use Rattle.lapb.specs.declared.phase.Phase.{Phase}
use Rattle.lapb.specs.declared.note.Note.{Note}
use Rattle.lapb.specs.Machine.{Octets, Link, send_all, sendable, settle, settle_in, on_frame, still, first_phase}
use Rattle.lapb.specs.Machine.{is_same, come_up}
use Rattle.lapb.specs.declared.link.LinkParams.{LinkParams}
use Rattle.lapb.specs.World.{Sent, World, Event, Offer, Deliver, Lose, Expire, Relink, Settle, Restart}
use Rattle.lapb.specs.World.{dte_does, to_dte, to_dce, act_after, is_setting_up, is_sabm, is_ua, happens, run}
use Rattle.lapb.specs.World.{opening, Always, InOrder, IsQuiet, AllQuiet, AreUp, answer_to, ComesUp, BeginsFresh}
use Rattle.lapb.proofs.Cases.{cond_by, prefix-refl}
use Rattle.lapb.proofs.Flights.{OfDown, ups-no_reject, downs-no_reject}
use Rattle.lapb.proofs.Inv.{IsFresh, Inv, dte_in, by_dte, by_dce}
use Rattle.lapb.proofs.Events.{happens-keeps, run-keeps, same_is}
use Rattle.lapb.proofs.Notes.{dte_begins}

-- ---- a line as it is made

first-not_rejecting : (standing : Bool) → first_phase standing ≡ Phase.Rejecting → ⊥
first-not_rejecting true e = cc
first-not_rejecting false e = cc

first-not_setting : (standing : Bool) → first_phase standing ≡ Phase.SettingUp → ⊥
first-not_setting true e = cc
first-not_setting false e = cc

first-heard : (standing : Bool) → first_phase standing ≡ Phase.Up → standing ≡ false → ⊥
first-heard true e f = cc
first-heard false e f = cc

pub opening-meets : (standing : Bool) (dte dce : LinkParams) → dte.k ≤ 7 → dce.k ≤ 7 → Inv (opening standing dte dce)
opening-meets standing dte dce few few' = record {
  dte_role = refl;
  dce_role = refl;
  dte_k = few;
  dce_k = few';
  dte_phase = first-not_rejecting standing;
  dce_phase = first-not_rejecting standing;
  dce_set = first-not_setting standing;
  out = record {
    a = 0;
    m = 0;
    a_le = omega arith;
    acc_le = omega arith;
    m_le = omega arith;
    near = omega arith;
    in_order = prefix-refl [];
    carried = tt;
    told = tt;
    sends = λ _. record { oldest = refl; queue_is = refl; next_le = omega arith; top_is = refl; few = omega arith };
    takes = λ _. refl;
  };
  back = record {
    a = 0;
    m = 0;
    a_le = omega arith;
    acc_le = omega arith;
    m_le = omega arith;
    near = omega arith;
    in_order = prefix-refl [];
    carried = tt;
    told = tt;
    sends = λ _. record { oldest = refl; queue_is = refl; next_le = omega arith; top_is = refl; few = omega arith };
    takes = λ _. refl;
  };
  ups = tt;
  downs = tt;
  up_in = λ _. record { act_is = refl; own_is = refl; of_it = tt };
  down_out = λ _. (tt, tt);
  setting = λ e. absurd (first-not_setting standing e);
  again = inl tt;
  mute = λ e f. absurd (first-heard standing e f);
  lists = record {
    later = λ t less. (refl, refl, refl, refl);
    at_dce = λ t. prefix-refl [];
    at_dte = λ t. prefix-refl
        [];
  };
  reached = omega arith;
}

-- every state of a line meets it
pub always-inv : Always Inv
always-inv standing dte dce few few' events = run-keeps events (opening standing dte dce) (opening-meets standing dte
    dce few few')

-- ---- in order

pub inv-in_order : (w : World) → Inv w → InOrder w
inv-in_order w i = record {
  at_dce = i.lists.at_dce;
  at_dte = i.lists.at_dte;
  none_up = ups-no_reject w.session w.act w.dte.bit w.session w.up i.ups;
  none_down = downs-no_reject w.session w.act w.dte.bit 0 w.down i.downs;
}

pub in_order : Always InOrder
in_order standing dte dce few few' events =
    inv-in_order (run events (opening standing dte dce)) (always-inv standing dte dce few few' events)

-- ---- a session begins fresh

fresh_at_dce : (w : World) (s : Sent) (rest : List Sent) → Inv (record w { up = s ∷ rest }) → is_sabm
    s.frame.content ≡ true →
    (w.dte_accepted s.act ≡ []) × (w.dce_accepted s.act ≡ [])
fresh_at_dce w s rest i is =
    cond_by (λ _. (w.dte_accepted s.act ≡ []) × (w.dce_accepted s.act ≡ [])) (s.act == w.session)
    (λ e. let same = eqb-true s.act w.session e in
    let f : IsFresh w = elim i.again [ inl off ↦ absurd (let x = off.0 same in cc) | inr f ↦ f ] in
    (ap w.dte_accepted same ∙ f.dte_none, ap w.dce_accepted same ∙ f.dce_none))
    (λ e. let other = eqb-false s.act w.session e in
    let l = i.lists.later s.act (less s.act w.session i.ups.0 other) in (l.1, l.3))
  where
    less : (t c : ℕ) → c ≤ t → (t ≡ c → ⊥) → c < t
    less t c le other = grind arith

-- a bit is not also the other one
not_other : (a b : Bool) → a ≡ b → a ≡ not b → ⊥
not_other true true e f = absurd (cc)
not_other true false e f = absurd (cc)
not_other false true e f = absurd (cc)
not_other false false e f = absurd (cc)

-- a UA with the bit of the DTE's act is of that act
ua-act : (n : ℕ) (p : Bool) (t : ℕ) (pf : Bool) → OfDown n p t Ua pf → pf ≡ p → t ≡ n
ua-act n p t pf o same = elim o [ inl e ↦ e.0 | inr e ↦ absurd (not_other pf p same e.1) ]

-- the UA that brings the DTE up is of its act
act_at_dte : (w : World) (s : Sent) (rest : List Sent) → Inv (record w { down = s ∷ rest }) → (on_frame w.dte
    s.frame).note ≡ Note.Up → s.act ≡ w.act
act_at_dte w s rest i up =
    let b = dte_begins w.dte s.frame i.dte_role i.dte_phase up in
    let head : OfDown w.act w.dte.bit s.act Ua s.frame.pf =
    subst (λ (x : Content). OfDown w.act w.dte.bit s.act x s.frame.pf) b.1 i.downs.2 in
    ua-act w.act w.dte.bit s.act s.frame.pf head (same_is s.frame.pf w.dte.bit b.2)

fresh_at_dte : (w : World) (s : Sent) (rest : List Sent) → Inv (record w { down = s ∷ rest }) → (on_frame w.dte
    s.frame).note ≡ Note.Up →
    (w.dte_accepted w.act ≡ []) × (w.dce_accepted w.act ≡ []) × (w.dte_offered w.act ≡ [])
fresh_at_dte w s rest i up =
    let b = dte_begins w.dte s.frame i.dte_role i.dte_phase up in
    let of_act = act_at_dte w s rest i up in
    let le : s.act ≤ w.session = i.downs.1 in
    let reached : w.session ≤ w.act = i.reached in
    let act_is : w.act ≡ w.session = omega arith in
    let j = i.setting b.0 act_is in (
      ap w.dte_accepted act_is ∙ j.fresh.dte_none,
      ap w.dce_accepted act_is ∙ j.fresh.dce_none,
      ap w.dte_offered act_is
          ∙ j.none_offered,
    )

pub inv-begins_fresh : (w : World) → Inv w → BeginsFresh w
inv-begins_fresh w i = record {
  dce = λ s rest e is. fresh_at_dce w s rest (subst (λ (flow : List Sent). Inv (record w { up = flow })) e i) is;
  of_act = λ s rest e up. act_at_dte w s rest (subst (λ (flow : List Sent). Inv (record w { down = flow })) e i) up;
  dte = λ s rest e up. fresh_at_dte w s rest (subst (λ (flow : List Sent). Inv (record w { down = flow })) e i) up;
}

pub begins_fresh : Always BeginsFresh
begins_fresh standing dte dce few few' events =
    inv-begins_fresh (run events (opening standing dte dce)) (always-inv standing dte dce few few' events)

-- ---- both come up

-- both ends are in act n, and the DCE is up
record Pending (n : ℕ) (w : World) : Type 0 where
  inv : Inv w
  act_is : w.act ≡ n
  session_is : w.session ≡ n
  dce_up : w.dce.phase ≡ Phase.Up

-- the DTE's settle begins no act
settle-act : (w : World) → w.dte.role ≡ Dte → act_after w (settle w.dte) ≡ w.act
settle-act w role =
    by_dte (λ v. act_after v (settle v.dte) ≡ v.act) w role refl refl (sent_phase (dte_in w Phase.Up) refl (sendable
    (dte_in w Phase.Up).dte)) refl
  where
    sent_phase : (v : World) → v.dte.phase ≡ Phase.Up → (packets : List Octets) → act_after v (send_all v.dte packets)
        ≡ v.act
    sent_phase v up [] = ap (λ p. if is_setting_up p && not (is_setting_up v.dte.phase) then v.act + 1 else v.act) up
    sent_phase v up (packet ∷ packets) = ap (λ p. if is_setting_up p && not (is_setting_up v.dte.phase) then v.act + 1
        else v.act) up

-- a link that is up stays so at the end of an event
settle-phase : (l : Link) → l.phase ≡ Phase.Up → (settle l).link.phase ≡ Phase.Up
settle-phase l up = subst (λ p. (settle_in p l).link.phase ≡ Phase.Up) (sym up) (sent_phase (sendable l) ∙ up)
  where
    sent_phase : (packets : List Octets) → (send_all l packets).link.phase ≡ l.phase
    sent_phase [] = refl
    sent_phase (packet ∷ packets) = refl

pending-quiet : (n : ℕ) (w : World) (event : Event) → IsQuiet event → Pending n w → Pending n (happens w event)
pending-quiet n w (Offer Dte packet) q p = record {
  inv = happens-keeps w (Offer Dte packet) p.inv;
  act_is = p.act_is;
  session_is = p.session_is;
  dce_up = p.dce_up;
}
pending-quiet n w (Offer Dce packet) q p = record {
  inv = happens-keeps w (Offer Dce packet) p.inv;
  act_is = p.act_is;
  session_is = p.session_is;
  dce_up = p.dce_up;
}
pending-quiet n w (Settle Dte kept) q p = record {
  inv = happens-keeps w (Settle Dte kept) p.inv;
  act_is = settle-act w p.inv.dte_role ∙ p.act_is;
  session_is = p.session_is;
  dce_up = p.dce_up;
}
pending-quiet n w (Settle Dce kept) q p = record {
  inv = happens-keeps w (Settle Dce kept) p.inv;
  act_is = p.act_is;
  session_is = p.session_is;
  dce_up = settle-phase w.dce p.dce_up;
}
pending-quiet n w (Lose Dte) q p = record {
  inv = happens-keeps w (Lose Dte) p.inv;
  act_is = p.act_is;
  session_is = p.session_is;
  dce_up = p.dce_up;
}
pending-quiet n w (Lose Dce) q p = record {
  inv = happens-keeps w (Lose Dce) p.inv;
  act_is = p.act_is;
  session_is = p.session_is;
  dce_up = p.dce_up;
}
pending-quiet n w (Deliver to kept) q p = absurd q
pending-quiet n w (Expire at kept) q p = absurd q
pending-quiet n w (Relink at kept) q p = absurd q
pending-quiet n w (Restart at) q p = absurd q

pending-run : (n : ℕ) (events : List Event) (w : World) → AllQuiet events → Pending n w → Pending n (run events w)
pending-run n [] w q p = p
pending-run n (event ∷ events) w q p = pending-run n events (happens w event) q.1 (pending-quiet n w event q.0 p)

ua_is : (x : Content) → is_ua x ≡ true → x ≡ Ua
ua_is Ua e = refl
ua_is Sabm e = absurd (cc)
ua_is (I ns nr packet) e = absurd (cc)
ua_is (Rr nr) e = absurd (cc)
ua_is (Rnr nr) e = absurd (cc)
ua_is (Rej nr) e = absurd (cc)
ua_is Disc e = absurd (cc)
ua_is Dm e = absurd (cc)
ua_is (Frmr report) e = absurd (cc)

-- the DTE takes the UA, or is up already
are_up : (n : ℕ) (s : Sent) (rest : List Sent) (w : World) (kept : List Bool) → s.frame.content ≡ Ua →
    s.act ≡ n → w.down ≡ s ∷ rest → Pending n w → AreUp (happens w (Deliver Dte kept))
are_up n s rest w kept is at front p =
    subst (λ (flow : List Sent). AreUp (to_dte w kept flow)) (sym front)
    (taken (subst (λ (flow : List Sent). Inv (record w { down = flow })) front p.inv))
  where
    -- by the phase of the DTE, the UA's content written out
    at_phase : (v : World) → v.dte.role ≡ Dte → Inv (record v { down = s ∷ rest }) → v.dce.phase ≡ Phase.Up → v.act ≡ n
        → v.session ≡ n →
        AreUp (dte_does (record v { down = rest }) kept (on_frame v.dte (record {
          content = Ua;
          response =
              s.frame.response;
          pf = s.frame.pf;
        })))
    at_phase v role =
        by_dte (λ u. Inv (record u { down = s ∷ rest }) → u.dce.phase ≡ Phase.Up → u.act ≡ n → u.session ≡ n →
        AreUp (dte_does (record u { down = rest }) kept (on_frame u.dte (record {
          content = Ua;
          response =
              s.frame.response;
          pf = s.frame.pf;
        }))))
        v role
        (λ i up act session. absurd (let none = (i.down_out refl).1.0 in let x : true ≡ false = ap is_ua
        (sym is) ∙ none in cc))
        (λ i up act session.
        let head : OfDown v.act v.dte.bit s.act Ua s.frame.pf =
        subst (λ (x : Content). OfDown v.act v.dte.bit s.act x s.frame.pf) is i.downs.2 in
        let bit : s.frame.pf ≡ v.dte.bit = elim head [
          | inl e ↦ e.1
          | inr e ↦ absurd (let less = e.0 in omega arith)
        ] in
        subst (λ b. AreUp (dte_does (record (dte_in v Phase.SettingUp) { down = rest }) kept
        (if b then come_up (dte_in v Phase.SettingUp).dte else still (dte_in v Phase.SettingUp).dte)))
        (sym (same_bits s.frame.pf v.dte.bit bit))
        (record { dte = refl; dce = up; own = refl; session = session ∙ sym act }))
        (λ i up act session.
        let j = i.up_in refl in
        record { dte = refl; dce = up; own = j.own_is ∙ sym j.act_is; session = session ∙ sym act })
        (λ i up act session. absurd (i.dte_phase refl))
      where
        same_bits : (a b : Bool) → a ≡ b → is_same a b ≡ true
        same_bits true true e = refl
        same_bits true false e = absurd (cc)
        same_bits false true e = absurd (cc)
        same_bits false false e = refl

    taken : Inv (record w { down = s ∷ rest }) → AreUp (to_dte w kept (s ∷ rest))
    taken i =
        subst (λ (x : Content). AreUp (dte_does (record w { down = rest }) kept
        (on_frame w.dte (record { content = x; response = s.frame.response; pf = s.frame.pf })))) (sym is)
        (at_phase w p.inv.dte_role i p.dce_up p.act_is p.session_is)

-- the DCE takes the SABM
pending-first : (w : World) (s : Sent) (rest : List Sent) (sent : List Bool) → Inv (record w { up = s ∷ rest }) →
    is_sabm s.frame.content ≡ true → s.act ≡ w.act →
    Pending w.act (to_dce (record w { up = s ∷ rest }) sent (s ∷ rest))
pending-first w s rest sent i is at = by_content s.frame.content s.frame.response s.frame.pf s.act at is i
  where
    as_sent : (content : Content) (r p : Bool) (t : ℕ) → Sent
    as_sent content r p t = record { frame = record { content = content; response = r; pf = p }; act = t }

    by_content : (content : Content) (r p : Bool) (t : ℕ) → t ≡ w.act → is_sabm content ≡ true →
        Inv (record w { up = as_sent content r p t ∷ rest }) →
        Pending w.act (to_dce (record w { up = as_sent content r p t ∷ rest }) sent (as_sent content r p t ∷ rest))
    by_content Sabm r p t at is i =
        by_dce (λ v. Inv (record v { up = as_sent Sabm r p t ∷ rest }) → t ≡ v.act →
        Pending v.act (to_dce (record v { up = as_sent Sabm r p t ∷ rest }) sent (as_sent Sabm r p t ∷ rest)))
        w i.dce_role
        (λ j e. record { inv = happens-keeps _ (Deliver Dce sent) j; act_is = refl; session_is = e; dce_up = refl })
        (λ j e. record { inv = happens-keeps _ (Deliver Dce sent) j; act_is = refl; session_is = e; dce_up = refl })
        (λ j e. record { inv = happens-keeps _ (Deliver Dce sent) j; act_is = refl; session_is = e; dce_up = refl })
        (λ j e. record { inv = happens-keeps _ (Deliver Dce sent) j; act_is = refl; session_is = e; dce_up = refl })
        i at
    by_content (I ns nr packet) r p t at is i = absurd (cc)
    by_content (Rr nr) r p t at is i = absurd (cc)
    by_content (Rnr nr) r p t at is i = absurd (cc)
    by_content (Rej nr) r p t at is i = absurd (cc)
    by_content Disc r p t at is i = absurd (cc)
    by_content Dm r p t at is i = absurd (cc)
    by_content Ua r p t at is i = absurd (cc)
    by_content (Frmr report) r p t at is i = absurd (cc)

-- and answers it
answered_by : (w : World) (s : Sent) (rest : List Sent) → w.dce.role ≡ Dce → is_sabm s.frame.content ≡ true →
    (to_dce (record w { up = s ∷ rest }) [] (s ∷ rest)).down ≡ w.down ++ answer_to s ∷ []
answered_by w s rest role is = by_content s.frame.content s.frame.response s.frame.pf s.act is
  where
    as_sent : (content : Content) (r p : Bool) (t : ℕ) → Sent
    as_sent content r p t = record { frame = record { content = content; response = r; pf = p }; act = t }

    by_content : (content : Content) (r p : Bool) (t : ℕ) → is_sabm content ≡ true →
        (to_dce (record w { up = as_sent content r p t ∷ rest }) [] (as_sent content r p t ∷ rest)).down
        ≡ w.down ++ answer_to (as_sent content r p t) ∷ []
    by_content Sabm r p t is =
        by_dce (λ v. (to_dce (record v { up = as_sent Sabm r p t ∷ rest }) [] (as_sent Sabm r p t ∷ rest)).down
        ≡ v.down ++ answer_to (as_sent Sabm r p t) ∷ []) w role refl refl refl refl
    by_content (I ns nr packet) r p t is = absurd (cc)
    by_content (Rr nr) r p t is = absurd (cc)
    by_content (Rnr nr) r p t is = absurd (cc)
    by_content (Rej nr) r p t is = absurd (cc)
    by_content Disc r p t is = absurd (cc)
    by_content Dm r p t is = absurd (cc)
    by_content Ua r p t is = absurd (cc)
    by_content (Frmr report) r p t is = absurd (cc)

pub inv-comes_up : (w : World) → Inv w → ComesUp w
inv-comes_up w i = record {
  answers = λ s rest up is at.
      let back : s ∷ rest ≡ w.up = sym up in
      let same : record w { up = s ∷ rest } ≡ w = λ k. record w { up = back k } in
      subst (λ (v : World). (happens v (Deliver Dce [])).down ≡ v.down ++ answer_to s ∷ []) same
      (answered_by w s rest i.dce_role is);
  both_up = λ s rest up is at sent between quiet answer behind front ack stamp kept.
      let back : s ∷ rest ≡ w.up = sym up in
      let same : record w { up = s ∷ rest } ≡ w = λ k. record w { up = back k } in
      let Q : World → Type 0 = λ v. Inv v → Pending v.act (happens v (Deliver Dce sent)) in
      let q : Q w = subst Q same (λ j. pending-first w s rest sent j is at) in
      are_up w.act answer behind (run between (happens w (Deliver Dce sent))) kept
      (ua_is answer.frame.content ack) stamp front
      (pending-run w.act between (happens w (Deliver Dce sent)) quiet (q i));
}

pub comes_up : Always ComesUp
comes_up standing dte dce few few' events =
    inv-comes_up (run events (opening standing dte dce)) (always-inv standing dte dce few few' events)
