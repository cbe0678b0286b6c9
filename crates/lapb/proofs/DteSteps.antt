-- What a DTE does keeps what every state meets.
use Rattle.std.specs.Prelude.{◌≡◌, ℕ, ◌+◌, ◌%◌, ◌≤◌, Bool, true, false, not, ◌&&◌, ◌⊎◌, List, [], ◌∷◌, ◌++◌, length}
use Rattle.std.specs.Prelude.{drop, Option, Some, None, if◌then◌else◌, ◌==◌}
use Rattle.std.proofs.Common.{refl, sym, ap, ◌∙◌, subst, inl, inr, arith, eqb-true}
use Rattle.std.proofs.lemmas.Bool.{eqb-false}
use Rattle.frame_codec.specs.Frame.{FrameValue, Content}
use Rattle.frame_codec.specs.Frame.Content.{I, Rr, Rnr, Rej, Sabm, Disc, Dm, Ua, Frmr}
use Rattle.lapb.specs.declared.phase.Phase.{Phase}
use Rattle.lapb.specs.declared.note.Note.{Note}
use Rattle.lapb.specs.Machine.{Octets, Link, Step, command, response, set_up, come_up, offer, is_full}
use Rattle.lapb.specs.Named.{with_packet}
use Rattle.lapb.specs.World.{Sent, World, logged, stamped, kept_of, offered, act_after, dte_does, is_setting_up}
use Rattle.lapb.specs.World.{is_up_note, is_sabm, IsPrefix}
use Rattle.lapb.proofs.Cases.{cond_by, Each, each-kept, each-weaken}
use Rattle.lapb.proofs.Halves.{Half', Carries, Tells, half-sent, half-told, half-x_out, half-y_out, half-y_begins}
use Rattle.lapb.proofs.Halves.{half-offered}
use Rattle.lapb.proofs.Steps.{is_numbered, GoesStep}
use Rattle.lapb.proofs.Flights.{OfDown, flight-append, flight-stamped, NoSabmOf, NoNumbered, Stamped, Ups, ups-speaks}
use Rattle.lapb.proofs.Flights.{ups-sets, ups-act, ups-quiet, Speaks, Sets, no_sabm-spoken, Downs, downs-lower}
use Rattle.lapb.proofs.Flights.{downs-act, downs-quiet, downs-stamped}
use Rattle.lapb.proofs.PlainFrames.{IsPlain, half-sent_plain, half-told_plain, full-false, IsDm, dm-plain}
use Rattle.lapb.proofs.Inv.{IsFresh, Inv, dte_in, lists-change, logged-other, logged-same, lost_down}

-- ---- a DTE that is up goes on

speaks-numbered : (c n : ℕ) (content : Content) → n ≡ c → is_numbered content ≡ true → Speaks c n content
speaks-numbered c n (I ns nr packet) e f = e
speaks-numbered c n (Rr nr) e f = e
speaks-numbered c n (Rnr nr) e f = e
speaks-numbered c n (Rej nr) e f = e
speaks-numbered c n Sabm e f = absurd (cc)
speaks-numbered c n Disc e f = absurd (cc)
speaks-numbered c n Dm e f = absurd (cc)
speaks-numbered c n Ua e f = absurd (cc)
speaks-numbered c n (Frmr report) e f = absurd (cc)

module _ (w : World) (kept : List Bool) (step : Step) where
  -- the world after a step that stays up
  abbrev dte_plain : World
  dte_plain = record w {
    dte = step.link;
    up = w.up ++ stamped w.act (kept_of kept step.frames);
    dte_accepted = logged w.dte_accepted w.own step.accepted;
  }

  dte_does-plain : w.dte.phase ≡ Phase.Up → step.link.phase ≡ Phase.Up → step.note ≡ Note.Nothing → dte_plain ≡
      dte_does w kept step
  dte_does-plain before up nothing =
      let same_act : act_after w step ≡ w.act = ap (λ p. if is_setting_up p && not (is_setting_up w.dte.phase) then
      w.act + 1 else w.act) up in
      let same_own : (if is_up_note step.note then w.act else w.own) ≡ w.own = ap (λ n. if is_up_note n then w.act
      else w.own) nothing in
      let act_is : w.act ≡ act_after w step = sym same_act in
      let own_is : w.own ≡ (if is_up_note step.note then w.act else w.own) = sym same_own in
      λ i. record w {
        dte = step.link;
        act = act_is i;
        own = own_is i;
        up = w.up ++ stamped (act_is i) (kept_of kept step.frames);
        dte_accepted = logged w.dte_accepted w.own step.accepted;
      }

pub dte_goes : (w : World) (kept : List Bool) (step : Step) (h : Bool) → Inv (dte_in w Phase.Up) →
    GoesStep w.session (dte_in w Phase.Up).dte w.dce (w.dte_offered w.session) (w.dce_accepted w.session)
    (w.dce_offered w.session)
    (w.dte_accepted w.session) w.up w.down h step →
    NoSabmOf w.session w.up ⊎ ((step.accepted ≡ None) × IsFresh w) → Inv (dte_does (dte_in w Phase.Up) kept step)
dte_goes w kept step h i g which =
    let c : ℕ = w.session in
    let j = i.up_in refl in
    let frames : List FrameValue = kept_of kept step.frames in
    let da : ℕ → List Octets = logged w.dte_accepted w.own step.accepted in
    let da_is : da c ≡ with_packet (w.dte_accepted c) step.accepted = logged-same w.dte_accepted w.own c step.accepted
    j.own_is in
    let there = subst (λ (t : ℕ). Half' c Phase.Up step.link.oldest step.link.next step.link.top step.link.queue
    w.dce.phase w.dce.expected
    (w.dte_offered c) (w.dce_accepted c) (w.up ++ stamped t frames) w.down) (sym j.act_is) (g.there kept) in
    let back = subst (λ (t : ℕ). Half' c w.dce.phase w.dce.oldest w.dce.next w.dce.top w.dce.queue Phase.Up
    step.link.expected
    (w.dce_offered c) (with_packet (w.dte_accepted c) step.accepted) w.down (w.up ++ stamped t frames)) (sym j.act_is)
    (g.back kept) in
    let numbered : Each (λ f. is_numbered f.content ≡ true) frames = each-kept (λ f. is_numbered f.content ≡ true)
    kept step.frames g.all in
    let spoken : Each (λ f. Speaks c w.act f.content) frames = each-weaken (λ f. is_numbered f.content ≡ true) (λ f.
    Speaks c w.act f.content)
    (λ f. speaks-numbered c w.act f.content j.act_is) frames numbered in
    let none : NoSabmOf c w.up → NoSabmOf c (w.up ++ stamped w.act frames) =
    λ off. flight-append (λ s. s.act ≡ c → is_sabm s.frame.content ≡ false) w.up (stamped w.act frames) off
    (no_sabm-spoken c w.act frames spoken) in
    let not_up : (p : Phase) → (p ≡ Phase.Up → ⊥) → step.link.phase ≡ p → ⊥ = λ p other e. other (sym e ∙ g.phase) in
    subst Inv (dte_does-plain (dte_in w Phase.Up) kept step refl g.phase g.note_is) (record {
      dte_role = g.role;
      dce_role = i.dce_role;
      dte_k = subst (λ n. n ≤ 7) (sym g.k) i.dte_k;
      dce_k = i.dce_k;
      dte_phase = not_up Phase.Rejecting (λ e. cc);
      dce_phase = i.dce_phase;
      dce_set = i.dce_set;
      out = subst (λ p. Half' c p step.link.oldest step.link.next step.link.top step.link.queue w.dce.phase
          w.dce.expected
          (w.dte_offered c) (w.dce_accepted c) (w.up ++ stamped w.act frames) w.down) (sym g.phase) there;
      back = subst (λ p. Half' c w.dce.phase w.dce.oldest w.dce.next w.dce.top w.dce.queue p step.link.expected
          (w.dce_offered c) (da c) w.down (w.up ++ stamped w.act frames)) (sym g.phase)
          (subst (λ (xs : List Octets). Half' c w.dce.phase w.dce.oldest w.dce.next w.dce.top w.dce.queue Phase.Up
          step.link.expected
          (w.dce_offered c) xs w.down (w.up ++ stamped w.act frames)) (sym da_is) back);
      ups = subst (λ b. Ups c w.act b c (w.up ++ stamped w.act frames)) (sym g.bit)
          (ups-speaks c w.act w.dte.bit c w.up frames i.reached i.ups spoken);
      downs = subst (λ b. Downs c w.act b 0 w.down) (sym g.bit) i.downs;
      up_in = λ _. j;
      down_out = λ e. absurd (not_up Phase.Down (λ f. cc) e);
      setting = λ e f. absurd (not_up Phase.SettingUp (λ f. cc) e);
      again = elim which [
        | inl off ↦ inl (none off)
        | inr f ↦ inr (record {
          dte_none = da_is ∙ ap (λ (x : Option Octets). with_packet (w.dte_accepted c) x) f.0 ∙ f.1.dte_none;
          dce_none = f.1.dce_none;
          none = f.1.none;
          unheard = f.1.unheard;
        })
      ];
      mute = i.mute;
      lists = lists-change c w.dte_offered w.dte_accepted w.dce_offered w.dce_accepted w.dte_offered da w.dce_offered
          w.dce_accepted i.lists
          (λ t other. (
            refl,
            logged-other w.dte_accepted w.own step.accepted t (λ e. other (e ∙ j.own_is)),
            refl,
            refl,
          ))
          (i.lists.at_dce c) (subst (λ (xs : List Octets). IsPrefix xs (w.dce_offered c)) (sym da_is) back.in_order);
      reached = i.reached;
    })

-- ---- an offer

pub dte_offers : (w : World) (packet : Octets) → Inv (dte_in w Phase.Up) →
    Inv (record (dte_in w Phase.Up) {
      dte = offer (dte_in w Phase.Up).dte packet;
      dte_offered = logged w.dte_offered w.own (offered (dte_in w Phase.Up).dte packet);
    })
dte_offers w packet i =
    cond_by (λ b. Inv (record (dte_in w Phase.Up) {
      dte = record (dte_in w Phase.Up).dte { queue = if not b then w.dte.queue ++ packet ∷ [] else w.dte.queue };
      dte_offered = logged w.dte_offered w.own (if not b then Some packet else None);
    })) (is_full w.dte) (λ _. i) (λ e. taken (full-false w.dte.k w.dte.queue i.dte_k e))
  where
    taken : length w.dte.queue ≤ 6 → Inv (record (dte_in w Phase.Up) {
      dte = record (dte_in w Phase.Up).dte { queue = w.dte.queue ++ packet ∷ [] };
      dte_offered = logged w.dte_offered w.own (Some packet);
    })
    taken room =
        let c : ℕ = w.session in
        let j = i.up_in refl in
        let od : ℕ → List Octets = logged w.dte_offered w.own (Some packet) in
        let od_is : od c ≡ w.dte_offered c ++ packet ∷ [] = logged-same w.dte_offered w.own c (Some packet) j.own_is
        in
        let more = half-offered c w.dte.oldest w.dte.next w.dte.top w.dte.queue w.dce.phase w.dce.expected
        (w.dte_offered c) (w.dce_accepted c)
        w.up w.down packet i.out room in
        record {
          dte_role = i.dte_role;
          dce_role = i.dce_role;
          dte_k = i.dte_k;
          dce_k = i.dce_k;
          dte_phase = i.dte_phase;
          dce_phase = i.dce_phase;
          dce_set = i.dce_set;
          out = subst (λ (xs : List Octets). Half' c Phase.Up w.dte.oldest w.dte.next w.dte.top (w.dte.queue ++ packet
              ∷ []) w.dce.phase
              w.dce.expected xs (w.dce_accepted c) w.up w.down) (sym od_is) more;
          back = i.back;
          ups = i.ups;
          downs = i.downs;
          up_in = i.up_in;
          down_out = i.down_out;
          setting = λ e f. absurd (cc);
          again = i.again;
          mute = i.mute;
          lists = lists-change c w.dte_offered w.dte_accepted w.dce_offered w.dce_accepted od w.dte_accepted
              w.dce_offered w.dce_accepted i.lists
              (λ t other. (
                logged-other w.dte_offered w.own (Some packet) t (λ e. other (e ∙ j.own_is)),
                refl,
                refl,
                refl,
              ))
              (subst (λ (xs : List Octets). IsPrefix (w.dce_accepted c) xs) (sym od_is) more.in_order) (i.lists.at_dte
              c);
          reached = i.reached;
        }

-- ---- a set-up act

setting-not_up : Phase.SettingUp ≡ Phase.Up → ⊥
setting-not_up e = cc

-- frames that set up stand for nothing else
sets-plain : (p : Bool) (frames : List FrameValue) → Each (Sets p) frames → Each IsPlain frames
sets-plain p frames all = each-weaken (Sets p) IsPlain (λ f s. ap is_numbered s.0) frames all

sets-other : (c n : ℕ) (p : Bool) (frames : List FrameValue) → (n ≡ c → ⊥) → NoSabmOf c (stamped n frames)
sets-other c n p [] other = tt
sets-other c n p (f ∷ frames) other = (λ e. absurd (other e), sets-other c n p frames other)

-- the world after an act has begun
abbrev acted : World → Link → List Bool → World
acted w link kept = record w {
  dte = link;
  act = w.act + 1;
  up = w.up ++ stamped (w.act + 1) (kept_of kept (command Sabm link.bit ∷ []));
}

act_begins : (w : World) (kept : List Bool) → Inv w → Ups w.session (w.act + 1) (not w.dte.bit) w.session w.up →
    Downs w.session (w.act + 1) (not w.dte.bit) 0 w.down → Inv (acted w (set_up w.dte).link kept)
act_begins w kept i ups downs =
    let c : ℕ = w.session in
    let frames : List FrameValue = kept_of kept (command Sabm (not w.dte.bit) ∷ []) in
    let sets : Each (Sets (not w.dte.bit)) frames = each-kept (Sets (not w.dte.bit)) kept (command Sabm (not
    w.dte.bit) ∷ []) ((refl, refl), tt) in
    let plain : Each IsPlain frames = sets-plain (not w.dte.bit) frames sets in
    let other : w.act + 1 ≡ c → ⊥ = λ e. let le = i.reached in omega arith in
    record {
      dte_role = i.dte_role;
      dce_role = i.dce_role;
      dte_k = i.dte_k;
      dce_k = i.dce_k;
      dte_phase = λ e. cc;
      dce_phase = i.dce_phase;
      dce_set = i.dce_set;
      out = half-x_out c w.dte.phase w.dte.oldest w.dte.next w.dte.top w.dte.queue w.dce.phase w.dce.expected
          (w.dte_offered c) (w.dce_accepted c)
          Phase.SettingUp 0 0 0 [] (w.up ++ stamped (w.act + 1) frames) w.down setting-not_up
          (half-sent_plain c w.dte.phase w.dte.oldest w.dte.next w.dte.top w.dte.queue w.dce.phase w.dce.expected
          (w.dte_offered c)
          (w.dce_accepted c) (w.act + 1) frames w.up w.down i.out plain);
      back = half-y_out c w.dce.phase w.dce.oldest w.dce.next w.dce.top w.dce.queue w.dte.phase w.dte.expected
          (w.dce_offered c) (w.dte_accepted c)
          Phase.SettingUp 0 w.down (w.up ++ stamped (w.act + 1) frames) setting-not_up
          (half-told_plain c w.dce.phase w.dce.oldest w.dce.next w.dce.top w.dce.queue w.dte.phase w.dte.expected
          (w.dce_offered c)
          (w.dte_accepted c) (w.act + 1) frames w.down w.up i.back plain);
      ups = ups-sets c (w.act + 1) (not w.dte.bit) c w.up frames (omega (arith, i.reached)) (inl other) ups sets;
      downs = downs;
      up_in = λ e. absurd (cc);
      down_out = λ e. absurd (cc);
      setting = λ e f. absurd (other f);
      again = elim i.again [
        | inl off ↦ inl (flight-append (λ s. s.act ≡ c → is_sabm s.frame.content ≡ false) w.up (stamped (w.act +
            1) frames) off
            (sets-other c (w.act + 1) (not w.dte.bit) frames other))
        | inr f ↦ inr f
      ];
      mute = i.mute;
      lists = i.lists;
      reached = omega (arith, i.reached);
    }

pub dte_sets_up_from_up : (w : World) (kept : List Bool) → Inv (dte_in w Phase.Up) →
    Inv (dte_does (dte_in w Phase.Up) kept (set_up (dte_in w Phase.Up).dte))
dte_sets_up_from_up w kept i =
    let j = i.up_in refl in
    let ups : Ups w.session (w.act + 1) (not w.dte.bit) w.session w.up =
    subst (λ (c : ℕ). Ups c (w.act + 1) (not w.dte.bit) w.session w.up) j.act_is
    (ups-act w.act w.dte.bit w.session w.up (subst (λ (c : ℕ). Ups c w.act w.dte.bit w.session w.up) (sym j.act_is)
    i.ups)) in
    let downs : Downs w.session (w.act + 1) (not w.dte.bit) 0 w.down =
    subst (λ (c : ℕ). Downs c (w.act + 1) (not w.dte.bit) 0 w.down) j.act_is
    (downs-act w.act w.dte.bit 0 w.down (subst (λ (c : ℕ). Stamped c w.down) (sym j.act_is) j.of_it)
    (subst (λ (c : ℕ). Downs c w.act w.dte.bit 0 w.down) (sym j.act_is) i.downs)) in
    act_begins (dte_in w Phase.Up) kept i ups downs

pub dte_sets_up_from_down : (w : World) (kept : List Bool) → Inv (dte_in w Phase.Down) →
    Inv (dte_does (dte_in w Phase.Down) kept (set_up (dte_in w Phase.Down).dte))
dte_sets_up_from_down w kept i =
    let j = i.down_out refl in
    act_begins (dte_in w Phase.Down) kept i
    (ups-quiet w.session w.act w.dte.bit w.session w.up j.0 i.ups) (downs-quiet w.session w.act w.dte.bit 0 w.down j.1
    i.downs)

-- ---- SABM again, and DM

pub dte_sets_again : (w : World) (kept : List Bool) → Inv (dte_in w Phase.SettingUp) →
    Inv (record (dte_in w Phase.SettingUp) {
      up = w.up ++ stamped w.act (kept_of kept (command Sabm w.dte.bit ∷
          []));
    })
dte_sets_again w kept i =
    cond_by (λ _. Inv (record (dte_in w Phase.SettingUp) { up = w.up ++ stamped w.act frames })) (w.act == w.session)
    (λ e. let f = i.setting refl (eqb-true w.act w.session e) in again (inr f.none_sent) (inr f.fresh))
    (λ e. let other = eqb-false w.act w.session e in
    again (inl other) (elim i.again [
      | inl off ↦ inl (flight-append (λ s. s.act ≡ c → is_sabm s.frame.content ≡ false) w.up (stamped w.act
          frames) off
          (sets-other c w.act w.dte.bit frames other))
      | inr f ↦ inr f
    ]))
  where
    c : ℕ
    c = w.session

    frames : List FrameValue
    frames = kept_of kept (command Sabm w.dte.bit ∷ [])

    sets : Each (Sets w.dte.bit) (kept_of kept (command Sabm w.dte.bit ∷ []))
    sets = each-kept (Sets w.dte.bit) kept (command Sabm w.dte.bit ∷ []) ((refl, refl), tt)

    again : ((w.act ≡ w.session → ⊥) ⊎ NoNumbered w.up) →
        NoSabmOf w.session (w.up ++ stamped w.act (kept_of kept (command Sabm w.dte.bit ∷ []))) ⊎ IsFresh w →
        Inv (record (dte_in w Phase.SettingUp) {
          up = w.up ++ stamped w.act (kept_of kept (command Sabm w.dte.bit ∷
              []));
        })
    again which fresh =
        let plain = sets-plain w.dte.bit (kept_of kept (command Sabm w.dte.bit ∷ [])) sets in
        record {
          dte_role = i.dte_role;
          dce_role = i.dce_role;
          dte_k = i.dte_k;
          dce_k = i.dce_k;
          dte_phase = i.dte_phase;
          dce_phase = i.dce_phase;
          dce_set = i.dce_set;
          out = half-sent_plain w.session Phase.SettingUp w.dte.oldest w.dte.next w.dte.top w.dte.queue w.dce.phase
              w.dce.expected
              (w.dte_offered w.session) (w.dce_accepted w.session) w.act (kept_of kept (command Sabm w.dte.bit ∷
              [])) w.up w.down i.out plain;
          back = half-told_plain w.session w.dce.phase w.dce.oldest w.dce.next w.dce.top w.dce.queue Phase.SettingUp
              w.dte.expected
              (w.dce_offered w.session) (w.dte_accepted w.session) w.act (kept_of kept (command Sabm w.dte.bit ∷
              [])) w.down w.up i.back plain;
          ups = ups-sets w.session w.act w.dte.bit w.session w.up (kept_of kept (command Sabm w.dte.bit ∷ []))
              i.reached which i.ups sets;
          downs = i.downs;
          up_in = λ e. absurd (cc);
          down_out = λ e. absurd (cc);
          setting = λ e f. let g = i.setting e f in record {
            fresh = g.fresh;
            none_offered = g.none_offered;
            none_sent = flight-append (λ s. is_numbered s.frame.content ≡ false) w.up
                (stamped w.act (kept_of kept (command Sabm w.dte.bit ∷ []))) g.none_sent
                (flight-stamped (λ s. is_numbered s.frame.content ≡ false) w.act (kept_of kept (command Sabm
                w.dte.bit ∷ [])) plain);
          };
          again = fresh;
          mute = i.mute;
          lists = i.lists;
          reached = i.reached;
        }

-- DM, outside sessions
pub dte_declines : (w : World) (kept : List Bool) (pf : Bool) → Inv (dte_in w Phase.Down) →
    Inv (record (dte_in w Phase.Down) {
      up = w.up ++ stamped w.act (kept_of kept (response Dm pf ∷
          []));
    })
dte_declines w kept pf i =
    let frames : List FrameValue = kept_of kept (response Dm pf ∷ []) in
    let dm : Each IsDm frames = each-kept IsDm kept (response Dm pf ∷ []) (refl, tt) in
    let plain : Each IsPlain frames = dm-plain frames dm in
    let spoken : Each (λ f. Speaks w.session w.act f.content) frames =
    each-weaken IsDm (λ f. Speaks w.session w.act f.content) (λ f e. subst (λ (x : Content). Speaks w.session w.act x)
    (sym e) tt) frames dm in
    let none : Each (λ f. is_sabm f.content ≡ false) frames =
    each-weaken IsDm (λ f. is_sabm f.content ≡ false) (λ f e. ap is_sabm e) frames dm in
    record {
      dte_role = i.dte_role;
      dce_role = i.dce_role;
      dte_k = i.dte_k;
      dce_k = i.dce_k;
      dte_phase = i.dte_phase;
      dce_phase = i.dce_phase;
      dce_set = i.dce_set;
      out = half-sent_plain w.session Phase.Down w.dte.oldest w.dte.next w.dte.top w.dte.queue w.dce.phase
          w.dce.expected
          (w.dte_offered w.session) (w.dce_accepted w.session) w.act frames w.up w.down i.out plain;
      back = half-told_plain w.session w.dce.phase w.dce.oldest w.dce.next w.dce.top w.dce.queue Phase.Down
          w.dte.expected
          (w.dce_offered w.session) (w.dte_accepted w.session) w.act frames w.down w.up i.back plain;
      ups = ups-speaks w.session w.act w.dte.bit w.session w.up frames i.reached i.ups spoken;
      downs = i.downs;
      up_in = λ e. absurd (cc);
      down_out = λ e. let j = i.down_out e in (
        flight-append (λ s. is_sabm s.frame.content ≡ false) w.up (stamped w.act frames) j.0
            (flight-stamped (λ s. is_sabm s.frame.content ≡ false) w.act frames none),
        j.1,
      );
      setting = λ e f. absurd (cc);
      again = elim i.again [
        | inl off ↦ inl (flight-append (λ s. s.act ≡ w.session → is_sabm s.frame.content ≡ false) w.up (stamped
            w.act frames) off
            (no_sabm-spoken w.session w.act frames spoken))
        | inr f ↦ inr f
      ];
      mute = i.mute;
      lists = i.lists;
      reached = i.reached;
    }

-- ---- the UA of the act

not-other : (a b : Bool) → a ≡ b → a ≡ not b → ⊥
not-other true true e f = absurd (cc)
not-other true false e f = absurd (cc)
not-other false true e f = absurd (cc)
not-other false false e f = absurd (cc)

length-none : (xs : List Octets) → xs ≡ [] → length xs ≡ 0
length-none xs e = ap (λ (ys : List Octets). length ys) e

pub dte_comes_up : (w : World) (kept : List Bool) (s : Sent) (rest : List Sent) → Inv (record (dte_in w
    Phase.SettingUp) { down = s ∷ rest }) →
    s.frame.content ≡ Ua → s.frame.pf ≡ w.dte.bit →
    Inv (dte_does (record (dte_in w Phase.SettingUp) { down = rest }) kept (come_up (dte_in w Phase.SettingUp).dte))
dte_comes_up w kept s rest i is bit =
    let c : ℕ = w.session in
    let head = i.downs.2 in
    let le : s.act ≤ c = i.downs.1 in
    let reached : c ≤ w.act = i.reached in
    let stamp : s.act ≡ w.act =
    elim (subst (λ (x : Content). OfDown w.act w.dte.bit s.act x s.frame.pf) is head) [
      | inl e ↦ e.0
      | inr e ↦ absurd (not-other s.frame.pf w.dte.bit bit e.1)
    ] in
    let act_is : w.act ≡ c = omega arith in
    let j = i.setting refl act_is in
    let da_none : w.dte_accepted c ≡ [] = j.fresh.dte_none in
    let ca_none : w.dce_accepted c ≡ [] = j.fresh.dce_none in
    let lost = lost_down (dte_in w Phase.SettingUp) s rest i in
    let h = lost.out in
    let da_len : length (w.dte_accepted c) ≡ 0 = length-none (w.dte_accepted c) da_none in
    let ca_len : length (w.dce_accepted c) ≡ 0 = length-none (w.dce_accepted c) ca_none in
    let od_len : length (w.dte_offered c) ≡ 0 = length-none (w.dte_offered c) j.none_offered in
    let a_zero : h.a ≡ 0 = let l = h.a_le in omega arith in
    let m_zero : h.m ≡ 0 = let l = h.m_le in omega arith in
    let frames : List FrameValue = kept_of kept (command (Rr 0) true ∷ []) in
    let begun : Half' c Phase.Up 0 0 0 [] w.dce.phase w.dce.expected (w.dte_offered c) (w.dce_accepted c) w.up rest =
    record {
      a = h.a;
      m = h.m;
      a_le = h.a_le;
      acc_le = h.acc_le;
      m_le = h.m_le;
      near = h.near;
      in_order = h.in_order;
      carried = h.carried;
      told = h.told;
      sends = λ _. record {
        oldest = ap (λ (n : ℕ). n % 8) (sym a_zero);
        queue_is = sym (subst (λ (n : ℕ). drop n (w.dte_offered c) ≡ []) (sym a_zero) j.none_offered);
        next_le = omega arith;
        top_is = omega (arith, a_zero, m_zero);
        few = omega (arith, od_len);
      };
      takes = h.takes;
    } in
    let back : Half' c w.dce.phase w.dce.oldest w.dce.next w.dce.top w.dce.queue Phase.Up 0 (w.dce_offered c)
    (w.dte_accepted c) rest w.up =
    half-y_begins c w.dce.phase w.dce.oldest w.dce.next w.dce.top w.dce.queue Phase.SettingUp w.dte.expected
    (w.dce_offered c)
    (w.dte_accepted c) rest w.up da_none lost.back in
    let numbered : Each (λ f. is_numbered f.content ≡ true) frames =
    each-kept (λ f. is_numbered f.content ≡ true) kept (command (Rr 0) true ∷ []) (refl, tt) in
    let spoken : Each (λ f. Speaks c w.act f.content) frames =
    each-weaken (λ f. is_numbered f.content ≡ true) (λ f. Speaks c w.act f.content) (λ f. speaks-numbered c w.act
    f.content act_is) frames numbered in
    record {
      dte_role = i.dte_role;
      dce_role = i.dce_role;
      dte_k = i.dte_k;
      dce_k = i.dce_k;
      dte_phase = λ e. cc;
      dce_phase = i.dce_phase;
      dce_set = i.dce_set;
      out = half-sent c Phase.Up 0 0 0 [] w.dce.phase w.dce.expected (w.dte_offered c) (w.dce_accepted c) w.act frames
          w.up rest begun
          (each-kept (λ f. Carries (w.dte_offered c) begun.m begun.m f.content) kept (command (Rr 0) true ∷
          []) (tt, tt));
      back = half-told c w.dce.phase w.dce.oldest w.dce.next w.dce.top w.dce.queue Phase.Up 0 (w.dce_offered c)
          (w.dte_accepted c) w.act frames
          rest w.up back
          (each-kept (λ f. Tells (length (w.dte_accepted c)) f.content) kept (command (Rr 0) true ∷ [])
          (ap (λ (n : ℕ). n % 8) (sym da_len), tt));
      ups = ups-speaks c w.act w.dte.bit c w.up frames reached i.ups spoken;
      downs = lost.downs;
      up_in = λ _. record {
        act_is = act_is;
        own_is = act_is;
        of_it = downs-stamped c w.act w.dte.bit rest
            (downs-lower c w.act w.dte.bit s.act c rest (omega (arith, stamp, act_is)) i.downs.3);
      };
      down_out = λ e. absurd (cc);
      setting = λ e f. absurd (cc);
      again = elim lost.again [
        | inl off ↦ inl (flight-append (λ x. x.act ≡ c → is_sabm x.frame.content ≡ false) w.up (stamped w.act
            frames) off
            (no_sabm-spoken c w.act frames spoken))
        | inr f ↦ inr f
      ];
      mute = i.mute;
      lists = i.lists;
      reached = reached;
    }
