-- Each event keeps what every state meets.
use Rattle.std.specs.Prelude.{◌≡◌, ℕ, Bool, true, false, not, ◌&&◌, ◌||◌, List, [], ◌∷◌, None, if◌then◌else◌, nat_le}
use Rattle.std.specs.Prelude.{nat_lt}
use Rattle.std.proofs.Common.{refl, sym, subst, inl, inr}
use Rattle.link_timers.specs.declared.role.Role.TheVariants.{Dte, Dce}
use Rattle.frame_codec.specs.Frame.{Content}
use Rattle.frame_codec.specs.Frame.Content.{I, Rr, Rnr, Rej, Sabm, Disc, Dm, Ua, Frmr}
use Rattle.lapb.specs.declared.phase.Phase.{Phase}
use Rattle.lapb.specs.Machine.{Octets, Link, response, still, sends, disconnect, relink, come_up, poll, send_all}
use Rattle.lapb.specs.Machine.{sendable, settle, is_same, on_frame, on_t1, in_up, runs, expire_in}
use Rattle.lapb.specs.World.{Sent, World, Event, Offer, Deliver, Lose, Expire, Relink, Settle, Restart, dte_does}
use Rattle.lapb.specs.World.{dce_does, dce_enters, to_dte, to_dce, without_first, happens, run}
use Rattle.lapb.proofs.Cases.{cond_by}
use Rattle.lapb.proofs.Steps.{is_numbered, goes_frame, goes_poll, goes_settle}
use Rattle.lapb.proofs.Flights.{NoSabmOf, ups-numbered}
use Rattle.lapb.proofs.Inv.{Inv, dte_in, dce_in, by_dte, by_dce, dte_silent, dce_silent, lost_down, lost_up}
use Rattle.lapb.proofs.Inv.{dte_restarts, dce_restarts}
use Rattle.lapb.proofs.DteSteps.{dte_goes, dte_offers, dte_sets_up_from_up, dte_sets_up_from_down, dte_sets_again}
use Rattle.lapb.proofs.DteSteps.{dte_declines, dte_comes_up}
use Rattle.lapb.proofs.DceSteps.{dce_goes, dce_offers, dce_declines, dce_enters_act}

abbrev sent : Content → Bool → Bool → ℕ → Sent
sent content r p t = record { frame = record { content = content; response = r; pf = p }; act = t }

-- ---- the DTE takes a frame

dte_polite : (w : World) (kept : List Bool) (due : Bool) → Inv (dte_in w Phase.Down) →
    Inv (dte_does (dte_in w Phase.Down) kept
    (if due then sends (dte_in w Phase.Down).dte (response Dm true) else still (dte_in w
    Phase.Down).dte))
dte_polite w kept true i = dte_declines w kept true i
dte_polite w kept false i = dte_silent (dte_in w Phase.Down) kept i

dte_takes_down : (w : World) (kept : List Bool) (rest : List Sent) (content : Content) (r p : Bool) (t : ℕ) →
    Inv (record (dte_in w Phase.Down) { down = sent content r p t ∷ rest }) →
    Inv (dte_does (record (dte_in w Phase.Down) { down = rest }) kept (on_frame (dte_in w Phase.Down).dte (sent
    content r p t).frame))
dte_takes_down w kept rest Sabm r p t i = absurd (i.downs.2)
dte_takes_down w kept rest Disc r p t i = absurd (i.downs.2)
dte_takes_down w kept rest (Frmr report) r p t i = absurd (i.downs.2)
dte_takes_down w kept rest Dm r p t i =
    dte_sets_up_from_down (record w { down = rest }) kept (lost_down (dte_in w Phase.Down) (sent Dm r p
    t) rest i)
dte_takes_down w kept rest Ua r p t i =
    dte_polite (record w { down = rest }) kept (p && not r) (lost_down (dte_in w Phase.Down) (sent Ua r p
    t) rest i)
dte_takes_down w kept rest (I ns nr packet) r p t i =
    dte_polite (record w { down = rest }) kept (p && not r) (lost_down (dte_in w Phase.Down) (sent (I ns
    nr packet) r p t) rest i)
dte_takes_down w kept rest (Rr nr) r p t i =
    dte_polite (record w { down = rest }) kept (p && not r) (lost_down (dte_in w Phase.Down) (sent (Rr
    nr) r p t) rest i)
dte_takes_down w kept rest (Rnr nr) r p t i =
    dte_polite (record w { down = rest }) kept (p && not r) (lost_down (dte_in w Phase.Down) (sent (Rnr
    nr) r p t) rest i)
dte_takes_down w kept rest (Rej nr) r p t i =
    dte_polite (record w { down = rest }) kept (p && not r) (lost_down (dte_in w Phase.Down) (sent (Rej nr) r
    p t) rest i)

pub same_is : (a b : Bool) → is_same a b ≡ true → a ≡ b
same_is true b e = sym e
same_is false true e = absurd (cc)
same_is false false e = refl

dte_ignores : (w : World) (kept : List Bool) (rest : List Sent) (s : Sent) → Inv (record (dte_in w Phase.SettingUp) {
  down = s ∷ rest;
}) →
    Inv (dte_does (record (dte_in w Phase.SettingUp) { down = rest }) kept (still (dte_in w Phase.SettingUp).dte))
dte_ignores w kept rest s i = dte_silent (record (dte_in w Phase.SettingUp) { down = rest }) kept (lost_down (dte_in w
    Phase.SettingUp) s rest i)

dte_takes_setting_up : (w : World) (kept : List Bool) (rest : List Sent) (content : Content) (r p : Bool) (t : ℕ) →
    Inv (record (dte_in w Phase.SettingUp) { down = sent content r p t ∷ rest }) →
    Inv (dte_does (record (dte_in w Phase.SettingUp) { down = rest }) kept (on_frame (dte_in w Phase.SettingUp).dte
    (sent content r p t).frame))
dte_takes_setting_up w kept rest Ua r p t i =
    cond_by (λ b. Inv (dte_does (record (dte_in w Phase.SettingUp) { down = rest }) kept
    (if b then come_up (dte_in w Phase.SettingUp).dte else still (dte_in w Phase.SettingUp).dte))) (is_same p
    w.dte.bit)
    (λ e. dte_comes_up w kept (sent Ua r p t) rest i refl (same_is p w.dte.bit e))
    (λ _. dte_ignores w kept rest (sent Ua r p t) i)
dte_takes_setting_up w kept rest Disc r p t i = absurd (i.downs.2)
dte_takes_setting_up w kept rest Sabm r p t i = absurd (i.downs.2)
dte_takes_setting_up w kept rest (Frmr report) r p t i = absurd (i.downs.2)
dte_takes_setting_up w kept rest Dm r p t i = dte_ignores w kept rest (sent Dm r p t) i
dte_takes_setting_up w kept rest (I ns nr packet) r p t i = dte_ignores w kept rest (sent
    (I ns nr packet) r p t) i
dte_takes_setting_up w kept rest (Rr nr) r p t i = dte_ignores w kept rest (sent (Rr nr)
    r p t) i
dte_takes_setting_up w kept rest (Rnr nr) r p t i = dte_ignores w kept rest (sent (Rnr
    nr) r p t) i
dte_takes_setting_up w kept rest (Rej nr) r p t i = dte_ignores w kept rest (sent (Rej nr) r p t) i

dte_takes_numbered : (w : World) (kept : List Bool) (rest : List Sent) (content : Content) (r p : Bool) (t : ℕ) →
    is_numbered content ≡ true →
    Inv (record (dte_in w Phase.Up) { down = sent content r p t ∷ rest }) →
    Inv (dte_does (record (dte_in w Phase.Up) { down = rest }) kept (in_up Dte (dte_in w Phase.Up).dte content r p))
dte_takes_numbered w kept rest content r p t e i =
    let at : t ≡ w.session = (i.up_in refl).of_it.0 in
    dte_goes (record w { down = rest }) kept (in_up Dte (dte_in w Phase.Up).dte content r p) true
    (lost_down (dte_in w Phase.Up) (sent content r p t) rest i)
    (goes_frame w.session (dte_in w Phase.Up).dte w.dce (w.dte_offered w.session) (w.dce_accepted w.session)
    (w.dce_offered w.session)
    (w.dte_accepted w.session) w.up Dte (sent content r p t) rest content r p e refl at refl i.out i.back)
    (elim i.again [ inl off ↦ inl off | inr f ↦ absurd (let none = f.none.0 at in cc) ])

dte_takes_up : (w : World) (kept : List Bool) (rest : List Sent) (content : Content) (r p : Bool) (t : ℕ) →
    Inv (record (dte_in w Phase.Up) { down = sent content r p t ∷ rest }) →
    Inv (dte_does (record (dte_in w Phase.Up) { down = rest }) kept (on_frame (dte_in w Phase.Up).dte (sent content r
    p t).frame))
dte_takes_up w kept rest (I ns nr packet) r p t i = dte_takes_numbered w kept rest (I ns
    nr packet) r p t refl i
dte_takes_up w kept rest (Rr nr) r p t i = dte_takes_numbered w kept rest (Rr nr) r p t
    refl i
dte_takes_up w kept rest (Rnr nr) r p t i = dte_takes_numbered w kept rest (Rnr nr)
    r p t refl i
dte_takes_up w kept rest (Rej nr) r p t i = dte_takes_numbered w kept rest (Rej nr) r p t refl i
dte_takes_up w kept rest Sabm r p t i = absurd (i.downs.2)
dte_takes_up w kept rest Disc r p t i = absurd (i.downs.2)
dte_takes_up w kept rest (Frmr report) r p t i = absurd (i.downs.2)
dte_takes_up w kept rest Dm r p t i =
    dte_sets_up_from_up (record w { down = rest }) kept (lost_down (dte_in w Phase.Up) (sent Dm r p t)
    rest i)
dte_takes_up w kept rest Ua r p t i =
    dte_silent (record (dte_in w Phase.Up) { down = rest }) kept (lost_down (dte_in w Phase.Up) (sent Ua
    r p t) rest i)

dte_takes : (w : World) (kept : List Bool) (s : Sent) (rest : List Sent) → w.dte.role ≡ Dte → Inv (record w {
  down = s
      ∷ rest;
}) →
    Inv (dte_does (record w { down = rest }) kept (on_frame w.dte s.frame))
dte_takes w kept s rest role i =
    by_dte (λ v. Inv (record v { down = s ∷ rest }) → Inv (dte_does (record v { down = rest }) kept (on_frame v.dte
    s.frame))) w role
    (dte_takes_down w kept rest s.frame.content s.frame.response s.frame.pf s.act)
    (dte_takes_setting_up w kept rest s.frame.content s.frame.response s.frame.pf s.act)
    (dte_takes_up w kept rest s.frame.content s.frame.response s.frame.pf s.act)
    (λ j. absurd (j.dte_phase refl)) i

deliver_dte : (w : World) (kept : List Bool) (flow : List Sent) → w.down ≡ flow → Inv w → Inv (to_dte w kept flow)
deliver_dte w kept [] e i = i
deliver_dte w kept (s ∷ rest) e i = dte_takes w kept s rest i.dte_role (subst (λ (flow : List Sent). Inv (record w {
  down = flow;
})) e i)

-- ---- the DCE takes a frame

dce_polite : (w : World) (kept : List Bool) (due : Bool) → Inv (dce_in w Phase.Down) →
    Inv (dce_does (dce_in w Phase.Down) kept
    (if due then sends (dce_in w Phase.Down).dce (response Dm true) else still (dce_in w
    Phase.Down).dce))
dce_polite w kept true i = dce_declines (dce_in w Phase.Down) kept (dce_in w Phase.Down).dce true i refl i.dce_k refl
dce_polite w kept false i = dce_silent (dce_in w Phase.Down) kept i

dce_takes_down : (w : World) (kept : List Bool) (rest : List Sent) (content : Content) (r p : Bool) (t : ℕ) →
    Inv (record (dce_in w Phase.Down) { up = sent content r p t ∷ rest }) →
    Inv (dce_does (dce_enters (record (dce_in w Phase.Down) { up = rest }) (sent content r p t)) kept
    (on_frame (dce_in w Phase.Down).dce (sent content r p t).frame))
dce_takes_down w kept rest Sabm r p t i = dce_enters_act (dce_in w Phase.Down) (sent Sabm r p t) rest kept i
    refl
dce_takes_down w kept rest Disc r p t i = absurd (i.ups.2)
dce_takes_down w kept rest Ua r p t i = absurd (i.ups.2)
dce_takes_down w kept rest (Frmr report) r p t i = absurd (i.ups.2)
dce_takes_down w kept rest Dm r p t i =
    dce_polite (record w { up = rest }) kept (p && not r) (lost_up (dce_in w Phase.Down) (sent Dm r p t)
    rest i)
dce_takes_down w kept rest (I ns nr packet) r p t i =
    dce_polite (record w { up = rest }) kept (p && not r) (lost_up (dce_in w Phase.Down) (sent (I ns
    nr packet) r p t) rest i)
dce_takes_down w kept rest (Rr nr) r p t i =
    dce_polite (record w { up = rest }) kept (p && not r) (lost_up (dce_in w Phase.Down) (sent (Rr nr)
    r p t) rest i)
dce_takes_down w kept rest (Rnr nr) r p t i =
    dce_polite (record w { up = rest }) kept (p && not r) (lost_up (dce_in w Phase.Down) (sent (Rnr
    nr) r p t) rest i)
dce_takes_down w kept rest (Rej nr) r p t i =
    dce_polite (record w { up = rest }) kept (p && not r) (lost_up (dce_in w Phase.Down) (sent (Rej nr) r p t)
    rest i)

dce_takes_numbered : (w : World) (kept : List Bool) (rest : List Sent) (content : Content) (r p : Bool) (t : ℕ) →
    is_numbered content ≡ true →
    Inv (record (dce_in w Phase.Up) { up = sent content r p t ∷ rest }) →
    Inv (dce_does (record (dce_in w Phase.Up) { up = rest }) kept (in_up Dce (dce_in w Phase.Up).dce content r p))
dce_takes_numbered w kept rest content r p t e i =
    let at = ups-numbered w.session w.act w.dte.bit (sent content r p t) rest w.session i.ups e in
    dce_goes (record w { up = rest }) kept (in_up Dce (dce_in w Phase.Up).dce content r p)
    (lost_up (dce_in w Phase.Up) (sent content r p t) rest i)
    (goes_frame w.session (dce_in w Phase.Up).dce w.dte (w.dce_offered w.session) (w.dte_accepted w.session)
    (w.dte_offered w.session)
    (w.dce_accepted w.session) w.down Dce (sent content r p t) rest content r p e refl at.0 refl i.back i.out)
    at.1 (λ f a. let none = (i.setting f a).none_sent.0 in cc)

dce_takes_up : (w : World) (kept : List Bool) (rest : List Sent) (content : Content) (r p : Bool) (t : ℕ) →
    Inv (record (dce_in w Phase.Up) { up = sent content r p t ∷ rest }) →
    Inv (dce_does (dce_enters (record (dce_in w Phase.Up) { up = rest }) (sent content r p t)) kept
    (on_frame (dce_in w Phase.Up).dce (sent content r p t).frame))
dce_takes_up w kept rest Sabm r p t i = dce_enters_act (dce_in w Phase.Up) (sent Sabm r p t) rest kept i refl
dce_takes_up w kept rest Disc r p t i = absurd (i.ups.2)
dce_takes_up w kept rest Ua r p t i = absurd (i.ups.2)
dce_takes_up w kept rest (Frmr report) r p t i = absurd (i.ups.2)
dce_takes_up w kept rest Dm r p t i =
    dce_silent (record (dce_in w Phase.Up) { up = rest }) kept (lost_up (dce_in w Phase.Up) (sent Dm r p
    t) rest i)
dce_takes_up w kept rest (I ns nr packet) r p t i = dce_takes_numbered w kept rest (I ns
    nr packet) r p t refl i
dce_takes_up w kept rest (Rr nr) r p t i = dce_takes_numbered w kept rest (Rr nr) r p t
    refl i
dce_takes_up w kept rest (Rnr nr) r p t i = dce_takes_numbered w kept rest (Rnr nr)
    r p t refl i
dce_takes_up w kept rest (Rej nr) r p t i = dce_takes_numbered w kept rest (Rej nr) r p t refl i

dce_takes : (w : World) (kept : List Bool) (s : Sent) (rest : List Sent) → w.dce.role ≡ Dce → Inv (record w {
  up = s ∷
      rest;
}) →
    Inv (dce_does (dce_enters (record w { up = rest }) s) kept (on_frame w.dce s.frame))
dce_takes w kept s rest role i =
    by_dce (λ v. Inv (record v { up = s ∷ rest }) → Inv (dce_does (dce_enters (record v { up = rest }) s) kept
    (on_frame v.dce s.frame))) w role
    (dce_takes_down w kept rest s.frame.content s.frame.response s.frame.pf s.act)
    (λ j. absurd (j.dce_set refl))
    (dce_takes_up w kept rest s.frame.content s.frame.response s.frame.pf s.act)
    (λ j. absurd (j.dce_phase refl)) i

deliver_dce : (w : World) (kept : List Bool) (flow : List Sent) → w.up ≡ flow → Inv w → Inv (to_dce w kept flow)
deliver_dce w kept [] e i = i
deliver_dce w kept (s ∷ rest) e i = dce_takes w kept s rest i.dce_role (subst (λ (flow : List Sent). Inv (record w {
  up = flow;
})) e i)

-- ---- T1

dte_polls : (w : World) (kept : List Bool) → Inv (dte_in w Phase.Up) → Inv (dte_does (dte_in w Phase.Up) kept (poll
    (dte_in w Phase.Up).dte))
dte_polls w kept i =
    dte_goes w kept (poll (dte_in w Phase.Up).dte) w.dte.heard i
    (goes_poll w.session (dte_in w Phase.Up).dte w.dce (w.dte_offered w.session) (w.dce_accepted w.session)
    (w.dce_offered w.session)
    (w.dte_accepted w.session) w.up w.down refl i.out i.back)
    (elim i.again [ inl off ↦ inl off | inr f ↦ inr (refl, f) ])

dte_expires : (w : World) (kept : List Bool) → w.dte.role ≡ Dte → Inv w → Inv (dte_does w kept (on_t1 w.dte))
dte_expires w kept role i =
    by_dte (λ v. Inv v → Inv (dte_does v kept (on_t1 v.dte))) w role
    (λ j. cond_by (λ b. Inv (dte_does (dte_in w Phase.Down) kept
    (if b then expire_in Phase.Down (dte_in w Phase.Down).dte else still (dte_in w Phase.Down).dte))) w.dte.repeats
    (λ _. dte_declines w kept false j) (λ _. dte_silent (dte_in w Phase.Down) kept j))
    (λ j. dte_sets_again w kept j)
    (λ j. cond_by (λ b. Inv (dte_does (dte_in w Phase.Up) kept
    (if b then expire_in Phase.Up (dte_in w Phase.Up).dte else still (dte_in w Phase.Up).dte))) (runs (dte_in w
    Phase.Up).dte)
    (λ _. cond_by (λ b. Inv (dte_does (dte_in w Phase.Up) kept
    (if b then relink (dte_in w Phase.Up).dte else poll (dte_in w Phase.Up).dte))) (nat_le w.dte.n2 w.dte.polls)
    (λ _. dte_sets_up_from_up w kept j) (λ _. dte_polls w kept j))
    (λ _. dte_silent (dte_in w Phase.Up) kept j))
    (λ j. absurd (j.dte_phase refl)) i

-- a DCE that heard the DTE is set up no more in this act
heard-no_sabm : (w : World) → Inv (dce_in w Phase.Up) → w.dce.heard ≡ true → NoSabmOf w.session w.up
heard-no_sabm w i h = elim i.again [ inl off ↦ off | inr f ↦ absurd (let u = f.unheard refl in cc) ]

heard-not_setting : (w : World) → Inv (dce_in w Phase.Up) → w.dce.heard ≡ true → w.dte.phase ≡ Phase.SettingUp → w.act
    ≡ w.session → ⊥
heard-not_setting w i h e a = let u = (i.setting e a).fresh.unheard refl in cc

-- the same with the DCE's bit taken as read
abbrev hearing : World → World
hearing w = record w { dce = record w.dce { role = Dce; phase = Phase.Up; heard = true } }

dce_polls : (w : World) (kept : List Bool) → Inv (hearing w) → Inv (dce_does (hearing w) kept (poll (hearing w).dce))
dce_polls w kept i =
    dce_goes (hearing w) kept (poll (hearing w).dce) i
    (goes_poll w.session (hearing w).dce w.dte (w.dce_offered w.session) (w.dte_accepted w.session) (w.dte_offered
    w.session)
    (w.dce_accepted w.session) w.down w.up refl i.back i.out)
    (heard-no_sabm (hearing w) i refl) (heard-not_setting (hearing w) i refl)

dce_expires_up : (w : World) (kept : List Bool) → Inv (dce_in w Phase.Up) →
    Inv (dce_does (dce_in w Phase.Up) kept (on_t1 (dce_in w Phase.Up).dce))
dce_expires_up w kept i =
    cond_by (λ b. Inv (dce_does (dce_in w Phase.Up) kept
    (if b then expire_in Phase.Up (dce_in w Phase.Up).dce else still (dce_in w Phase.Up).dce))) (runs (dce_in w
    Phase.Up).dce)
    (λ r. cond_by (λ b. Inv (dce_does (dce_in w Phase.Up) kept
    (if b then relink (dce_in w Phase.Up).dce else poll (dce_in w Phase.Up).dce))) (nat_le w.dce.n2 w.dce.polls)
    (λ _. dce_declines (dce_in w Phase.Up) kept (disconnect (dce_in w Phase.Up).dce).link false i refl i.dce_k refl)
    (λ _. polls r))
    (λ _. dce_silent (dce_in w Phase.Up) kept i)
  where
    heard : runs (dce_in w Phase.Up).dce ≡ true → w.dce.heard ≡ true
    heard r = cond_by (λ b. w.dce.heard ≡ b → b ≡ true) w.dce.heard (λ _ _. refl)
        (λ e _. let m = i.mute refl e in absurd (silent w.dce.top w.dce.polling w.dce.busy m.none_sent m.no_poll
        m.free r)) refl
      where
        silent : (top : ℕ) (polling busy : Bool) → top ≡ 0 → polling ≡ false → busy ≡ false → nat_lt 0 top || polling
            || busy ≡ true → ⊥
        silent top polling busy e f g x =
            let y : false ≡ true =
            subst (λ (n : ℕ). nat_lt 0 n || false || false ≡ true) e
            (subst (λ b. nat_lt 0 top || b || false ≡ true) f (subst (λ b. nat_lt 0 top || polling || b ≡ true) g x))
            in
            cc

    polls : runs (dce_in w Phase.Up).dce ≡ true → Inv (dce_does (dce_in w Phase.Up) kept (poll (dce_in w
        Phase.Up).dce))
    polls r =
        let Q : Bool → Type 0 = λ b. Inv (record w { dce = record w.dce { role = Dce; phase = Phase.Up; heard = b } })
        →
        Inv (dce_does (record w { dce = record w.dce { role = Dce; phase = Phase.Up; heard = b } }) kept
        (poll (record w.dce { role = Dce; phase = Phase.Up; heard = b }))) in
        let q : Q w.dce.heard = subst Q (sym (heard r)) (dce_polls w kept) in
        q i

dce_expires : (w : World) (kept : List Bool) → w.dce.role ≡ Dce → Inv w → Inv (dce_does w kept (on_t1 w.dce))
dce_expires w kept role i =
    by_dce (λ v. Inv v → Inv (dce_does v kept (on_t1 v.dce))) w role
    (λ j. cond_by (λ b. Inv (dce_does (dce_in w Phase.Down) kept
    (if b then expire_in Phase.Down (dce_in w Phase.Down).dce else still (dce_in w Phase.Down).dce))) w.dce.repeats
    (λ _. dce_declines (dce_in w Phase.Down) kept (dce_in w Phase.Down).dce false j refl j.dce_k refl)
    (λ _. dce_silent (dce_in w Phase.Down) kept j))
    (λ j. absurd (j.dce_set refl))
    (λ j. dce_expires_up w kept j)
    (λ j. absurd (j.dce_phase refl)) i

-- ---- relinks

dte_relinks : (w : World) (kept : List Bool) → w.dte.role ≡ Dte → Inv w → Inv (dte_does w kept (relink w.dte))
dte_relinks w kept role i =
    by_dte (λ v. Inv v → Inv (dte_does v kept (relink v.dte))) w role
    (λ j. dte_sets_up_from_down w kept j)
    (λ j. dte_silent (dte_in w Phase.SettingUp) kept j)
    (λ j. dte_sets_up_from_up w kept j)
    (λ j. absurd (j.dte_phase refl)) i

dce_relinks : (w : World) (kept : List Bool) → w.dce.role ≡ Dce → Inv w → Inv (dce_does w kept (relink w.dce))
dce_relinks w kept role i =
    by_dce (λ v. Inv v → Inv (dce_does v kept (relink v.dce))) w role
    (λ j. dce_declines (dce_in w Phase.Down) kept (disconnect (dce_in w Phase.Down).dce).link false j refl j.dce_k
    refl)
    (λ j. absurd (j.dce_set refl))
    (λ j. dce_declines (dce_in w Phase.Up) kept (disconnect (dce_in w Phase.Up).dce).link false j refl j.dce_k refl)
    (λ j. absurd (j.dce_phase refl)) i

-- ---- the end of a node's event

dte_settles : (w : World) (kept : List Bool) → w.dte.role ≡ Dte → Inv w → Inv (dte_does w kept (settle w.dte))
dte_settles w kept role i =
    by_dte (λ v. Inv v → Inv (dte_does v kept (settle v.dte))) w role
    (λ j. dte_silent (dte_in w Phase.Down) kept j)
    (λ j. dte_silent (dte_in w Phase.SettingUp) kept j)
    (λ j. dte_goes w kept (settle (dte_in w Phase.Up).dte) w.dte.heard j
    (goes_settle w.session (dte_in w Phase.Up).dte w.dce (w.dte_offered w.session) (w.dce_accepted w.session)
    (w.dce_offered w.session)
    (w.dte_accepted w.session) w.up w.down refl j.out j.back)
    (elim j.again [ inl off ↦ inl off | inr f ↦ inr (accepts_none (dte_in w Phase.Up).dte, f) ]))
    (λ j. absurd (j.dte_phase refl)) i
  where
    sends_none : (l : Link) (packets : List Octets) → (send_all l packets).accepted ≡ None
    sends_none l [] = refl
    sends_none l (packet ∷ packets) = refl

    accepts_none : (l : Link) → (send_all l (sendable l)).accepted ≡ None
    accepts_none l = sends_none l (sendable l)

-- a DCE that has heard nothing and owes nothing
abbrev deaf : World → World
deaf w = record w { dce = record w.dce { role = Dce; phase = Phase.Up; heard = false; owed = false } }

dce_settles_up : (w : World) (kept : List Bool) (heard : Bool) → w.dce.heard ≡ heard → Inv (dce_in w Phase.Up) →
    Inv (dce_does (dce_in w Phase.Up) kept (settle (dce_in w Phase.Up).dce))
dce_settles_up w kept true h i =
    let Q : Bool → Type 0 = λ b. Inv (record w { dce = record w.dce { role = Dce; phase = Phase.Up; heard = b } }) →
    Inv (dce_does (record w { dce = record w.dce { role = Dce; phase = Phase.Up; heard = b } }) kept
    (settle (record w.dce { role = Dce; phase = Phase.Up; heard = b }))) in
    let q : Q w.dce.heard = subst Q (sym h) (λ j.
    dce_goes (hearing w) kept (settle (hearing w).dce) j
    (goes_settle w.session (hearing w).dce w.dte (w.dce_offered w.session) (w.dte_accepted w.session) (w.dte_offered
    w.session)
    (w.dce_accepted w.session) w.down w.up refl j.back j.out)
    (heard-no_sabm (hearing w) j refl) (heard-not_setting (hearing w) j refl)) in
    q i
dce_settles_up w kept false h i =
    let owed : w.dce.owed ≡ false = (i.mute refl h).not_owed in
    let Q : World → Type 0 = λ v. Inv v → Inv (dce_does v kept (settle v.dce)) in
    let back_h : false ≡ w.dce.heard = sym h in
    let back_o : false ≡ w.dce.owed = sym owed in
    let same : deaf w ≡ dce_in w Phase.Up =
    λ k. record w { dce = record w.dce { role = Dce; phase = Phase.Up; heard = back_h k; owed = back_o k } } in
    let q : Q (dce_in w Phase.Up) = subst Q same (λ j. dce_silent (deaf w) kept j) in
    q i

dce_settles : (w : World) (kept : List Bool) → w.dce.role ≡ Dce → Inv w → Inv (dce_does w kept (settle w.dce))
dce_settles w kept role i =
    by_dce (λ v. Inv v → Inv (dce_does v kept (settle v.dce))) w role
    (λ j. dce_silent (dce_in w Phase.Down) kept j)
    (λ j. absurd (j.dce_set refl))
    (λ j. dce_settles_up w kept w.dce.heard refl j)
    (λ j. absurd (j.dce_phase refl)) i

-- ---- every event

loses_down : (w : World) (flow : List Sent) → w.down ≡ flow → Inv w → Inv (record w { down = without_first flow })
loses_down w [] e i = subst (λ (flow : List Sent). Inv (record w { down = flow })) e i
loses_down w (s ∷ rest) e i = lost_down w s rest (subst (λ (flow : List Sent). Inv (record w { down = flow })) e i)

loses_up : (w : World) (flow : List Sent) → w.up ≡ flow → Inv w → Inv (record w { up = without_first flow })
loses_up w [] e i = subst (λ (flow : List Sent). Inv (record w { up = flow })) e i
loses_up w (s ∷ rest) e i = lost_up w s rest (subst (λ (flow : List Sent). Inv (record w { up = flow })) e i)

pub happens-keeps : (w : World) (event : Event) → Inv w → Inv (happens w event)
happens-keeps w (Offer Dte packet) i =
    by_dte (λ v. Inv v → Inv (happens v (Offer Dte packet))) w i.dte_role (λ j. j) (λ j. j) (λ j. dte_offers w packet
    j) (λ j. j) i
happens-keeps w (Offer Dce packet) i =
    by_dce (λ v. Inv v → Inv (happens v (Offer Dce packet))) w i.dce_role (λ j. j) (λ j. j) (λ j. dce_offers w packet
    j) (λ j. j) i
happens-keeps w (Deliver Dte kept) i = deliver_dte w kept w.down refl i
happens-keeps w (Deliver Dce kept) i = deliver_dce w kept w.up refl i
happens-keeps w (Lose Dte) i = loses_down w w.down refl i
happens-keeps w (Lose Dce) i = loses_up w w.up refl i
happens-keeps w (Expire Dte kept) i = dte_expires w kept i.dte_role i
happens-keeps w (Expire Dce kept) i = dce_expires w kept i.dce_role i
happens-keeps w (Relink Dte kept) i = dte_relinks w kept i.dte_role i
happens-keeps w (Relink Dce kept) i = dce_relinks w kept i.dce_role i
happens-keeps w (Settle Dte kept) i = dte_settles w kept i.dte_role i
happens-keeps w (Settle Dce kept) i = dce_settles w kept i.dce_role i
happens-keeps w (Restart Dte) i = dte_restarts w i
happens-keeps w (Restart Dce) i = dce_restarts w i

pub run-keeps : (events : List Event) (w : World) → Inv w → Inv (run events w)
run-keeps [] w i = i
run-keeps (event ∷ events) w i = run-keeps events (happens w event) (happens-keeps w event i)
