-- Every event of a line that loses nothing keeps what the expiries of T1 brought about, and each expiry brings it about.
use Rattle.std.specs.Prelude.{◌≡◌, ℕ, ◌≤◌, Bool, true, false, not, ◌&&◌, ◌||◌, ◌⊎◌, List, [], ◌∷◌, ◌++◌, drop}
use Rattle.std.specs.Prelude.{if◌then◌else◌, nat_le, nat_lt}
use Rattle.std.proofs.Common.{refl, sym, ◌∙◌, subst, inl, inr, arith, append-nil, ltb-false}
use Rattle.link_timers.specs.declared.role.Role.TheVariants.{Dte, Dce}
use Rattle.frame_codec.specs.Frame.{Content}
use Rattle.frame_codec.specs.Frame.Content.{I, Rr, Rnr, Rej, Sabm, Disc, Dm, Ua, Frmr}
use Rattle.lapb.specs.declared.phase.Phase.{Phase}
use Rattle.lapb.specs.Machine.{Link, Step, response, is_same, still, sends, set_up, disconnect, come_up}
use Rattle.lapb.specs.Machine.{poll, sendable, settle, relink, on_frame, on_t1, runs, expire_in, cleared}
use Rattle.lapb.specs.World.{Sent, World, Event, Offer, Deliver, Lose, Expire, Relink, Settle, Restart, stamped, to_dte}
use Rattle.lapb.specs.World.{to_dce, happens, run}
use Rattle.lapb.specs.Reach.{Reached}
use Rattle.lapb.proofs.Flights.{OfDown}
use Rattle.lapb.proofs.Inv.{Inv, dte_in, dce_in, by_dte, by_dce}
use Rattle.lapb.proofs.Reach.{reached_inv, reached_happens}
use Rattle.arrival_laws.specs.Arriving.{IsLossless, AllLossless, AreStarted, expiries}
use Rattle.arrival_laws.proofs.Frames.{cond_by, sets, is_dm, tells, as_sent}
use Rattle.arrival_laws.proofs.Going.{GoesDte, GoesDce, Kept, kept-same, kept-dte_takes, kept-dte_sets_up}
use Rattle.arrival_laws.proofs.Going.{kept-dte_comes_up, kept-dte_waits, kept-dte_asks_again, kept-dte_polls, kept-dte_ends}
use Rattle.arrival_laws.proofs.Going.{kept-dce_takes, kept-dce_enters, kept-dce_declines, kept-dce_asks, kept-dce_polls}
use Rattle.arrival_laws.proofs.Going.{kept-dce_ends, poll-due, goes-set_up, goes-again, goes-dte_polls, goes-dce_polls, goes-dce_asks}
use Rattle.arrival_laws.proofs.Heads.{dte_takes, dce_takes, all_told_dte, all_told_dce, oldest_dte, oldest_dce}
use Rattle.arrival_laws.proofs.Heads.{bounds_dte, bounds_dce}
use Rattle.arrival_laws.proofs.Well.{Well, reached_well}

abbrev pub OfDte : World → Type 0
OfDte w = GoesDte w.dte w.dce w.up w.down

abbrev pub OfDce : World → Type 0
OfDce w = GoesDce w.dte w.dce w.up w.down

-- a DTE that has not started is in no state of which anything is said
kept-not_started : (x x' y : Link) (up up' down down' : List Sent) → x.phase ≡ Phase.Down →
    Kept x y up down x' y up' down'
kept-not_started x x' y up up' down down' e = record {
  started_dte = λ s. absurd (s e);
  started_dce = λ s. s;
  dte = λ s. absurd (s e);
  dce = λ s. absurd (s e);
}

-- nothing is sent
kept-silent_up : (x y : Link) (up down : List Sent) → Kept x y up down x y (up ++ []) down
kept-silent_up x y up down = subst (λ (flow : List Sent). Kept x y up down x y flow down) (sym (append-nil up))
    (kept-same x y up down)

kept-silent_down : (x y : Link) (up down : List Sent) → Kept x y up down x y up (down ++ [])
kept-silent_down x y up down = subst (λ (flow : List Sent). Kept x y up down x y up flow) (sym (append-nil down))
    (kept-same x y up down)

pub which_sendable : (l : Link) → sendable l ≡ [] ⊎ (sendable l ≡ drop l.next l.queue)
which_sendable l = cond_by (λ b. ((if b then drop l.next l.queue else []) ≡ []) ⊎ ((if b then drop l.next l.queue else
    []) ≡ drop l.next l.queue)) (l.heard && not l.polling && not l.busy) (λ _. inr refl) (λ _. inl refl)

same-is : (a b : Bool) → is_same a b ≡ true → a ≡ b
same-is true b e = sym e
same-is false true e = absurd (cc)
same-is false false e = refl

not_both : (b p : Bool) → p ≡ b → p ≡ not b → ⊥
not_both true p e f = let x : true ≡ false = sym e ∙ f in cc
not_both false p e f = let x : false ≡ true = sym e ∙ f in cc

-- ---- the DTE takes a frame

abbrev DteTakes : World → Sent → List Sent → ℕ → Type 0
DteTakes v s rest t = Inv (record v { down = s ∷ rest }) →
    Kept v.dte v.dce v.up (s ∷ rest) (on_frame v.dte s.frame).link v.dce
    (v.up ++ stamped t (on_frame v.dte s.frame).frames) rest

module _ (w : World) (r p : Bool) (u : ℕ) (rest : List Sent) (t : ℕ) where
  -- a DCE whose UA brings the DTE up has sent nothing and does not poll
  mute : Inv (record (dte_in w Phase.SettingUp) { down = as_sent Ua r p u ∷ rest }) → is_same p w.dte.bit ≡ true →
      w.dce.phase ≡ Phase.Up → (w.dce.polling ≡ false) × (w.dce.next ≡ 0)
  mute i same up =
      let bit : p ≡ w.dte.bit = same-is p w.dte.bit same in
      let head : OfDown w.act w.dte.bit u Ua p = i.downs.2 in
      let of_act : u ≡ w.act = elim head [ inl a ↦ a.0 | inr b ↦ absurd (not_both w.dte.bit p bit b.1) ] in
      let low : u ≤ w.session = i.downs.1 in
      let high : w.session ≤ w.act = i.reached in
      let act_is : w.act ≡ w.session = omega arith in
      let unheard = (i.setting refl act_is).fresh.unheard up in
      let m = i.mute up unheard in
      let few : w.dce.next ≤ w.dce.top = (i.back.sends up).next_le in
      let none : w.dce.top ≡ 0 = m.none_sent in
      (m.no_poll, (omega arith))

  at_setting : (content : Content) → DteTakes (dte_in w Phase.SettingUp) (as_sent content r p u) rest t
  at_setting Ua i =
      let x : Link = (dte_in w Phase.SettingUp).dte in
      cond_by (λ b. Kept x w.dce w.up (as_sent Ua r p u ∷ rest) (if b then come_up x else still x).link w.dce
      (w.up ++ stamped t (if b then come_up x else still x).frames) rest) (is_same p w.dte.bit)
      (λ e. kept-dte_comes_up x w.dce (as_sent Ua r p u) w.up rest t (mute i e))
      (λ e. kept-dte_waits x w.dce (as_sent Ua r p u) w.up rest refl e)
  at_setting Dm i = kept-dte_waits (dte_in w Phase.SettingUp).dte w.dce (as_sent Dm r p u) w.up rest refl refl
  at_setting (I ns nr packet) i =
      kept-dte_waits (dte_in w Phase.SettingUp).dte w.dce (as_sent (I ns nr packet) r p u) w.up rest refl refl
  at_setting (Rr nr) i = kept-dte_waits (dte_in w Phase.SettingUp).dte w.dce (as_sent (Rr nr) r p u) w.up rest refl refl
  at_setting (Rnr nr) i =
      kept-dte_waits (dte_in w Phase.SettingUp).dte w.dce (as_sent (Rnr nr) r p u) w.up rest refl refl
  at_setting (Rej nr) i =
      kept-dte_waits (dte_in w Phase.SettingUp).dte w.dce (as_sent (Rej nr) r p u) w.up rest refl refl
  at_setting Sabm i = absurd (i.downs.2)
  at_setting Disc i = absurd (i.downs.2)
  at_setting (Frmr report) i = absurd (i.downs.2)

  taken : (content : Content) → is_dm (as_sent content r p u).frame ≡ false →
      DteTakes (dte_in w Phase.Up) (as_sent content r p u) rest t
  taken content off i =
      let k = dte_takes (dte_in w Phase.Up) r p u rest content i refl off in
      kept-dte_takes (dte_in w Phase.Up).dte w.dce (as_sent content r p u) w.up rest _ t refl k.took k.before k.after off

  at_up : (content : Content) → DteTakes (dte_in w Phase.Up) (as_sent content r p u) rest t
  at_up Dm i = kept-dte_sets_up (dte_in w Phase.Up).dte w.dce w.up (as_sent Dm r p u ∷ rest) rest t
  at_up Ua i = taken Ua refl i
  at_up (I ns nr packet) i = taken (I ns nr packet) refl i
  at_up (Rr nr) i = taken (Rr nr) refl i
  at_up (Rnr nr) i = taken (Rnr nr) refl i
  at_up (Rej nr) i = taken (Rej nr) refl i
  at_up Sabm i = absurd (i.downs.2)
  at_up Disc i = absurd (i.downs.2)
  at_up (Frmr report) i = absurd (i.downs.2)

dte_taken : (w : World) (s : Sent) (rest : List Sent) (t : ℕ) → w.dte.role ≡ Dte → DteTakes w s rest t
dte_taken w s rest t role =
    by_dte (λ v. DteTakes v s rest t) w role
    (λ i. kept-not_started (dte_in w Phase.Down).dte _ w.dce w.up _ (s ∷ rest) rest refl)
    (at_setting w s.frame.response s.frame.pf s.act rest t s.frame.content)
    (at_up w s.frame.response s.frame.pf s.act rest t s.frame.content)
    (λ i. absurd (i.dte_phase refl))

-- ---- the DCE takes a frame

abbrev DceTakes : World → Sent → List Sent → ℕ → Type 0
DceTakes v s rest t = Reached (record v { up = s ∷ rest }) → Inv (record v { up = s ∷ rest }) →
    Kept v.dte v.dce (s ∷ rest) v.down v.dte (on_frame v.dce s.frame).link rest
    (v.down ++ stamped t (on_frame v.dce s.frame).frames)

module _ (w : World) (r p : Bool) (u : ℕ) (rest : List Sent) (t : ℕ) where
  -- all that is on the way to a DCE that a SABM brought up tells it of nothing
  told_at : (phase : Phase) → (to_dce (record (dce_in w phase) { up = as_sent Sabm r p u ∷ rest }) []
      (as_sent Sabm r p u ∷ rest)).dce.top ≡ 0 → (to_dce (record (dce_in w phase) { up = as_sent Sabm r p u ∷ rest }) []
      (as_sent Sabm r p u ∷ rest)).dce.oldest ≡ 0 → (to_dce (record (dce_in w phase) { up = as_sent Sabm r p u ∷ rest }) []
      (as_sent Sabm r p u ∷ rest)).dce.phase ≡ Phase.Up →
      Reached (record (dce_in w phase) { up = as_sent Sabm r p u ∷ rest }) → w.dte.phase ≡ Phase.Up →
      tells 0 rest ≡ w.dte.expected
  told_at phase none zero up reached e =
      let v : World = to_dce (record (dce_in w phase) { up = as_sent Sabm r p u ∷ rest }) []
      (as_sent Sabm r p u ∷ rest) in
      let i : Inv v = reached_inv v (reached_happens (record (dce_in w phase) { up = as_sent Sabm r p u ∷ rest })
      (Deliver Dce []) reached) in
      all_told_dce rest v 0 i e up none (sym zero ∙ oldest_dce v i e up none)

  enters : (phase : Phase) (y : Link) → (Reached (record (dce_in w phase) { up = as_sent Sabm r p u ∷ rest }) →
      w.dte.phase ≡ Phase.Up → tells 0 rest ≡ w.dte.expected) →
      Reached (record (dce_in w phase) { up = as_sent Sabm r p u ∷ rest }) →
      Kept w.dte (dce_in w phase).dce (as_sent Sabm r p u ∷ rest) w.down w.dte (cleared y Phase.Up) rest
      (w.down ++ stamped t (response Ua p ∷ []))
  enters phase y told reached = kept-dce_enters w.dte (dce_in w phase).dce y r p u t rest w.down (told reached)

  declines : (content : Content) → sets (as_sent content r p u).frame ≡ false →
      Kept w.dte (dce_in w Phase.Down).dce (as_sent content r p u ∷ rest) w.down w.dte
      (if p && not r then sends (dce_in w Phase.Down).dce (response Dm true) else still (dce_in w Phase.Down).dce).link rest
      (w.down ++ stamped t (if p && not r then sends (dce_in w Phase.Down).dce (response Dm true) else still (dce_in w
      Phase.Down).dce).frames)
  declines content off =
      kept-dce_declines w.dte (dce_in w Phase.Down).dce (as_sent content r p u) (p && not r) rest w.down t refl off
      (poll-due content r p)

  dce_at_down : (content : Content) → DceTakes (dce_in w Phase.Down) (as_sent content r p u) rest t
  dce_at_down Sabm reached i = enters Phase.Down (dce_in w Phase.Down).dce (told_at Phase.Down refl refl refl) reached
  dce_at_down Dm reached i = declines Dm refl
  dce_at_down (I ns nr packet) reached i = declines (I ns nr packet) refl
  dce_at_down (Rr nr) reached i = declines (Rr nr) refl
  dce_at_down (Rnr nr) reached i = declines (Rnr nr) refl
  dce_at_down (Rej nr) reached i = declines (Rej nr) refl
  dce_at_down Ua reached i = absurd (i.ups.2)
  dce_at_down Disc reached i = absurd (i.ups.2)
  dce_at_down (Frmr report) reached i = absurd (i.ups.2)

  dce_taken_up : (content : Content) → sets (as_sent content r p u).frame ≡ false →
      DceTakes (dce_in w Phase.Up) (as_sent content r p u) rest t
  dce_taken_up content off reached i =
      let k = dce_takes (dce_in w Phase.Up) r p u rest content i refl off in
      kept-dce_takes w.dte (dce_in w Phase.Up).dce (as_sent content r p u) rest w.down _ t refl k.took k.before k.after off

  dce_at_up : (content : Content) → DceTakes (dce_in w Phase.Up) (as_sent content r p u) rest t
  dce_at_up Sabm reached i = enters Phase.Up (dce_in w Phase.Up).dce (told_at Phase.Up refl refl refl) reached
  dce_at_up Dm reached i = dce_taken_up Dm refl reached i
  dce_at_up (I ns nr packet) reached i = dce_taken_up (I ns nr packet) refl reached i
  dce_at_up (Rr nr) reached i = dce_taken_up (Rr nr) refl reached i
  dce_at_up (Rnr nr) reached i = dce_taken_up (Rnr nr) refl reached i
  dce_at_up (Rej nr) reached i = dce_taken_up (Rej nr) refl reached i
  dce_at_up Ua reached i = absurd (i.ups.2)
  dce_at_up Disc reached i = absurd (i.ups.2)
  dce_at_up (Frmr report) reached i = absurd (i.ups.2)

dce_taken : (w : World) (s : Sent) (rest : List Sent) (t : ℕ) → w.dce.role ≡ Dce → DceTakes w s rest t
dce_taken w s rest t role =
    by_dce (λ v. DceTakes v s rest t) w role
    (dce_at_down w s.frame.response s.frame.pf s.act rest t s.frame.content)
    (λ _ i. absurd (i.dce_set refl))
    (dce_at_up w s.frame.response s.frame.pf s.act rest t s.frame.content)
    (λ _ i. absurd (i.dce_phase refl))

-- ---- T1

abbrev DteDoes : World → (Link → Step) → ℕ → Type 0
DteDoes v call t = Kept v.dte v.dce v.up v.down (call v.dte).link v.dce (v.up ++ stamped t (call v.dte).frames) v.down

abbrev DceDoes : World → (Link → Step) → ℕ → Type 0
DceDoes v call t = Kept v.dte v.dce v.up v.down v.dte (call v.dce).link v.up (v.down ++ stamped t (call v.dce).frames)

dte_expires : (w : World) (t : ℕ) → w.dte.role ≡ Dte → Inv w → DteDoes w on_t1 t
dte_expires w t role =
    by_dte (λ v. Inv v → DteDoes v on_t1 t) w role
    (λ i. kept-not_started (dte_in w Phase.Down).dte _ w.dce w.up _ w.down w.down refl)
    (λ i. kept-dte_asks_again (dte_in w Phase.SettingUp).dte w.dce w.up w.down t refl)
    (λ i. let x : Link = (dte_in w Phase.Up).dte in
    cond_by (λ b. Kept x w.dce w.up w.down (if b then expire_in Phase.Up x else still x).link w.dce
    (w.up ++ stamped t (if b then expire_in Phase.Up x else still x).frames) w.down) (runs x)
    (λ _. cond_by (λ b. Kept x w.dce w.up w.down (if b then set_up x else poll x).link w.dce
    (w.up ++ stamped t (if b then set_up x else poll x).frames) w.down) (nat_le w.dte.n2 w.dte.polls)
    (λ _. kept-dte_sets_up x w.dce w.up w.down w.down t) (λ _. kept-dte_polls x w.dce w.up w.down t refl))
    (λ _. kept-silent_up x w.dce w.up w.down))
    (λ i. absurd (i.dte_phase refl))

dce_expires : (w : World) (t : ℕ) → w.dce.role ≡ Dce → Inv w → DceDoes w on_t1 t
dce_expires w t role =
    by_dce (λ v. Inv v → DceDoes v on_t1 t) w role
    (λ i. let y : Link = (dce_in w Phase.Down).dce in
    cond_by (λ b. Kept w.dte y w.up w.down w.dte (if b then expire_in Phase.Down y else still y).link w.up
    (w.down ++ stamped t (if b then expire_in Phase.Down y else still y).frames)) w.dce.repeats
    (λ _. kept-dce_asks w.dte y y w.up w.down t refl (λ s. s refl)) (λ _. kept-silent_down w.dte y w.up w.down))
    (λ i. absurd (i.dce_set refl))
    (λ i. let y : Link = (dce_in w Phase.Up).dce in
    cond_by (λ b. Kept w.dte y w.up w.down w.dte (if b then expire_in Phase.Up y else still y).link w.up
    (w.down ++ stamped t (if b then expire_in Phase.Up y else still y).frames)) (runs y)
    (λ _. cond_by (λ b. Kept w.dte y w.up w.down w.dte (if b then disconnect y else poll y).link w.up
    (w.down ++ stamped t (if b then disconnect y else poll y).frames)) (nat_le w.dce.n2 w.dce.polls)
    (λ _. kept-dce_asks w.dte y (disconnect y).link w.up w.down t refl (λ _. refl))
    (λ _. kept-dce_polls w.dte y w.up w.down t refl))
    (λ _. kept-silent_down w.dte y w.up w.down))
    (λ i. absurd (i.dce_phase refl))

-- ---- relinks, and ends of events

dte_relinks : (w : World) (t : ℕ) → w.dte.role ≡ Dte → Inv w → DteDoes w relink t
dte_relinks w t role =
    by_dte (λ v. Inv v → DteDoes v relink t) w role
    (λ i. kept-not_started (dte_in w Phase.Down).dte _ w.dce w.up _ w.down w.down refl)
    (λ i. kept-silent_up (dte_in w Phase.SettingUp).dte w.dce w.up w.down)
    (λ i. kept-dte_sets_up (dte_in w Phase.Up).dte w.dce w.up w.down w.down t)
    (λ i. absurd (i.dte_phase refl))

dce_relinks : (w : World) (t : ℕ) → w.dce.role ≡ Dce → Inv w → DceDoes w relink t
dce_relinks w t role =
    by_dce (λ v. Inv v → DceDoes v relink t) w role
    (λ i. kept-dce_asks w.dte (dce_in w Phase.Down).dce (disconnect (dce_in w Phase.Down).dce).link w.up w.down t refl
    (λ _. refl))
    (λ i. absurd (i.dce_set refl))
    (λ i. kept-dce_asks w.dte (dce_in w Phase.Up).dce (disconnect (dce_in w Phase.Up).dce).link w.up w.down t refl
    (λ _. refl))
    (λ i. absurd (i.dce_phase refl))

dte_ends : (w : World) (t : ℕ) → w.dte.role ≡ Dte → Reached w → Inv w → DteDoes w settle t
dte_ends w t role =
    by_dte (λ v. Reached v → Inv v → DteDoes v settle t) w role
    (λ _ i. kept-silent_up (dte_in w Phase.Down).dte w.dce w.up w.down)
    (λ _ i. kept-silent_up (dte_in w Phase.SettingUp).dte w.dce w.up w.down)
    (λ reached i. kept-dte_ends (dte_in w Phase.Up).dte w.dce (sendable (dte_in w Phase.Up).dte) w.up w.down t refl
    (which_sendable (dte_in w Phase.Up).dte) (λ up none. bounds_dte (dte_in w Phase.Up) reached refl up none))
    (λ _ i. absurd (i.dte_phase refl))

dce_ends : (w : World) (t : ℕ) → w.dce.role ≡ Dce → Reached w → Inv w → DceDoes w settle t
dce_ends w t role =
    by_dce (λ v. Reached v → Inv v → DceDoes v settle t) w role
    (λ _ i. kept-silent_down w.dte (dce_in w Phase.Down).dce w.up w.down)
    (λ _ i. absurd (i.dce_set refl))
    (λ reached i. kept-dce_ends w.dte (dce_in w Phase.Up).dce (sendable (dce_in w Phase.Up).dce) w.up w.down t refl
    (which_sendable (dce_in w Phase.Up).dce) (λ up. bounds_dce (dce_in w Phase.Up) reached up refl))
    (λ _ i. absurd (i.dce_phase refl))

-- ---- every event that loses nothing

abbrev KeptBy : World → World → Type 0
KeptBy v w = Kept v.dte v.dce v.up v.down w.dte w.dce w.up w.down

deliver_dte : (w : World) (flow : List Sent) → w.down ≡ flow → Inv w → KeptBy w (to_dte w [] flow)
deliver_dte w [] e i = kept-same w.dte w.dce w.up w.down
deliver_dte w (s ∷ rest) e i =
    subst (λ (flow : List Sent). Kept w.dte w.dce w.up flow (on_frame w.dte s.frame).link w.dce
    (to_dte w [] (s ∷ rest)).up rest) (sym e)
    (dte_taken w s rest _ i.dte_role (subst (λ (flow : List Sent). Inv (record w { down = flow })) e i))

deliver_dce : (w : World) (flow : List Sent) → w.up ≡ flow → Reached w → Inv w → KeptBy w (to_dce w [] flow)
deliver_dce w [] e reached i = kept-same w.dte w.dce w.up w.down
deliver_dce w (s ∷ rest) e reached i =
    subst (λ (flow : List Sent). Kept w.dte w.dce flow w.down w.dte (on_frame w.dce s.frame).link rest
    (to_dce w [] (s ∷ rest)).down) (sym e)
    (dce_taken w s rest _ i.dce_role (subst (λ (flow : List Sent). Reached (record w { up = flow })) e reached)
    (subst (λ (flow : List Sent). Inv (record w { up = flow })) e i))

kept-happens : (w : World) (event : Event) → IsLossless event → Reached w → Inv w → KeptBy w (happens w event)
kept-happens w (Offer Dte packet) l reached i = record {
  started_dte = λ s. s;
  started_dce = λ s. s;
  dte = λ _ g. record { setting = g.setting; up = g.up };
  dce = λ _ g. record { out = g.out; up = g.up };
}
kept-happens w (Offer Dce packet) l reached i = record {
  started_dte = λ s. s;
  started_dce = λ s. s;
  dte = λ _ g. record { setting = g.setting; up = g.up };
  dce = λ _ g. record { out = g.out; up = g.up };
}
kept-happens w (Deliver Dte kept) l reached i =
    subst (λ (ks : List Bool). KeptBy w (happens w (Deliver Dte ks))) (sym l) (deliver_dte w w.down refl i)
kept-happens w (Deliver Dce kept) l reached i =
    subst (λ (ks : List Bool). KeptBy w (happens w (Deliver Dce ks))) (sym l) (deliver_dce w w.up refl reached i)
kept-happens w (Lose to) l reached i = absurd l
kept-happens w (Expire Dte kept) l reached i =
    subst (λ (ks : List Bool). KeptBy w (happens w (Expire Dte ks))) (sym l) (dte_expires w _ i.dte_role i)
kept-happens w (Expire Dce kept) l reached i =
    subst (λ (ks : List Bool). KeptBy w (happens w (Expire Dce ks))) (sym l) (dce_expires w _ i.dce_role i)
kept-happens w (Relink Dte kept) l reached i =
    subst (λ (ks : List Bool). KeptBy w (happens w (Relink Dte ks))) (sym l) (dte_relinks w _ i.dte_role i)
kept-happens w (Relink Dce kept) l reached i =
    subst (λ (ks : List Bool). KeptBy w (happens w (Relink Dce ks))) (sym l) (dce_relinks w _ i.dce_role i)
kept-happens w (Settle Dte kept) l reached i =
    subst (λ (ks : List Bool). KeptBy w (happens w (Settle Dte ks))) (sym l) (dte_ends w _ i.dte_role reached i)
kept-happens w (Settle Dce kept) l reached i =
    subst (λ (ks : List Bool). KeptBy w (happens w (Settle Dce ks))) (sym l) (dce_ends w _ i.dce_role reached i)
kept-happens w (Restart at) l reached i = absurd l

-- ---- what an expiry of T1 brings about

-- T1 does not run in phase Up: nothing is unacknowledged, and no poll is outstanding
not_running : (top : ℕ) (polling busy : Bool) → nat_lt 0 top || polling || busy ≡ false → (top ≡ 0) × (polling ≡ false)
not_running top polling busy e =
    cond_by (λ b. b || polling || busy ≡ false → (top ≡ 0) × (polling ≡ false)) (nat_lt 0 top) (λ f g. absurd (cc))
    (λ f g. (let l = ltb-false 0 top f in omega arith, idle polling busy g)) e
  where
    idle : (a b : Bool) → a || b ≡ false → a ≡ false
    idle true b e = absurd (cc)
    idle false b e = refl

-- where T1 does not run all went its way before
idle_dte : (w : World) → Inv w → Well w → w.dte.phase ≡ Phase.Up → (w.dte.top ≡ 0) × (w.dte.polling ≡ false) → OfDte w
idle_dte w i wl up none = record {
  setting = λ e. absurd (let z : Phase.Up ≡ Phase.SettingUp = sym up ∙ e in cc);
  up = λ _. inr (
    elim (wl.sabm up) [ inl off ↦ off | inr p ↦ absurd (let z : true ≡ false = sym p ∙ none.1 in cc) ],
    λ up'. record {
      told = inl (all_told_dte w.down w w.dte.oldest i up up' none.0 (oldest_dte w i up up' none.0));
      sure = inr (record {
        quiet = none.1;
        comes = inl (let l = (i.out.sends up).next_le in let z : w.dte.top ≡ 0 = none.0 in omega arith);
      });
    },
  );
}

idle_dce : (w : World) → Inv w → w.dce.phase ≡ Phase.Up → (w.dce.top ≡ 0) × (w.dce.polling ≡ false) → OfDce w
idle_dce w i up' none = record {
  out = λ e. absurd (let z : Phase.Up ≡ Phase.Down = sym up' ∙ e in cc);
  up = λ _ up _. inr (record {
    told = inl (all_told_dce w.up w w.dce.oldest i up up' none.0 (oldest_dce w i up up' none.0));
    sure = inr (record {
      quiet = none.1;
      comes = inl (let l = (i.back.sends up').next_le in let z : w.dce.top ≡ 0 = none.0 in omega arith);
    });
  });
}

abbrev DteExpired : World → ℕ → Type 0
DteExpired v t = GoesDte (on_t1 v.dte).link v.dce (v.up ++ stamped t (on_t1 v.dte).frames) v.down

abbrev DceExpired : World → ℕ → Type 0
DceExpired v t = GoesDce v.dte (on_t1 v.dce).link v.up (v.down ++ stamped t (on_t1 v.dce).frames)

dte_expired : (w : World) (t : ℕ) → w.dte.role ≡ Dte → Inv w → Well w → (w.dte.phase ≡ Phase.Down → ⊥) → DteExpired w t
dte_expired w t role =
    by_dte (λ v. Inv v → Well v → (v.dte.phase ≡ Phase.Down → ⊥) → DteExpired v t) w role
    (λ i wl s. absurd (s refl))
    (λ i wl s. goes-again (dte_in w Phase.SettingUp).dte w.dce w.up w.down t refl)
    (λ i wl s. let x : Link = (dte_in w Phase.Up).dte in
    cond_by (λ b. GoesDte (if b then expire_in Phase.Up x else still x).link w.dce
    (w.up ++ stamped t (if b then expire_in Phase.Up x else still x).frames) w.down) (runs x)
    (λ _. cond_by (λ b. GoesDte (if b then set_up x else poll x).link w.dce
    (w.up ++ stamped t (if b then set_up x else poll x).frames) w.down) (nat_le w.dte.n2 w.dte.polls)
    (λ _. goes-set_up x w.dce w.up w.down t) (λ _. goes-dte_polls x w.dce w.up w.down t refl))
    (λ e. subst (λ (flow : List Sent). GoesDte x w.dce flow w.down) (sym (append-nil w.up))
    (idle_dte (dte_in w Phase.Up) i wl refl (not_running w.dte.top w.dte.polling w.dte.busy e))))
    (λ i wl s. absurd (i.dte_phase refl))

dce_expired : (w : World) (t : ℕ) → w.dce.role ≡ Dce → Inv w → (w.dce.phase ≡ Phase.Down → w.dce.repeats ≡ true) →
    DceExpired w t
dce_expired w t role =
    by_dce (λ v. Inv v → (v.dce.phase ≡ Phase.Down → v.dce.repeats ≡ true) → DceExpired v t) w role
    (λ i s. let y : Link = (dce_in w Phase.Down).dce in
    cond_by (λ b. w.dce.repeats ≡ b → GoesDce w.dte (if b then expire_in Phase.Down y else still y).link w.up
    (w.down ++ stamped t (if b then expire_in Phase.Down y else still y).frames)) w.dce.repeats
    (λ _ _. goes-dce_asks w.dte y w.up w.down t refl) (λ e _. absurd (let z : true ≡ false = sym (s refl) ∙ e in cc)) refl)
    (λ i s. absurd (i.dce_set refl))
    (λ i s. let y : Link = (dce_in w Phase.Up).dce in
    cond_by (λ b. GoesDce w.dte (if b then expire_in Phase.Up y else still y).link w.up
    (w.down ++ stamped t (if b then expire_in Phase.Up y else still y).frames)) (runs y)
    (λ _. cond_by (λ b. GoesDce w.dte (if b then disconnect y else poll y).link w.up
    (w.down ++ stamped t (if b then disconnect y else poll y).frames)) (nat_le w.dce.n2 w.dce.polls)
    (λ _. goes-dce_asks w.dte (disconnect y).link w.up w.down t refl) (λ _. goes-dce_polls w.dte y w.up w.down t refl))
    (λ e. subst (λ (flow : List Sent). GoesDce w.dte y w.up flow) (sym (append-nil w.down))
    (idle_dce (dce_in w Phase.Up) i refl (not_running w.dce.top w.dce.polling w.dce.busy e))))
    (λ i s. absurd (i.dce_phase refl))

-- ---- all of them

-- T1 of an end is still to expire, or what it brings about is there
pub record State (w : World) (events : List Event) : Type 0 where
  pub reached : Reached w
  pub started : AreStarted w
  pub dte : (1 ≤ expiries Dte events) ⊎ OfDte w
  pub dce : (1 ≤ expiries Dce events) ⊎ OfDce w

after_dte : (w : World) (event : Event) (events : List Event) → IsLossless event → Inv w → Well w → AreStarted w →
    (OfDte w → OfDte (happens w event)) → (1 ≤ expiries Dte (event ∷ events)) ⊎ OfDte w →
    (1 ≤ expiries Dte events) ⊎ OfDte (happens w event)
after_dte w (Expire Dte kept) events l i wl s keeps g =
    inr (subst (λ (ks : List Bool). OfDte (happens w (Expire Dte ks))) (sym l) (dte_expired w _ i.dte_role i wl s.dte))
after_dte w (Expire Dce kept) events l i wl s keeps g = elim g [ inl n ↦ inl (omega arith) | inr k ↦ inr (keeps k) ]
after_dte w (Offer at packet) events l i wl s keeps g = elim g [ inl n ↦ inl (omega arith) | inr k ↦ inr (keeps k) ]
after_dte w (Deliver to kept) events l i wl s keeps g = elim g [ inl n ↦ inl (omega arith) | inr k ↦ inr (keeps k) ]
after_dte w (Lose to) events l i wl s keeps g = absurd l
after_dte w (Relink at kept) events l i wl s keeps g = elim g [ inl n ↦ inl (omega arith) | inr k ↦ inr (keeps k) ]
after_dte w (Settle at kept) events l i wl s keeps g = elim g [ inl n ↦ inl (omega arith) | inr k ↦ inr (keeps k) ]
after_dte w (Restart at) events l i wl s keeps g = absurd l

after_dce : (w : World) (event : Event) (events : List Event) → IsLossless event → Inv w → AreStarted w →
    (OfDce w → OfDce (happens w event)) → (1 ≤ expiries Dce (event ∷ events)) ⊎ OfDce w →
    (1 ≤ expiries Dce events) ⊎ OfDce (happens w event)
after_dce w (Expire Dce kept) events l i s keeps g =
    inr (subst (λ (ks : List Bool). OfDce (happens w (Expire Dce ks))) (sym l) (dce_expired w _ i.dce_role i s.dce))
after_dce w (Expire Dte kept) events l i s keeps g = elim g [ inl n ↦ inl (omega arith) | inr k ↦ inr (keeps k) ]
after_dce w (Offer at packet) events l i s keeps g = elim g [ inl n ↦ inl (omega arith) | inr k ↦ inr (keeps k) ]
after_dce w (Deliver to kept) events l i s keeps g = elim g [ inl n ↦ inl (omega arith) | inr k ↦ inr (keeps k) ]
after_dce w (Lose to) events l i s keeps g = absurd l
after_dce w (Relink at kept) events l i s keeps g = elim g [ inl n ↦ inl (omega arith) | inr k ↦ inr (keeps k) ]
after_dce w (Settle at kept) events l i s keeps g = elim g [ inl n ↦ inl (omega arith) | inr k ↦ inr (keeps k) ]
after_dce w (Restart at) events l i s keeps g = absurd l

pub run-state : (events : List Event) (w : World) → AllLossless events → State w events → State (run events w) []
run-state [] w l s = s
run-state (event ∷ events) w l s =
    let i = reached_inv w s.reached in
    let k = kept-happens w event l.0 s.reached i in
    run-state events (happens w event) l.1 (record {
      reached = reached_happens w event s.reached;
      started = record { dte = k.started_dte s.started.dte; dce = k.started_dce s.started.dce };
      dte = after_dte w event events l.0 i (reached_well w s.reached) s.started (k.dte s.started.dte) s.dte;
      dce = after_dce w event events l.0 i s.started (k.dce s.started.dte) s.dce;
    })
