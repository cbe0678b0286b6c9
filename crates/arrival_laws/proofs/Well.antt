-- What every state meets, with losses and restarts: no RNR, an end that is up beside one that has not heard it polls.
use Rattle.std.specs.Prelude.{◌≡◌, ℕ, ◌<◌, ◌≤◌, Bool, true, false, not, ◌&&◌, ◌||◌, ◌⊎◌, List, [], ◌∷◌, ◌++◌}
use Rattle.std.specs.Prelude.{if◌then◌else◌, ◌==◌, nat_le, nat_lt}
use Rattle.std.proofs.Common.{refl, sym, ◌∙◌, subst, inl, inr, arith, append-nil, eqb-true}
use Rattle.std.proofs.lemmas.Bool.{eqb-false}
use Rattle.link_timers.specs.declared.role.Role.TheVariants.{Dte, Dce}
use Rattle.frame_codec.specs.Frame.{FrameValue, Content}
use Rattle.frame_codec.specs.Frame.Content.{I, Rr, Rnr, Rej, Sabm, Disc, Dm, Ua, Frmr}
use Rattle.lapb.specs.declared.phase.Phase.{Phase}
use Rattle.lapb.specs.declared.link.LinkParams.{LinkParams}
use Rattle.lapb.specs.Machine.{Octets, Link, Step, response, command, is_same, still, sends, cleared, set_up, disconnect}
use Rattle.lapb.specs.Machine.{come_up, poll, send_all, sendable, settle, relink, on_frame, on_t1, runs, expire_in, first_phase}
use Rattle.lapb.specs.World.{Sent, World, Event, Offer, Deliver, Lose, Expire, Relink, Settle, Restart, stamped, kept_of}
use Rattle.lapb.specs.World.{to_dte, to_dce, without_first, happens, run, opening}
use Rattle.lapb.specs.Reach.{Reached}
use Rattle.lapb.proofs.Flights as flights
use Rattle.lapb.proofs.Flights.{Flight, flight-append, NoSabmOf, Ups, none_of-later}
use Rattle.lapb.proofs.Inv.{Inv, dte_in, dce_in, by_dte, by_dce}
use Rattle.lapb.proofs.Reach.{reached_inv, reached_happens, reached_opening}
use Rattle.arrival_laws.proofs.Frames.{cond_by, sets, is_rnr, is_rnr_of, is_dm, has_number_of, NotAny, none-more}
use Rattle.arrival_laws.proofs.Frames.{NoneOf, none-kept, as_sent}
use Rattle.arrival_laws.proofs.Took.{Took}
use Rattle.arrival_laws.proofs.Going.{none-sent, sent-phase}
use Rattle.arrival_laws.proofs.Heads.{dte_takes, dce_takes}

-- no frame of act c on the way has a number
abbrev pub NoNumbers : ℕ → List Sent → Type 0
NoNumbers c = Flight (λ s. s.act ≡ c → has_number_of s.frame.content ≡ false)

-- over the parts of a world: the DTE x, the DCE y, the frames on the way, the DCE's session c
pub record Well' (x y : Link) (up down : List Sent) (c : ℕ) : Type 0 where
  pub no_rnr_up : NotAny is_rnr up
  pub no_rnr_down : NotAny is_rnr down
  pub dte_free : x.busy ≡ false
  pub dce_free : y.busy ≡ false
  pub hears : x.phase ≡ Phase.Up → x.heard ≡ true
  pub sabm : x.phase ≡ Phase.Up → NotAny sets up ⊎ (x.polling ≡ true)
  pub silent : y.phase ≡ Phase.Up → y.heard ≡ false → NoNumbers c down
  pub asked : x.phase ≡ Phase.Up → y.phase ≡ Phase.Up → y.heard ≡ false → x.polling ≡ true

abbrev pub Well : World → Type 0
Well w = Well' w.dte w.dce w.up w.down w.session

-- ---- what a step of the DTE changes

-- what it says of the DTE after it, which sends these frames and was in this state before
pub record FineDte (x x' : Link) (frames : List FrameValue) : Type 0 where
  pub no_rnr : NoneOf is_rnr frames
  pub free : x'.busy ≡ false
  pub hears : x'.phase ≡ Phase.Up → x'.heard ≡ true
  pub sabm : x'.phase ≡ Phase.Up → (x'.polling ≡ true) ⊎ ((x.phase ≡ Phase.Up) × (x'.polling ≡ x.polling) × NoneOf sets
      frames)

well-dte : (x x' y : Link) (up down down' : List Sent) (c t : ℕ) (kept : List Bool) (frames : List FrameValue) →
    NotAny is_rnr down' → (y.phase ≡ Phase.Up → y.heard ≡ false → NoNumbers c down') → FineDte x x' frames →
    Well' x y up down c → Well' x' y (up ++ stamped t (kept_of kept frames)) down' c
well-dte x x' y up down down' c t kept frames no_rnr silent f w = record {
  no_rnr_up = none-more is_rnr up (stamped t (kept_of kept frames)) w.no_rnr_up (none-kept is_rnr t kept frames f.no_rnr);
  no_rnr_down = no_rnr;
  dte_free = f.free;
  dce_free = w.dce_free;
  hears = f.hears;
  sabm = λ e. elim (f.sabm e) [
    | inl p ↦ inr p
    | inr q ↦ elim (w.sabm q.0) [
      | inl none ↦ inl (none-more sets up (stamped t (kept_of kept frames)) none (none-kept sets t kept frames q.2))
      | inr p ↦ inr (q.1 ∙ p)
    ]
  ];
  silent = silent;
  asked = λ e g h. elim (f.sabm e) [ inl p ↦ p | inr q ↦ q.1 ∙ w.asked q.0 g h ];
}

-- the same by a frame with a number, of a DCE that has been heard if it is up, or of no SABM on the way
well-dte_takes : (x y : Link) (content : Content) (r p : Bool) (step : Step) (up : List Sent) (s : Sent)
    (rest : List Sent) (c v t : ℕ) (kept : List Bool) → x.phase ≡ Phase.Up → Took x content r p v step →
    is_rnr_of content ≡ false → NotAny sets up → (y.phase ≡ Phase.Up → y.heard ≡ false → ⊥) →
    Well' x y up (s ∷ rest) c → Well' step.link y (up ++ stamped t (kept_of kept step.frames)) rest c
well-dte_takes x y content r p step up s rest c v t kept is_up took off none heard w = record {
  no_rnr_up = none-more is_rnr up (stamped t (kept_of kept step.frames)) w.no_rnr_up
      (none-kept is_rnr t kept step.frames took.plain.no_rnr);
  no_rnr_down = w.no_rnr_down.1;
  dte_free = took.busy off w.dte_free;
  dce_free = w.dce_free;
  hears = λ _. took.heard (w.hears is_up);
  sabm = λ _. inl (none-more sets up (stamped t (kept_of kept step.frames)) none
      (none-kept sets t kept step.frames took.plain.no_sabm));
  silent = λ g h. (w.silent g h).1;
  asked = λ _ g h. absurd (heard g h);
}

-- ---- what a step of the DCE changes

well-dce : (x y y' : Link) (up up' down : List Sent) (c t : ℕ) (kept : List Bool) (frames : List FrameValue) →
    NotAny is_rnr up' → (NotAny sets up → NotAny sets up') → NoneOf is_rnr frames → y'.busy ≡ false →
    (y'.phase ≡ Phase.Up → y'.heard ≡ false → ⊥) → Well' x y up down c →
    Well' x y' up' (down ++ stamped t (kept_of kept frames)) c
well-dce x y y' up up' down c t kept frames no_rnr fewer none free heard w = record {
  no_rnr_up = no_rnr;
  no_rnr_down = none-more is_rnr down (stamped t (kept_of kept frames)) w.no_rnr_down (none-kept is_rnr t kept frames none);
  dte_free = w.dte_free;
  dce_free = free;
  hears = w.hears;
  sabm = λ e. elim (w.sabm e) [ inl off ↦ inl (fewer off) | inr p ↦ inr p ];
  silent = λ g h. absurd (heard g h);
  asked = λ _ g h. absurd (heard g h);
}

-- a DCE that sends nothing, and is as it was
well-dce_still : (x y : Link) (up up' down : List Sent) (c t : ℕ) (kept : List Bool) → NotAny is_rnr up' →
    (NotAny sets up → NotAny sets up') → Well' x y up down c → Well' x y up' (down ++ stamped t (kept_of kept [])) c
well-dce_still x y up up' down c t kept no_rnr fewer w =
    subst (λ (fs : List FrameValue). Well' x y up' (down ++ stamped t fs) c) (sym (nothing kept))
    (subst (λ (flow : List Sent). Well' x y up' flow c) (sym (append-nil down)) (record {
      no_rnr_up = no_rnr;
      no_rnr_down = w.no_rnr_down;
      dte_free = w.dte_free;
      dce_free = w.dce_free;
      hears = w.hears;
      sabm = λ e. elim (w.sabm e) [ inl off ↦ inl (fewer off) | inr p ↦ inr p ];
      silent = w.silent;
      asked = w.asked;
    }))
  where
    nothing : (ks : List Bool) → kept_of ks [] ≡ []
    nothing [] = refl
    nothing (true ∷ ks) = refl
    nothing (false ∷ ks) = refl

-- ---- each event

-- a DTE that stays as it was, and sends neither RNR nor, if it is up, a SABM
fine-same : (x x' : Link) (frames : List FrameValue) → x'.busy ≡ x.busy → x'.phase ≡ x.phase → x'.heard ≡ x.heard →
    x'.polling ≡ x.polling → NoneOf is_rnr frames → (x.phase ≡ Phase.Up → NoneOf sets frames) → x.busy ≡ false →
    (x.phase ≡ Phase.Up → x.heard ≡ true) → FineDte x x' frames
fine-same x x' frames busy phase heard polling none none' free hears = record {
  no_rnr = none;
  free = busy ∙ free;
  hears = λ e. heard ∙ hears (sym phase ∙ e);
  sabm = λ e. inr (sym phase ∙ e, polling, none' (sym phase ∙ e));
}

fine-set_up : (x : Link) → FineDte x (set_up x).link (set_up x).frames
fine-set_up x = record { no_rnr = (refl, tt); free = refl; hears = λ e. absurd (cc); sabm = λ e. absurd (cc) }

fine-come_up : (x : Link) → FineDte x (come_up x).link (come_up x).frames
fine-come_up x = record { no_rnr = (refl, tt); free = refl; hears = λ _. refl; sabm = λ _. inl refl }

fine-poll : (x : Link) → x.busy ≡ false → (x.phase ≡ Phase.Up → x.heard ≡ true) → FineDte x (poll x).link (poll x).frames
fine-poll x free hears = record { no_rnr = (refl, tt); free = free; hears = hears; sabm = λ _. inl refl }

-- nothing, or a DM
fine-polite : (x : Link) (due : Bool) → x.busy ≡ false → (x.phase ≡ Phase.Up → x.heard ≡ true) →
    FineDte x (if due then sends x (response Dm true) else still x).link
    (if due then sends x (response Dm true) else still x).frames
fine-polite x true free hears = fine-same x x _ refl refl refl refl (refl, tt) (λ _. (refl, tt)) free hears
fine-polite x false free hears = fine-same x x _ refl refl refl refl tt (λ _. tt) free hears

fine-ends : (x : Link) (packets : List Octets) → x.phase ≡ Phase.Up → x.busy ≡ false →
    (x.phase ≡ Phase.Up → x.heard ≡ true) → FineDte x (send_all x packets).link (send_all x packets).frames
fine-ends x packets up free hears =
    fine-same x (send_all x packets).link (send_all x packets).frames (busy packets) (sent-phase x packets)
    (heard packets) (polling packets) (none-sent is_rnr (λ ns nr packet. refl) (λ nr. refl) x packets)
    (λ _. none-sent sets (λ ns nr packet. refl) (λ nr. refl) x packets) free hears
  where
    busy : (ps : List Octets) → (send_all x ps).link.busy ≡ x.busy
    busy [] = refl
    busy (p ∷ ps) = refl

    heard : (ps : List Octets) → (send_all x ps).link.heard ≡ x.heard
    heard [] = refl
    heard (p ∷ ps) = refl

    polling : (ps : List Octets) → (send_all x ps).link.polling ≡ x.polling
    polling [] = refl
    polling (p ∷ ps) = refl

-- ---- SABMs and numbers of the session

-- beside a DTE that is up all frames on the way to the DCE are of its session
none_at_all : (c n : ℕ) (p : Bool) (lo : ℕ) (up : List Sent) → Ups c n p lo up → c ≤ lo → n ≡ c → NoSabmOf c up →
    NotAny sets up
none_at_all c n p lo [] u le e none = tt
none_at_all c n p lo (s ∷ rest) u le e none =
    let l1 : lo ≤ s.act = u.0 in let l2 : s.act ≤ n = u.1 in
    let same : s.act ≡ c = omega arith in
    (none.0 same, none_at_all c n p s.act rest u.3 (omega arith) e none.1)

module _ (c : ℕ) where
  no_number : (content : Content) (r p : Bool) (t : ℕ) (rest : List Sent) → flights.NoneOf c (as_sent content r p t ∷ rest) →
      t ≡ c → has_number_of content ≡ false
  no_number (I ns nr packet) r p t rest n at = absurd (let z = n.0 at in cc)
  no_number (Rr nr) r p t rest n at = absurd (let z = n.0 at in cc)
  no_number (Rnr nr) r p t rest n at = absurd (let z = n.0 at in cc)
  no_number (Rej nr) r p t rest n at = absurd (let z = n.0 at in cc)
  no_number Sabm r p t rest n at = refl
  no_number Disc r p t rest n at = refl
  no_number Dm r p t rest n at = refl
  no_number Ua r p t rest n at = refl
  no_number (Frmr report) r p t rest n at = refl

  no_numbers : (flow : List Sent) → flights.NoneOf c flow → NoNumbers c flow
  no_numbers [] n = tt
  no_numbers (s ∷ rest) n =
      (λ at. no_number s.frame.content s.frame.response s.frame.pf s.act rest n at, no_numbers rest n.1)

-- ---- the DTE takes a frame

abbrev DteTakes : World → Sent → List Sent → List Bool → ℕ → Type 0
DteTakes v s rest kept t = Inv (record v { down = s ∷ rest }) → Well' v.dte v.dce v.up (s ∷ rest) v.session →
    Well' (on_frame v.dte s.frame).link v.dce (v.up ++ stamped t (kept_of kept (on_frame v.dte s.frame).frames)) rest
    v.session

module _ (w : World) (r p : Bool) (u : ℕ) (rest : List Sent) (kept : List Bool) (t : ℕ) where
  by_fine : (content : Content) (x x' : Link) (frames : List FrameValue) → FineDte x x' frames →
      Well' x w.dce w.up (as_sent content r p u ∷ rest) w.session →
      Well' x' w.dce (w.up ++ stamped t (kept_of kept frames)) rest w.session
  by_fine content x x' frames f wl =
      well-dte x x' w.dce w.up (as_sent content r p u ∷ rest) rest w.session t kept frames wl.no_rnr_down.1
      (λ g h. (wl.silent g h).1) f wl

  at_down : (content : Content) → DteTakes (dte_in w Phase.Down) (as_sent content r p u) rest kept t
  at_down Dm i wl = by_fine Dm (dte_in w Phase.Down).dte _ _ (fine-set_up (dte_in w Phase.Down).dte) wl
  at_down Ua i wl = by_fine Ua _ _ _ (fine-polite (dte_in w Phase.Down).dte (p && not r) wl.dte_free wl.hears) wl
  at_down (I ns nr packet) i wl = by_fine (I ns nr packet) _ _ _ (fine-polite (dte_in w Phase.Down).dte (p && not r)
      wl.dte_free wl.hears) wl
  at_down (Rr nr) i wl = by_fine (Rr nr) _ _ _ (fine-polite (dte_in w Phase.Down).dte (p && not r) wl.dte_free wl.hears)
      wl
  at_down (Rnr nr) i wl = by_fine (Rnr nr) _ _ _ (fine-polite (dte_in w Phase.Down).dte (p && not r) wl.dte_free
      wl.hears) wl
  at_down (Rej nr) i wl = by_fine (Rej nr) _ _ _ (fine-polite (dte_in w Phase.Down).dte (p && not r) wl.dte_free
      wl.hears) wl
  at_down Sabm i wl = absurd (i.downs.2)
  at_down Disc i wl = absurd (i.downs.2)
  at_down (Frmr report) i wl = absurd (i.downs.2)

  ignores : (content : Content) → Well' (dte_in w Phase.SettingUp).dte w.dce w.up (as_sent content r p u ∷ rest)
      w.session → Well' (dte_in w Phase.SettingUp).dte w.dce (w.up ++ stamped t (kept_of kept [])) rest w.session
  ignores content wl = by_fine content _ _ _ (fine-polite (dte_in w Phase.SettingUp).dte false wl.dte_free wl.hears) wl

  at_setting : (content : Content) → DteTakes (dte_in w Phase.SettingUp) (as_sent content r p u) rest kept t
  at_setting Ua i wl =
      let x : Link = (dte_in w Phase.SettingUp).dte in
      cond_by (λ b. Well' (if b then come_up x else still x).link w.dce (w.up ++ stamped t (kept_of kept
      (if b then come_up x else still x).frames)) rest w.session) (is_same p w.dte.bit)
      (λ _. by_fine Ua x _ _ (fine-come_up x) wl) (λ _. ignores Ua wl)
  at_setting Dm i wl = ignores Dm wl
  at_setting (I ns nr packet) i wl = ignores (I ns nr packet) wl
  at_setting (Rr nr) i wl = ignores (Rr nr) wl
  at_setting (Rnr nr) i wl = ignores (Rnr nr) wl
  at_setting (Rej nr) i wl = ignores (Rej nr) wl
  at_setting Sabm i wl = absurd (i.downs.2)
  at_setting Disc i wl = absurd (i.downs.2)
  at_setting (Frmr report) i wl = absurd (i.downs.2)

  -- a frame with a number, which no fresh DCE sent
  takes : (content : Content) → has_number_of content ≡ true → is_dm (as_sent content r p u).frame ≡ false →
      Inv (record (dte_in w Phase.Up) { down = as_sent content r p u ∷ rest }) →
      Well' (dte_in w Phase.Up).dte w.dce w.up (as_sent content r p u ∷ rest) w.session →
      Well' (on_frame (dte_in w Phase.Up).dte (as_sent content r p u).frame).link w.dce
      (w.up ++ stamped t (kept_of kept (on_frame (dte_in w Phase.Up).dte (as_sent content r p u).frame).frames)) rest
      w.session
  takes content e off i wl =
      let k = dte_takes (dte_in w Phase.Up) r p u rest content i refl off in
      let j = i.up_in refl in
      let at : u ≡ w.session = j.of_it.0 in
      let none : NotAny sets w.up = elim i.again [
        | inl n ↦ none_at_all w.session w.act w.dte.bit w.session w.up i.ups (omega arith) j.act_is n
        | inr f ↦ absurd (let z : true ≡ false = sym e ∙ no_number w.session content r p u rest f.none at in cc)
      ] in
      well-dte_takes (dte_in w Phase.Up).dte w.dce content r p _ w.up (as_sent content r p u) rest w.session _ t kept
      refl k.took wl.no_rnr_down.0 none (λ g h. let z : true ≡ false = sym e ∙ (wl.silent g h).0 at in cc) wl

  at_up : (content : Content) → DteTakes (dte_in w Phase.Up) (as_sent content r p u) rest kept t
  at_up Dm i wl = by_fine Dm (dte_in w Phase.Up).dte _ _ (fine-set_up (dte_in w Phase.Up).dte) wl
  at_up Ua i wl = by_fine Ua _ _ _ (fine-polite (dte_in w Phase.Up).dte false wl.dte_free wl.hears) wl
  at_up (I ns nr packet) i wl = takes (I ns nr packet) refl refl i wl
  at_up (Rr nr) i wl = takes (Rr nr) refl refl i wl
  at_up (Rnr nr) i wl = takes (Rnr nr) refl refl i wl
  at_up (Rej nr) i wl = takes (Rej nr) refl refl i wl
  at_up Sabm i wl = absurd (i.downs.2)
  at_up Disc i wl = absurd (i.downs.2)
  at_up (Frmr report) i wl = absurd (i.downs.2)

dte_taken : (w : World) (s : Sent) (rest : List Sent) (kept : List Bool) (t : ℕ) → w.dte.role ≡ Dte →
    DteTakes w s rest kept t
dte_taken w s rest kept t role =
    by_dte (λ v. DteTakes v s rest kept t) w role
    (at_down w s.frame.response s.frame.pf s.act rest kept t s.frame.content)
    (at_setting w s.frame.response s.frame.pf s.act rest kept t s.frame.content)
    (at_up w s.frame.response s.frame.pf s.act rest kept t s.frame.content)
    (λ i wl. absurd (i.dte_phase refl))

-- ---- the DCE takes a frame

abbrev DceTakes : World → Sent → List Sent → List Bool → ℕ → Type 0
DceTakes v s rest kept t = Inv (record v { up = s ∷ rest }) → Well' v.dte v.dce (s ∷ rest) v.down v.session →
    Well' v.dte (on_frame v.dce s.frame).link rest (v.down ++ stamped t (kept_of kept (on_frame v.dce s.frame).frames))
    (if sets s.frame then s.act else v.session)

-- nothing of the act of a SABM that comes to the DCE is on the way to the DTE
none_of_act : (w : World) (s : Sent) (rest : List Sent) → Inv (record w { up = s ∷ rest }) → sets s.frame ≡ true →
    NoNumbers s.act w.down
none_of_act w s rest i is =
    cond_by (λ _. NoNumbers s.act w.down) (s.act == w.session)
    (λ e. let same = eqb-true s.act w.session e in
    subst (λ c. NoNumbers c w.down) (sym same) (elim i.again [
      | inl off ↦ absurd (let z : true ≡ false = sym is ∙ off.0 same in cc)
      | inr f ↦ no_numbers w.session w.down f.none
    ]))
    (λ e. let other = eqb-false s.act w.session e in
    no_numbers s.act w.down (none_of-later w.session s.act w.act w.dte.bit 0 w.down (more s.act w.session i.ups.0 other)
    i.downs))
  where
    more : (t c : ℕ) → c ≤ t → (t ≡ c → ⊥) → c < t
    more t c le other = grind arith

numbers-more : (c t : ℕ) (down : List Sent) (frames : List FrameValue) → NoNumbers c down →
    NoNumbers c (stamped t frames) → NoNumbers c (down ++ stamped t frames)
numbers-more c t down frames n m =
    flight-append (λ s. s.act ≡ c → has_number_of s.frame.content ≡ false) down (stamped t frames) n m

well-enters : (w : World) (r p : Bool) (u t : ℕ) (rest : List Sent) (kept : List Bool) (y : Link) →
    Inv (record w { up = as_sent Sabm r p u ∷ rest }) → Well' w.dte w.dce (as_sent Sabm r p u ∷ rest) w.down w.session →
    Well' w.dte (cleared y Phase.Up) rest (w.down ++ stamped t (kept_of kept (response Ua p ∷ []))) u
well-enters w r p u t rest kept y i wl = record {
  no_rnr_up = wl.no_rnr_up.1;
  no_rnr_down = none-more is_rnr w.down (stamped t (kept_of kept (response Ua p ∷ []))) wl.no_rnr_down
      (none-kept is_rnr t kept (response Ua p ∷ []) (refl, tt));
  dte_free = wl.dte_free;
  dce_free = refl;
  hears = wl.hears;
  sabm = λ e. elim (wl.sabm e) [ inl off ↦ absurd (let z = off.0 in cc) | inr q ↦ inr q ];
  silent = λ _ _. numbers-more u t w.down (kept_of kept (response Ua p ∷ []))
      (none_of_act w (as_sent Sabm r p u) rest i refl) (ua_only kept);
  asked = λ e _ _. elim (wl.sabm e) [ inl off ↦ absurd (let z = off.0 in cc) | inr q ↦ q ];
}
  where
    ua_only : (ks : List Bool) → NoNumbers u (stamped t (kept_of ks (response Ua p ∷ [])))
    ua_only [] = (λ _. refl, tt)
    ua_only (true ∷ []) = (λ _. refl, tt)
    ua_only (true ∷ (true ∷ ks)) = (λ _. refl, tt)
    ua_only (true ∷ (false ∷ ks)) = (λ _. refl, tt)
    ua_only (false ∷ []) = tt
    ua_only (false ∷ (true ∷ ks)) = tt
    ua_only (false ∷ (false ∷ ks)) = tt

module _ (w : World) (r p : Bool) (u : ℕ) (rest : List Sent) (kept : List Bool) (t : ℕ) where
  -- a DCE that is down: nothing, or a DM
  declines : (content : Content) (due : Bool) → sets (as_sent content r p u).frame ≡ false →
      Well' w.dte (dce_in w Phase.Down).dce (as_sent content r p u ∷ rest) w.down w.session →
      Well' w.dte (if due then sends (dce_in w Phase.Down).dce (response Dm true) else still (dce_in w
      Phase.Down).dce).link rest (w.down ++ stamped t (kept_of kept (if due then sends (dce_in w Phase.Down).dce
      (response Dm true) else still (dce_in w Phase.Down).dce).frames)) w.session
  declines content true off wl =
      well-dce w.dte (dce_in w Phase.Down).dce (dce_in w Phase.Down).dce (as_sent content r p u ∷ rest) rest w.down
      w.session t kept (response Dm true ∷ []) wl.no_rnr_up.1 (λ n. n.1) (refl, tt) wl.dce_free (λ e h. cc) wl
  declines content false off wl =
      well-dce w.dte (dce_in w Phase.Down).dce (dce_in w Phase.Down).dce (as_sent content r p u ∷ rest) rest w.down
      w.session t kept [] wl.no_rnr_up.1 (λ n. n.1) tt wl.dce_free (λ e h. cc) wl

  dce_at_down : (content : Content) → DceTakes (dce_in w Phase.Down) (as_sent content r p u) rest kept t
  dce_at_down Sabm i wl = well-enters (dce_in w Phase.Down) r p u t rest kept (dce_in w Phase.Down).dce i wl
  dce_at_down Dm i wl = declines Dm (p && not r) refl wl
  dce_at_down (I ns nr packet) i wl = declines (I ns nr packet) (p && not r) refl wl
  dce_at_down (Rr nr) i wl = declines (Rr nr) (p && not r) refl wl
  dce_at_down (Rnr nr) i wl = declines (Rnr nr) (p && not r) refl wl
  dce_at_down (Rej nr) i wl = declines (Rej nr) (p && not r) refl wl
  dce_at_down Ua i wl = absurd (i.ups.2)
  dce_at_down Disc i wl = absurd (i.ups.2)
  dce_at_down (Frmr report) i wl = absurd (i.ups.2)

  hears_it : (content : Content) → has_number_of content ≡ true → sets (as_sent content r p u).frame ≡ false →
      Inv (record (dce_in w Phase.Up) { up = as_sent content r p u ∷ rest }) →
      Well' w.dte (dce_in w Phase.Up).dce (as_sent content r p u ∷ rest) w.down w.session →
      Well' w.dte (on_frame (dce_in w Phase.Up).dce (as_sent content r p u).frame).link rest
      (w.down ++ stamped t (kept_of kept (on_frame (dce_in w Phase.Up).dce (as_sent content r p u).frame).frames))
      w.session
  hears_it content e off i wl =
      let k = dce_takes (dce_in w Phase.Up) r p u rest content i refl off in
      let step : Step = on_frame (dce_in w Phase.Up).dce (as_sent content r p u).frame in
      well-dce w.dte (dce_in w Phase.Up).dce step.link (as_sent content r p u ∷ rest) rest w.down w.session t kept
      step.frames wl.no_rnr_up.1 (λ n. n.1) k.took.plain.no_rnr (k.took.busy wl.no_rnr_up.0 wl.dce_free)
      (λ _ h. let z : true ≡ false = sym (k.took.hears e) ∙ h in cc) wl

  dce_at_up : (content : Content) → DceTakes (dce_in w Phase.Up) (as_sent content r p u) rest kept t
  dce_at_up Sabm i wl = well-enters (dce_in w Phase.Up) r p u t rest kept (dce_in w Phase.Up).dce i wl
  dce_at_up Dm i wl = well-dce_still w.dte (dce_in w Phase.Up).dce (as_sent Dm r p u ∷ rest) rest w.down w.session t kept
      wl.no_rnr_up.1 (λ n. n.1) wl
  dce_at_up (I ns nr packet) i wl = hears_it (I ns nr packet) refl refl i wl
  dce_at_up (Rr nr) i wl = hears_it (Rr nr) refl refl i wl
  dce_at_up (Rnr nr) i wl = hears_it (Rnr nr) refl refl i wl
  dce_at_up (Rej nr) i wl = hears_it (Rej nr) refl refl i wl
  dce_at_up Ua i wl = absurd (i.ups.2)
  dce_at_up Disc i wl = absurd (i.ups.2)
  dce_at_up (Frmr report) i wl = absurd (i.ups.2)

dce_taken : (w : World) (s : Sent) (rest : List Sent) (kept : List Bool) (t : ℕ) → w.dce.role ≡ Dce →
    DceTakes w s rest kept t
dce_taken w s rest kept t role =
    by_dce (λ v. DceTakes v s rest kept t) w role
    (dce_at_down w s.frame.response s.frame.pf s.act rest kept t s.frame.content)
    (λ i wl. absurd (i.dce_set refl))
    (dce_at_up w s.frame.response s.frame.pf s.act rest kept t s.frame.content)
    (λ i wl. absurd (i.dce_phase refl))

-- ---- the other steps of the DTE

-- a step that sends this, while no frame is taken
abbrev DteDoes : World → (Link → Step) → List Bool → ℕ → Type 0
DteDoes v call kept t = Inv v → Well v →
    Well' (call v.dte).link v.dce (v.up ++ stamped t (kept_of kept (call v.dte).frames)) v.down v.session

module _ (w : World) (kept : List Bool) (t : ℕ) where
  does : (x x' : Link) (frames : List FrameValue) → FineDte x x' frames → Well' x w.dce w.up w.down w.session →
      Well' x' w.dce (w.up ++ stamped t (kept_of kept frames)) w.down w.session
  does x x' frames f wl =
      well-dte x x' w.dce w.up w.down w.down w.session t kept frames wl.no_rnr_down wl.silent f wl

  stays : (x : Link) → Well' x w.dce w.up w.down w.session →
      Well' x w.dce (w.up ++ stamped t (kept_of kept [])) w.down w.session
  stays x wl = does x x [] (fine-polite x false wl.dte_free wl.hears) wl

  dte_t1_down : DteDoes (dte_in w Phase.Down) on_t1 kept t
  dte_t1_down i wl =
      let x : Link = (dte_in w Phase.Down).dte in
      cond_by (λ b. Well' (if b then expire_in Phase.Down x else still x).link w.dce (w.up ++ stamped t (kept_of kept
      (if b then expire_in Phase.Down x else still x).frames)) w.down w.session) w.dte.repeats
      (λ _. does x x (response Dm false ∷ []) (fine-same x x _ refl refl refl refl (refl, tt) (λ _. (refl, tt)) wl.dte_free
      wl.hears) wl) (λ _. stays x wl)

  dte_t1_setting : DteDoes (dte_in w Phase.SettingUp) on_t1 kept t
  dte_t1_setting i wl =
      let x : Link = (dte_in w Phase.SettingUp).dte in
      does x x (command Sabm x.bit ∷ []) (fine-same x x _ refl refl refl refl (refl, tt) (λ e. absurd (cc)) wl.dte_free
      wl.hears) wl

  dte_t1_up : DteDoes (dte_in w Phase.Up) on_t1 kept t
  dte_t1_up i wl =
      let x : Link = (dte_in w Phase.Up).dte in
      cond_by (λ b. Well' (if b then expire_in Phase.Up x else still x).link w.dce (w.up ++ stamped t (kept_of kept
      (if b then expire_in Phase.Up x else still x).frames)) w.down w.session) (runs x)
      (λ _. cond_by (λ b. Well' (if b then set_up x else poll x).link w.dce (w.up ++ stamped t (kept_of kept
      (if b then set_up x else poll x).frames)) w.down w.session) (nat_le w.dte.n2 w.dte.polls)
      (λ _. does x _ _ (fine-set_up x) wl) (λ _. does x _ _ (fine-poll x wl.dte_free wl.hears) wl))
      (λ _. stays x wl)

  dte_ends_up : DteDoes (dte_in w Phase.Up) settle kept t
  dte_ends_up i wl =
      let x : Link = (dte_in w Phase.Up).dte in
      does x _ _ (fine-ends x (sendable x) refl wl.dte_free wl.hears) wl

  dte_expired : w.dte.role ≡ Dte → DteDoes w on_t1 kept t
  dte_expired role = by_dte (λ v. DteDoes v on_t1 kept t) w role dte_t1_down dte_t1_setting dte_t1_up
      (λ i wl. absurd (i.dte_phase refl))

  dte_relinked : w.dte.role ≡ Dte → DteDoes w relink kept t
  dte_relinked role = by_dte (λ v. DteDoes v relink kept t) w role
      (λ i wl. does (dte_in w Phase.Down).dte _ _ (fine-set_up (dte_in w Phase.Down).dte) wl)
      (λ i wl. stays (dte_in w Phase.SettingUp).dte wl)
      (λ i wl. does (dte_in w Phase.Up).dte _ _ (fine-set_up (dte_in w Phase.Up).dte) wl)
      (λ i wl. absurd (i.dte_phase refl))

  dte_ended : w.dte.role ≡ Dte → DteDoes w settle kept t
  dte_ended role = by_dte (λ v. DteDoes v settle kept t) w role
      (λ i wl. stays (dte_in w Phase.Down).dte wl)
      (λ i wl. stays (dte_in w Phase.SettingUp).dte wl)
      dte_ends_up
      (λ i wl. absurd (i.dte_phase refl))

-- ---- and of the DCE

abbrev DceDoes : World → (Link → Step) → List Bool → ℕ → Type 0
DceDoes v call kept t = Inv v → Well v →
    Well' v.dte (call v.dce).link v.up (v.down ++ stamped t (kept_of kept (call v.dce).frames)) v.session

-- a DCE that has not heard the DTE sends nothing at the end of an event, and its T1 does not run
unheard-not_run : (top : ℕ) (polling busy : Bool) → top ≡ 0 → polling ≡ false → busy ≡ false →
    nat_lt 0 top || polling || busy ≡ true → ⊥
unheard-not_run top polling busy e f g x =
    let y : false ≡ true = subst (λ (n : ℕ). nat_lt 0 n || false || false ≡ true) e
    (subst (λ b. nat_lt 0 top || b || false ≡ true) f (subst (λ b. nat_lt 0 top || polling || b ≡ true) g x)) in cc

module _ (w : World) (kept : List Bool) (t : ℕ) where
  dce_does : (y y' : Link) (frames : List FrameValue) → NoneOf is_rnr frames → y'.busy ≡ false →
      (y'.phase ≡ Phase.Up → y'.heard ≡ false → ⊥) → Well' w.dte y w.up w.down w.session →
      Well' w.dte y' w.up (w.down ++ stamped t (kept_of kept frames)) w.session
  dce_does y y' frames none free heard wl =
      well-dce w.dte y y' w.up w.up w.down w.session t kept frames wl.no_rnr_up (λ n. n) none free heard wl

  dce_stays : (y : Link) → Well' w.dte y w.up w.down w.session →
      Well' w.dte y w.up (w.down ++ stamped t (kept_of kept [])) w.session
  dce_stays y wl = well-dce_still w.dte y w.up w.up w.down w.session t kept wl.no_rnr_up (λ n. n) wl

  dce_t1_down : DceDoes (dce_in w Phase.Down) on_t1 kept t
  dce_t1_down i wl =
      let y : Link = (dce_in w Phase.Down).dce in
      cond_by (λ b. Well' w.dte (if b then expire_in Phase.Down y else still y).link w.up (w.down ++ stamped t
      (kept_of kept (if b then expire_in Phase.Down y else still y).frames)) w.session) w.dce.repeats
      (λ _. dce_does y y (response Dm false ∷ []) (refl, tt) wl.dce_free (λ e h. cc) wl) (λ _. dce_stays y wl)

  -- a DCE whose T1 runs has heard the DTE
  heard_by : (y : Link) → (y.heard ≡ false → (y.top ≡ 0) × (y.polling ≡ false) × (y.busy ≡ false)) →
      nat_lt 0 y.top || y.polling || y.busy ≡ true → y.heard ≡ false → ⊥
  heard_by y mute e h = let m = mute h in unheard-not_run y.top y.polling y.busy m.0 m.1 m.2 e

  dce_t1_up : DceDoes (dce_in w Phase.Up) on_t1 kept t
  dce_t1_up i wl =
      let y : Link = (dce_in w Phase.Up).dce in
      cond_by (λ b. Well' w.dte (if b then expire_in Phase.Up y else still y).link w.up (w.down ++ stamped t (kept_of kept
      (if b then expire_in Phase.Up y else still y).frames)) w.session) (runs y)
      (λ ran. cond_by (λ b. Well' w.dte (if b then disconnect y else poll y).link w.up (w.down ++ stamped t (kept_of kept
      (if b then disconnect y else poll y).frames)) w.session) (nat_le w.dce.n2 w.dce.polls)
      (λ _. dce_does y _ _ (refl, tt) refl (λ e h. cc) wl)
      (λ _. dce_does y _ _ (refl, tt) wl.dce_free (λ _ h. heard_by y (λ g. let m = i.mute refl g in (
        m.none_sent,
        m.no_poll,
        m.free,
      )) ran h) wl))
      (λ _. dce_stays y wl)

  -- the end of an event of a DCE that is up, by whether it has heard the DTE
  dce_ends_up : DceDoes (dce_in w Phase.Up) settle kept t
  dce_ends_up i wl =
      let y : Link = (dce_in w Phase.Up).dce in
      cond_by (λ b. w.dce.heard ≡ b → Well' w.dte (settle y).link w.up (w.down ++ stamped t (kept_of kept
      (settle y).frames)) w.session) w.dce.heard
      (λ h _. dce_does y (settle y).link (settle y).frames (none-sent is_rnr (λ ns nr packet. refl) (λ nr. refl) y
      (sendable y)) (busy (sendable y) ∙ wl.dce_free) (λ _ off. let z : true ≡ false = sym h ∙ sym (heard (sendable y)) ∙
      off in cc) wl)
      (λ h _. quiet h (i.mute refl h).not_owed wl) refl
    where
      busy : (ps : List Octets) → (send_all (dce_in w Phase.Up).dce ps).link.busy ≡ w.dce.busy
      busy [] = refl
      busy (p ∷ ps) = refl

      heard : (ps : List Octets) → (send_all (dce_in w Phase.Up).dce ps).link.heard ≡ w.dce.heard
      heard [] = refl
      heard (p ∷ ps) = refl

      -- one that has not sends nothing, and is as before
      quiet : w.dce.heard ≡ false → w.dce.owed ≡ false →
          Well' w.dte (dce_in w Phase.Up).dce w.up w.down w.session →
          Well' w.dte (settle (dce_in w Phase.Up).dce).link w.up (w.down ++ stamped t (kept_of kept
          (settle (dce_in w Phase.Up).dce).frames)) w.session
      quiet h o wl =
          let back_h : false ≡ w.dce.heard = sym h in
          let back_o : false ≡ w.dce.owed = sym o in
          let deaf : Link = record w.dce { role = Dce; phase = Phase.Up; heard = false; owed = false } in
          let same : deaf ≡ (dce_in w Phase.Up).dce =
          λ k. record w.dce { role = Dce; phase = Phase.Up; heard = back_h k; owed = back_o k } in
          let Q : Link → Type 0 = λ y. Well' w.dte y w.up w.down w.session → Well' w.dte (settle y).link w.up
          (w.down ++ stamped t (kept_of kept (settle y).frames)) w.session in
          let q : Q (dce_in w Phase.Up).dce = subst Q same (λ v. dce_stays deaf v) in
          q wl

  dce_expired : w.dce.role ≡ Dce → DceDoes w on_t1 kept t
  dce_expired role = by_dce (λ v. DceDoes v on_t1 kept t) w role dce_t1_down (λ i wl. absurd (i.dce_set refl)) dce_t1_up
      (λ i wl. absurd (i.dce_phase refl))

  dce_relinked : w.dce.role ≡ Dce → DceDoes w relink kept t
  dce_relinked role = by_dce (λ v. DceDoes v relink kept t) w role
      (λ i wl. dce_does (dce_in w Phase.Down).dce _ _ (refl, tt) refl (λ e h. cc) wl)
      (λ i wl. absurd (i.dce_set refl))
      (λ i wl. dce_does (dce_in w Phase.Up).dce _ _ (refl, tt) refl (λ e h. cc) wl)
      (λ i wl. absurd (i.dce_phase refl))

  dce_ended : w.dce.role ≡ Dce → DceDoes w settle kept t
  dce_ended role = by_dce (λ v. DceDoes v settle kept t) w role
      (λ i wl. dce_stays (dce_in w Phase.Down).dce wl)
      (λ i wl. absurd (i.dce_set refl))
      dce_ends_up
      (λ i wl. absurd (i.dce_phase refl))

-- ---- every event

deliver_dte : (w : World) (kept : List Bool) (flow : List Sent) → w.down ≡ flow → Inv w → Well w → Well (to_dte w kept
    flow)
deliver_dte w kept [] e i wl = wl
deliver_dte w kept (s ∷ rest) e i wl =
    dte_taken w s rest kept _ i.dte_role (subst (λ (flow : List Sent). Inv (record w { down = flow })) e i)
    (subst (λ (flow : List Sent). Well' w.dte w.dce w.up flow w.session) e wl)

deliver_dce : (w : World) (kept : List Bool) (flow : List Sent) → w.up ≡ flow → Inv w → Well w → Well (to_dce w kept
    flow)
deliver_dce w kept [] e i wl = wl
deliver_dce w kept (s ∷ rest) e i wl =
    dce_taken w s rest kept _ i.dce_role (subst (λ (flow : List Sent). Inv (record w { up = flow })) e i)
    (subst (λ (flow : List Sent). Well' w.dte w.dce flow w.down w.session) e wl)

lose_down : (w : World) (flow : List Sent) → Well' w.dte w.dce w.up flow w.session →
    Well' w.dte w.dce w.up (without_first flow) w.session
lose_down w [] wl = wl
lose_down w (s ∷ rest) wl = record {
  no_rnr_up = wl.no_rnr_up;
  no_rnr_down = wl.no_rnr_down.1;
  dte_free = wl.dte_free;
  dce_free = wl.dce_free;
  hears = wl.hears;
  sabm = wl.sabm;
  silent = λ g h. (wl.silent g h).1;
  asked = wl.asked;
}

lose_up : (w : World) (flow : List Sent) → Well' w.dte w.dce flow w.down w.session →
    Well' w.dte w.dce (without_first flow) w.down w.session
lose_up w [] wl = wl
lose_up w (s ∷ rest) wl = record {
  no_rnr_up = wl.no_rnr_up.1;
  no_rnr_down = wl.no_rnr_down;
  dte_free = wl.dte_free;
  dce_free = wl.dce_free;
  hears = wl.hears;
  sabm = λ e. elim (wl.sabm e) [ inl off ↦ inl off.1 | inr p ↦ inr p ];
  silent = wl.silent;
  asked = wl.asked;
}

well-happens : (w : World) (event : Event) → Inv w → Well w → Well (happens w event)
well-happens w (Offer Dte packet) i wl = record {
  no_rnr_up = wl.no_rnr_up;
  no_rnr_down = wl.no_rnr_down;
  dte_free = wl.dte_free;
  dce_free = wl.dce_free;
  hears = wl.hears;
  sabm = wl.sabm;
  silent = wl.silent;
  asked = wl.asked;
}
well-happens w (Offer Dce packet) i wl = record {
  no_rnr_up = wl.no_rnr_up;
  no_rnr_down = wl.no_rnr_down;
  dte_free = wl.dte_free;
  dce_free = wl.dce_free;
  hears = wl.hears;
  sabm = wl.sabm;
  silent = wl.silent;
  asked = wl.asked;
}
well-happens w (Deliver Dte kept) i wl = deliver_dte w kept w.down refl i wl
well-happens w (Deliver Dce kept) i wl = deliver_dce w kept w.up refl i wl
well-happens w (Lose Dte) i wl = lose_down w w.down wl
well-happens w (Lose Dce) i wl = lose_up w w.up wl
well-happens w (Expire Dte kept) i wl = dte_expired w kept _ i.dte_role i wl
well-happens w (Expire Dce kept) i wl = dce_expired w kept _ i.dce_role i wl
well-happens w (Relink Dte kept) i wl = dte_relinked w kept _ i.dte_role i wl
well-happens w (Relink Dce kept) i wl = dce_relinked w kept _ i.dce_role i wl
well-happens w (Settle Dte kept) i wl = dte_ended w kept _ i.dte_role i wl
well-happens w (Settle Dce kept) i wl = dce_ended w kept _ i.dce_role i wl
well-happens w (Restart Dte) i wl = record {
  no_rnr_up = tt;
  no_rnr_down = tt;
  dte_free = refl;
  dce_free = wl.dce_free;
  hears = λ e. absurd (cc);
  sabm = λ e. absurd (cc);
  silent = λ g h. tt;
  asked = λ e. absurd (cc);
}
well-happens w (Restart Dce) i wl = record {
  no_rnr_up = tt;
  no_rnr_down = tt;
  dte_free = wl.dte_free;
  dce_free = refl;
  hears = wl.hears;
  sabm = λ e. inl tt;
  silent = λ g h. tt;
  asked = λ e g. absurd (cc);
}

first-heard : (standing : Bool) → first_phase standing ≡ Phase.Up → standing ≡ true
first-heard true e = refl
first-heard false e = absurd (cc)

opening-well : (standing : Bool) (dte dce : LinkParams) → Well (opening standing dte dce)
opening-well standing dte dce = record {
  no_rnr_up = tt;
  no_rnr_down = tt;
  dte_free = refl;
  dce_free = refl;
  hears = λ e. first-heard standing e;
  sabm = λ e. inl tt;
  silent = λ g h. tt;
  asked = λ e g h. absurd (let z : true ≡ false = sym (first-heard standing g) ∙ h in cc);
}

run-well : (events : List Event) (w : World) → Reached w → Well w → Well (run events w)
run-well [] w r wl = wl
run-well (event ∷ events) w r wl =
    run-well events (happens w event) (reached_happens w event r) (well-happens w event (reached_inv w r) wl)

pub reached_well : (w : World) → Reached w → Well w
reached_well w r =
    subst Well r.leads (run-well r.events (opening r.standing r.dte r.dce) (reached_opening r.standing r.dte r.dce
    r.dte_window r.dce_window) (opening-well r.standing r.dte r.dce))
