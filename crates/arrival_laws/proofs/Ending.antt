-- Deliveries come to an end: each makes a line lighter, and the end of an event makes it no heavier.
use Rattle.std.specs.Prelude.{◌≡◌, ℕ, ◌+◌, ◌-◌, ◌*◌, ◌<◌, ◌≤◌, Bool, true, false, not, ◌&&◌, List, [], ◌∷◌}
use Rattle.std.specs.Prelude.{◌++◌, length, Option, Some, None, if◌then◌else◌, ◌==◌}
use Rattle.std.proofs.Common.{refl, sym, ap, ◌∙◌, subst, inl, inr, arith, length-append, length-drop, eqb-true}
use Rattle.std.proofs.lemmas.Bool.{eqb-false}
use Rattle.link_timers.specs.declared.role.Role.{Role}
use Rattle.link_timers.specs.declared.role.Role.TheVariants.{Dte, Dce}
use Rattle.frame_codec.specs.Frame.{FrameValue, Content}
use Rattle.frame_codec.specs.Frame.Content.{I, Rr, Rnr, Rej, Sabm, Disc, Dm, Ua, Frmr}
use Rattle.lapb.specs.declared.phase.Phase.{Phase}
use Rattle.lapb.specs.Machine.{Octets, Link, Step, response, is_same, still, sends, cleared, set_up, come_up}
use Rattle.lapb.specs.Machine.{send_all, sendable, settle, on_frame, is_up, in_up}
use Rattle.lapb.specs.Named.{with_packet}
use Rattle.lapb.specs.World.{Sent, World, Deliver, Settle, stamped, logged, emptied, act_after, to_dte, to_dce, happens, run}
use Rattle.lapb.specs.World.{opening, Always, IsPrefix}
use Rattle.lapb.specs.Reach.{Reached}
use Rattle.lapb.proofs.Inv.{Inv, IsFresh, dte_in, dce_in, by_dte, by_dce, logged-same}
use Rattle.lapb.proofs.Reach.{reached_inv, reached_happens, reached_in_order}
use Rattle.arrival_laws.specs.Arriving.{AllWait, Ends}
use Rattle.arrival_laws.proofs.Frames.{cond_by, sets, is_dm_of, has_number_of, as_sent}
use Rattle.arrival_laws.proofs.Going.{sent-phase}
use Rattle.arrival_laws.proofs.Heads.{at_dte, at_dce, dce_takes}
use Rattle.arrival_laws.proofs.Moves.{which_sendable}
use Rattle.arrival_laws.proofs.Arrived.{reached_by}
use Rattle.arrival_laws.proofs.Weights.{weight_of, extra, up_more, up_weight, down_more, down_weight, total, total-more}
use Rattle.arrival_laws.proofs.Weights.{weight-some, end_weight, gain, Lighter, Answers, up-lighter, Sendings}
use Rattle.arrival_laws.proofs.Weights.{ends-no_heavier}

-- ---- what a line weighs

-- a DCE that is down, or not; the ends x and y, the frames on the way, and how many packets each may still accept
abbrev pub Measure : Bool → Link → Link → List Sent → List Sent → ℕ → ℕ → ℕ
Measure d x y up down at_dce at_dte =
    total (up_weight d) up + total (down_weight d) down + end_weight x + end_weight y + 22 * at_dce + 22 * at_dte

abbrev pub left_up : World → ℕ
left_up w = length (w.dte_offered w.session) - length (w.dce_accepted w.session)

abbrev pub left_down : World → ℕ
left_down w = length (w.dce_offered w.session) - length (w.dte_accepted w.session)

abbrev pub measure : World → ℕ
measure w = Measure (not (is_up w.dce.phase)) w.dte w.dce w.up w.down (left_up w) (left_down w)

-- ---- bits and numbers

no_command : (d : Bool) → extra (d && true && not true) ≡ 0
no_command true = refl
no_command false = refl

no_poll : (d b : Bool) → extra (d && false && b) ≡ 0
no_poll true b = refl
no_poll false b = refl

poll_more : (d : Bool) → extra (d && true && not false) ≡ extra d
poll_more true = refl
poll_more false = refl

up_answers : (d : Bool) → Answers (up_weight d)
up_answers d = record {
  rr = λ nr. ap (λ n. 26 + n) (no_command d);
  rej = λ nr. ap (λ n. 23 + n) (no_poll d (not true));
  final_rej = λ nr. ap (λ n. 47 + n) (no_command d);
}

down_answers : (d : Bool) → Answers (down_weight d)
down_answers d = record { rr = λ nr. refl; rej = λ nr. refl; final_rej = λ nr. refl }

up_sendings : (d : Bool) → Sendings (up_weight d)
up_sendings d = record {
  i = λ ns nr packet. ap (λ n. 3 + n) (no_poll d (not false));
  rr = λ nr. ap (λ n. 2 + n) (no_poll d (not true));
}

down_sendings : (d : Bool) → Sendings (down_weight d)
down_sendings d = record { i = λ ns nr packet. refl; rr = λ nr. refl }

two : (content : Content) (r p : Bool) → is_dm_of content ≡ false → 2 ≤ weight_of content r p
two (I ns nr packet) r true e = omega arith
two (I ns nr packet) r false e = omega arith
two (Rr nr) true true e = omega arith
two (Rr nr) false true e = omega arith
two (Rr nr) r false e = omega arith
two (Rnr nr) true true e = omega arith
two (Rnr nr) false true e = omega arith
two (Rnr nr) r false e = omega arith
two (Rej nr) true true e = omega arith
two (Rej nr) false true e = omega arith
two (Rej nr) r false e = omega arith
two Sabm r p e = omega arith
two Disc r p e = omega arith
two Dm r p e = absurd (cc)
two Ua r p e = omega arith
two (Frmr report) r p e = omega arith

-- a packet that is accepted may be accepted no more
left-falls : (n : ℕ) (xs ys : List Octets) (o : Option Octets) → ys ≡ with_packet xs o → length ys ≤ n →
    22 * (n - length ys) + gain o ≤ 22 * (n - length xs)
left-falls n xs ys None is le = let e = ap (λ (zs : List Octets). length zs) is in omega (arith, e)
left-falls n xs ys (Some packet) is le =
    let e = ap (λ (zs : List Octets). length zs) is in let f = length-append xs (packet ∷ []) in omega (arith, e, f, le)

prefix-length : (xs ys : List Octets) → IsPrefix xs ys → length xs ≤ length ys
prefix-length xs ys p =
    let e = length-append xs p.0 in let f = ap (λ (zs : List Octets). length zs) p.1 in omega (arith, e, f)

-- ---- the DTE takes a frame

falls_dte : (d : Bool) (x x' y : Link) (up : List Sent) (s : Sent) (rest : List Sent) (frames : List FrameValue) (t : ℕ)
    (at_dce at_dte at_dte' : ℕ) → end_weight x' + total (up_weight d) (stamped t frames) + 22 * at_dte' + 1 ≤
    end_weight x + down_weight d s.frame + 22 * at_dte →
    Measure d x' y (up ++ stamped t frames) rest at_dce at_dte' + 1 ≤ Measure d x y up (s ∷ rest) at_dce at_dte
falls_dte d x x' y up s rest frames t at_dce at_dte at_dte' l =
    let e = total-more (up_weight d) up (stamped t frames) in omega (arith, e, l)

abbrev DteFalls : World → Sent → List Sent → ℕ → Type 0
DteFalls v s rest t = Reached (record v { down = s ∷ rest }) → Inv (record v { down = s ∷ rest }) → (d : Bool) →
    Measure d (on_frame v.dte s.frame).link v.dce (v.up ++ stamped t (on_frame v.dte s.frame).frames) rest (left_up v)
    (length (v.dce_offered v.session) - length (logged v.dte_accepted v.own (on_frame v.dte s.frame).accepted v.session)) +
    1 ≤ Measure d v.dte v.dce v.up (s ∷ rest) (left_up v) (left_down v)

few_dte : (w : World) → Inv w → w.dte.phase ≡ Phase.Up → length w.dte.queue ≤ 7
few_dte w i up =
    let s = i.out.sends up in
    let e = ap (λ (ps : List Octets). length ps) s.queue_is ∙ length-drop i.out.a (w.dte_offered w.session) in
    let f = s.few in omega (arith, e, f)

few_dce : (w : World) → Inv w → w.dce.phase ≡ Phase.Up → length w.dce.queue ≤ 7
few_dce w i up =
    let s = i.back.sends up in
    let e = ap (λ (ps : List Octets). length ps) s.queue_is ∙ length-drop i.back.a (w.dce_offered w.session) in
    let f = s.few in omega (arith, e, f)

module _ (w : World) (r p : Bool) (u : ℕ) (rest : List Sent) (t : ℕ) where
  -- a frame that changes nothing, and is answered by DM or not
  polite : (content : Content) (phase : Phase) (due d : Bool) → 2 ≤ weight_of content r p →
      Measure d (if due then sends (dte_in w phase).dte (response Dm true) else still (dte_in w phase).dte).link w.dce
      (w.up ++ stamped t (if due then sends (dte_in w phase).dte (response Dm true) else still (dte_in w phase).dte).frames)
      rest (left_up w) (length (w.dce_offered w.session) - length (logged w.dte_accepted w.own (if due then sends (dte_in w
      phase).dte (response Dm true) else still (dte_in w phase).dte).accepted w.session)) + 1 ≤
      Measure d (dte_in w phase).dte w.dce w.up (as_sent content r p u ∷ rest) (left_up w) (left_down w)
  polite content phase true d least =
      falls_dte d (dte_in w phase).dte (dte_in w phase).dte w.dce w.up (as_sent content r p u) rest (response Dm true ∷ [])
      t (left_up w) (left_down w) (left_down w) (let n = no_command d in omega (arith, n, least))
  polite content phase false d least =
      falls_dte d (dte_in w phase).dte (dte_in w phase).dte w.dce w.up (as_sent content r p u) rest [] t (left_up w)
      (left_down w) (left_down w) (omega (arith, least))

  -- a DM, by which an act begins
  set_up_by : (phase : Phase) (d : Bool) →
      Measure d (set_up (dte_in w phase).dte).link w.dce (w.up ++ stamped t (set_up (dte_in w phase).dte).frames) rest
      (left_up w) (left_down w) + 1 ≤
      Measure d (dte_in w phase).dte w.dce w.up (as_sent Dm r p u ∷ rest) (left_up w) (left_down w)
  set_up_by phase d =
      falls_dte d (dte_in w phase).dte (set_up (dte_in w phase).dte).link w.dce w.up (as_sent Dm r p u) rest
      (set_up (dte_in w phase).dte).frames t (left_up w) (left_down w) (left_down w) (omega arith)

  at_down : (content : Content) → DteFalls (dte_in w Phase.Down) (as_sent content r p u) rest t
  at_down Dm reached i d = set_up_by Phase.Down d
  at_down Ua reached i d = polite Ua Phase.Down (p && not r) d (two Ua r p refl)
  at_down (I ns nr packet) reached i d = polite (I ns nr packet) Phase.Down (p && not r) d (two (I ns nr packet) r p refl)
  at_down (Rr nr) reached i d = polite (Rr nr) Phase.Down (p && not r) d (two (Rr nr) r p refl)
  at_down (Rnr nr) reached i d = polite (Rnr nr) Phase.Down (p && not r) d (two (Rnr nr) r p refl)
  at_down (Rej nr) reached i d = polite (Rej nr) Phase.Down (p && not r) d (two (Rej nr) r p refl)
  at_down Sabm reached i d = absurd (i.downs.2)
  at_down Disc reached i d = absurd (i.downs.2)
  at_down (Frmr report) reached i d = absurd (i.downs.2)

  ignored : (content : Content) (phase : Phase) (d : Bool) →
      Measure d (dte_in w phase).dte w.dce (w.up ++ stamped t []) rest (left_up w) (left_down w) + 1 ≤
      Measure d (dte_in w phase).dte w.dce w.up (as_sent content r p u ∷ rest) (left_up w) (left_down w)
  ignored content phase d =
      falls_dte d (dte_in w phase).dte (dte_in w phase).dte w.dce w.up (as_sent content r p u) rest [] t (left_up w)
      (left_down w) (left_down w) (let least = weight-some content r p in omega (arith, least))

  at_setting : (content : Content) → DteFalls (dte_in w Phase.SettingUp) (as_sent content r p u) rest t
  at_setting Ua reached i d =
      let x : Link = (dte_in w Phase.SettingUp).dte in
      cond_by (λ b. Measure d (if b then come_up x else still x).link w.dce (w.up ++ stamped t (if b then come_up x else
      still x).frames) rest (left_up w) (length (w.dce_offered w.session) - length (logged w.dte_accepted w.own (if b then
      come_up x else still x).accepted w.session)) + 1 ≤ Measure d x w.dce w.up (as_sent Ua r p u ∷ rest) (left_up w)
      (left_down w)) (is_same p w.dte.bit)
      (λ _. falls_dte d x (come_up x).link w.dce w.up (as_sent Ua r p u) rest (come_up x).frames t (left_up w) (left_down w)
      (left_down w) (let m = poll_more d in omega (arith, m)))
      (λ _. ignored Ua Phase.SettingUp d)
  at_setting Dm reached i d = ignored Dm Phase.SettingUp d
  at_setting (I ns nr packet) reached i d = ignored (I ns nr packet) Phase.SettingUp d
  at_setting (Rr nr) reached i d = ignored (Rr nr) Phase.SettingUp d
  at_setting (Rnr nr) reached i d = ignored (Rnr nr) Phase.SettingUp d
  at_setting (Rej nr) reached i d = ignored (Rej nr) Phase.SettingUp d
  at_setting Sabm reached i d = absurd (i.downs.2)
  at_setting Disc reached i d = absurd (i.downs.2)
  at_setting (Frmr report) reached i d = absurd (i.downs.2)

  numbered : (content : Content) → has_number_of content ≡ true →
      on_frame (dte_in w Phase.Up).dte (as_sent content r p u).frame ≡ in_up Dte (dte_in w Phase.Up).dte content r p →
      DteFalls (dte_in w Phase.Up) (as_sent content r p u) rest t
  numbered content e is reached i d =
      let x : Link = (dte_in w Phase.Up).dte in
      let step : Step = on_frame x (as_sent content r p u).frame in
      let v : World = to_dte (record (dte_in w Phase.Up) { down = as_sent content r p u ∷ rest }) []
      (as_sent content r p u ∷ rest) in
      let after : Reached v = reached_happens (record (dte_in w Phase.Up) { down = as_sent content r p u ∷ rest })
      (Deliver Dte []) reached in
      let ys : List Octets = logged w.dte_accepted w.own step.accepted w.session in
      let same : ys ≡ with_packet (w.dte_accepted w.session) step.accepted =
      logged-same w.dte_accepted w.own w.session step.accepted (i.up_in refl).own_is in
      let le : length ys ≤ length (w.dce_offered w.session) = prefix-length ys (w.dce_offered w.session)
      ((reached_in_order v after).at_dte w.session) in
      let falls = left-falls (length (w.dce_offered w.session)) (w.dte_accepted w.session) ys step.accepted same le in
      let lighter : Lighter (up_weight d) x (weight_of content r p) step t =
      subst (λ st. Lighter (up_weight d) x (weight_of content r p) st t) (sym is)
      (up-lighter (up_weight d) (up_answers d) Dte x content r p t
      (few_dte (record (dte_in w Phase.Up) { down = as_sent content r p u ∷ rest }) i refl) e
      (at_dte (dte_in w Phase.Up) r p u rest content i refl e).valid) in
      falls_dte d x step.link w.dce w.up (as_sent content r p u) rest step.frames t (left_up w) (left_down w)
      (length (w.dce_offered w.session) - length ys) (omega (arith, falls, lighter))

  at_up : (content : Content) → DteFalls (dte_in w Phase.Up) (as_sent content r p u) rest t
  at_up Dm reached i d = set_up_by Phase.Up d
  at_up Ua reached i d = ignored Ua Phase.Up d
  at_up (I ns nr packet) reached i d = numbered (I ns nr packet) refl refl reached i d
  at_up (Rr nr) reached i d = numbered (Rr nr) refl refl reached i d
  at_up (Rnr nr) reached i d = numbered (Rnr nr) refl refl reached i d
  at_up (Rej nr) reached i d = numbered (Rej nr) refl refl reached i d
  at_up Sabm reached i d = absurd (i.downs.2)
  at_up Disc reached i d = absurd (i.downs.2)
  at_up (Frmr report) reached i d = absurd (i.downs.2)

dte_falls : (w : World) (s : Sent) (rest : List Sent) (t : ℕ) → w.dte.role ≡ Dte → DteFalls w s rest t
dte_falls w s rest t role =
    by_dte (λ v. DteFalls v s rest t) w role
    (at_down w s.frame.response s.frame.pf s.act rest t s.frame.content)
    (at_setting w s.frame.response s.frame.pf s.act rest t s.frame.content)
    (at_up w s.frame.response s.frame.pf s.act rest t s.frame.content)
    (λ _ i. absurd (i.dte_phase refl))

-- ---- the DCE takes a frame

falls_dce : (d d' : Bool) (x y y' : Link) (s : Sent) (rest down : List Sent) (frames : List FrameValue) (t : ℕ)
    (at_dce at_dce' at_dte at_dte' : ℕ) → total (up_weight d') rest ≤ total (up_weight d) rest →
    total (down_weight d') down ≤ total (down_weight d) down → at_dte' ≤ at_dte →
    end_weight y' + total (down_weight d') (stamped t frames) + 22 * at_dce' + 1 ≤
    end_weight y + up_weight d s.frame + 22 * at_dce →
    Measure d' x y' rest (down ++ stamped t frames) at_dce' at_dte' + 1 ≤ Measure d x y (s ∷ rest) down at_dce at_dte
falls_dce d d' x y y' s rest down frames t at_dce at_dce' at_dte at_dte' l1 l2 l3 l4 =
    let e = total-more (down_weight d') down (stamped t frames) in omega (arith, e, l1, l2, l3, l4)

-- to a DCE that is up frames weigh no more than to one that is down
up_lower : (flow : List Sent) → total (up_weight false) flow ≤ total (up_weight true) flow
up_lower [] = omega arith
up_lower (s ∷ rest) =
    let l = up_lower rest in let m = less s.frame.content s.frame.response s.frame.pf in omega (arith, l, m)
  where
    less : (content : Content) (r p : Bool) → up_more false content r p ≤ up_more true content r p
    less Sabm r p = omega arith
    less (I ns nr packet) r p = omega arith
    less (Rr nr) r p = omega arith
    less (Rnr nr) r p = omega arith
    less (Rej nr) r p = omega arith
    less Disc r p = omega arith
    less Dm r p = omega arith
    less Ua r p = omega arith
    less (Frmr report) r p = omega arith

down_lower : (flow : List Sent) → total (down_weight false) flow ≤ total (down_weight true) flow
down_lower [] = omega arith
down_lower (s ∷ rest) = let l = down_lower rest in let m = less s.frame.content in omega (arith, l, m)
  where
    less : (content : Content) → down_more false content ≤ down_more true content
    less Sabm = omega arith
    less (I ns nr packet) = omega arith
    less (Rr nr) = omega arith
    less (Rnr nr) = omega arith
    less (Rej nr) = omega arith
    less Disc = omega arith
    less Dm = omega arith
    less Ua = omega arith
    less (Frmr report) = omega arith

-- how many packets may still be accepted after the DCE took it, in the session that it stands in then
abbrev left_up' : World → Sent → Step → ℕ
left_up' v s step = length (v.dte_offered (if sets s.frame then s.act else v.session)) - length
    (logged (emptied (sets s.frame) v.dce_accepted s.act) (if sets s.frame then s.act else v.session) step.accepted
    (if sets s.frame then s.act else v.session))

abbrev left_down' : World → Sent → ℕ
left_down' v s = length (emptied (sets s.frame) v.dce_offered s.act (if sets s.frame then s.act else v.session)) -
    length (v.dte_accepted (if sets s.frame then s.act else v.session))

abbrev DceFalls : World → Sent → List Sent → ℕ → Type 0
DceFalls v s rest t = Reached (record v { up = s ∷ rest }) → Inv (record v { up = s ∷ rest }) →
    Measure (not (is_up (on_frame v.dce s.frame).link.phase)) v.dte (on_frame v.dce s.frame).link rest
    (v.down ++ stamped t (on_frame v.dce s.frame).frames) (left_up' v s (on_frame v.dce s.frame)) (left_down' v s) + 1 ≤
    Measure (not (is_up v.dce.phase)) v.dte v.dce (s ∷ rest) v.down (left_up v) (left_down v)

-- a session that begins has nothing that may be accepted but what the DTE offered in it
emptied-none : (lists : ℕ → List Octets) (u : ℕ) → emptied true lists u u ≡ []
emptied-none lists u = cond_by (λ b. (if b then [] else lists u) ≡ []) (u == u) (λ _. refl)
    (λ e. absurd (eqb-false u u e refl))

entering : (w : World) (r p : Bool) (u : ℕ) (rest : List Sent) → Inv (record w { up = as_sent Sabm r p u ∷ rest }) →
    length (w.dte_offered u) ≤ length (w.dte_offered w.session) - length (w.dce_accepted w.session)
entering w r p u rest i =
    cond_by (λ _. length (w.dte_offered u) ≤ length (w.dte_offered w.session) - length (w.dce_accepted w.session))
    (u == w.session)
    (λ e. let same : u ≡ w.session = eqb-true u w.session e in
    let f : IsFresh (record w { up = as_sent Sabm r p u ∷ rest }) = elim i.again [
      | inl off ↦ absurd (let z = off.0 same in cc)
      | inr f ↦ f
    ] in
    let none = ap (λ (xs : List Octets). length xs) f.dce_none in
    let there = ap (λ c. length (w.dte_offered c)) same in omega (arith, none, there))
    (λ e. let other = eqb-false u w.session e in
    let later = i.lists.later u (more u w.session i.ups.0 other) in
    let none = ap (λ (xs : List Octets). length xs) later.0 in omega (arith, none))
  where
    more : (a c : ℕ) → c ≤ a → (a ≡ c → ⊥) → c < a
    more a c le other = grind arith

module _ (w : World) (r p : Bool) (u : ℕ) (rest : List Sent) (t : ℕ) where
  enters : (phase : Phase) (d : Bool) → total (up_weight false) rest ≤ total (up_weight d) rest →
      total (down_weight false) w.down ≤ total (down_weight d) w.down →
      Inv (record (dce_in w phase) { up = as_sent Sabm r p u ∷ rest }) →
      Measure false w.dte (cleared (dce_in w phase).dce Phase.Up) rest (w.down ++ stamped t (response Ua p ∷ []))
      (length (w.dte_offered u) - length (emptied true w.dce_accepted u u))
      (length (emptied true w.dce_offered u u) - length (w.dte_accepted u)) + 1 ≤
      Measure d w.dte (dce_in w phase).dce (as_sent Sabm r p u ∷ rest) w.down (left_up w) (left_down w)
  enters phase d l1 l2 i =
      let at_dce = entering (dce_in w phase) r p u rest i in
      let none = ap (λ (xs : List Octets). length xs) (emptied-none w.dce_offered u) in
      falls_dce d false w.dte (dce_in w phase).dce (cleared (dce_in w phase).dce Phase.Up) (as_sent Sabm r p u) rest w.down
      (response Ua p ∷ []) t (left_up w) (length (w.dte_offered u) - length (emptied true w.dce_accepted u u))
      (left_down w) (length (emptied true w.dce_offered u u) - length (w.dte_accepted u)) l1 l2 (omega (arith, none))
      (omega (arith, at_dce))

  -- a DM or nothing, and the link as it was
  abbrev polite_step : Bool → Step
  polite_step due = if due then sends (dce_in w Phase.Down).dce (response Dm true) else still (dce_in w Phase.Down).dce

  abbrev Declined : Content → Bool → Type 0
  Declined content due = Measure (not (is_up (polite_step due).link.phase)) w.dte (polite_step due).link rest
      (w.down ++ stamped t (polite_step due).frames) (length (w.dte_offered w.session) - length (logged w.dce_accepted
      w.session (polite_step due).accepted w.session)) (left_down w) + 1 ≤
      Measure true w.dte (dce_in w Phase.Down).dce (as_sent content r p u ∷ rest) w.down (left_up w) (left_down w)

  declines : (content : Content) → up_more true content r p ≡ extra (p && not r) → Declined content (p && not r)
  declines content more =
      let y : Link = (dce_in w Phase.Down).dce in
      let least = weight-some content r p in
      cond_by (λ b. (up_more true content r p ≡ extra b) → Declined content b) (p && not r)
      (λ _ m. falls_dce true true w.dte y y (as_sent content r p u) rest w.down (response Dm true ∷ []) t (left_up w)
      (left_up w) (left_down w) (left_down w) (omega arith) (omega arith) (omega arith) (omega (arith, m, least)))
      (λ _ m. falls_dce true true w.dte y y (as_sent content r p u) rest w.down [] t (left_up w) (left_up w) (left_down w)
      (left_down w) (omega arith) (omega arith) (omega arith) (omega (arith, m, least))) more

  dce_at_down : (content : Content) → DceFalls (dce_in w Phase.Down) (as_sent content r p u) rest t
  dce_at_down Sabm reached i = enters Phase.Down true (up_lower rest) (down_lower w.down) i
  dce_at_down Dm reached i = declines Dm refl
  dce_at_down (I ns nr packet) reached i = declines (I ns nr packet) refl
  dce_at_down (Rr nr) reached i = declines (Rr nr) refl
  dce_at_down (Rnr nr) reached i = declines (Rnr nr) refl
  dce_at_down (Rej nr) reached i = declines (Rej nr) refl
  dce_at_down Ua reached i = absurd (i.ups.2)
  dce_at_down Disc reached i = absurd (i.ups.2)
  dce_at_down (Frmr report) reached i = absurd (i.ups.2)

  -- a frame with a number, after which it is up
  heard : (content : Content) → has_number_of content ≡ true → sets (as_sent content r p u).frame ≡ false →
      on_frame (dce_in w Phase.Up).dce (as_sent content r p u).frame ≡ in_up Dce (dce_in w Phase.Up).dce content r p →
      length (logged w.dce_accepted w.session (on_frame (dce_in w Phase.Up).dce (as_sent content r p u).frame).accepted
      w.session) ≤ length (w.dte_offered w.session) →
      Inv (record (dce_in w Phase.Up) { up = as_sent content r p u ∷ rest }) →
      Measure (not (is_up (on_frame (dce_in w Phase.Up).dce (as_sent content r p u).frame).link.phase)) w.dte
      (on_frame (dce_in w Phase.Up).dce (as_sent content r p u).frame).link rest
      (w.down ++ stamped t (on_frame (dce_in w Phase.Up).dce (as_sent content r p u).frame).frames)
      (length (w.dte_offered w.session) - length (logged w.dce_accepted w.session (on_frame (dce_in w Phase.Up).dce
      (as_sent content r p u).frame).accepted w.session)) (left_down w) + 1 ≤
      Measure false w.dte (dce_in w Phase.Up).dce (as_sent content r p u ∷ rest) w.down (left_up w) (left_down w)
  heard content e off is le i =
      let y : Link = (dce_in w Phase.Up).dce in
      let step : Step = on_frame y (as_sent content r p u).frame in
      let ys : List Octets = logged w.dce_accepted w.session step.accepted w.session in
      let same : ys ≡ with_packet (w.dce_accepted w.session) step.accepted =
      logged-same w.dce_accepted w.session w.session step.accepted refl in
      let falls = left-falls (length (w.dte_offered w.session)) (w.dce_accepted w.session) ys step.accepted same le in
      let lighter : Lighter (down_weight false) y (weight_of content r p) step t =
      subst (λ st. Lighter (down_weight false) y (weight_of content r p) st t) (sym is)
      (up-lighter (down_weight false) (down_answers false) Dce y content r p t
      (few_dce (record (dce_in w Phase.Up) { up = as_sent content r p u ∷ rest }) i refl) e
      (at_dce (dce_in w Phase.Up) r p u rest content i refl e).valid) in
      let k = dce_takes (dce_in w Phase.Up) r p u rest content i refl off in
      let up : not (is_up step.link.phase) ≡ false = ap (λ ph. not (is_up ph)) k.took.phase in
      subst (λ d. Measure d w.dte step.link rest (w.down ++ stamped t step.frames)
      (length (w.dte_offered w.session) - length ys) (left_down w) + 1 ≤ Measure false w.dte y (as_sent content r p u ∷
      rest) w.down (left_up w) (left_down w)) (sym up)
      (falls_dce false false w.dte y step.link (as_sent content r p u) rest w.down step.frames t (left_up w)
      (length (w.dte_offered w.session) - length ys) (left_down w) (left_down w) (omega arith) (omega arith)
      (omega arith) (omega (arith, falls, lighter)))

  abbrev After : Content → Type 0
  After content = Reached (to_dce (record (dce_in w Phase.Up) { up = as_sent content r p u ∷ rest }) []
      (as_sent content r p u ∷ rest))

  after : (content : Content) → Reached (record (dce_in w Phase.Up) { up = as_sent content r p u ∷ rest }) → After content
  after content reached = reached_happens (record (dce_in w Phase.Up) { up = as_sent content r p u ∷ rest })
      (Deliver Dce []) reached

  dce_at_up : (content : Content) → DceFalls (dce_in w Phase.Up) (as_sent content r p u) rest t
  dce_at_up Sabm reached i = enters Phase.Up false (omega arith) (omega arith) i
  dce_at_up Dm reached i =
      falls_dce false false w.dte (dce_in w Phase.Up).dce (dce_in w Phase.Up).dce (as_sent Dm r p u) rest w.down [] t
      (left_up w) (left_up w) (left_down w) (left_down w) (omega arith) (omega arith) (omega arith) (omega arith)
  dce_at_up (I ns nr packet) reached i = heard (I ns nr packet) refl refl refl
      (prefix-length _ _ ((reached_in_order _ (after (I ns nr packet) reached)).at_dce w.session)) i
  dce_at_up (Rr nr) reached i = heard (Rr nr) refl refl refl
      (prefix-length _ _ ((reached_in_order _ (after (Rr nr) reached)).at_dce w.session)) i
  dce_at_up (Rnr nr) reached i = heard (Rnr nr) refl refl refl
      (prefix-length _ _ ((reached_in_order _ (after (Rnr nr) reached)).at_dce w.session)) i
  dce_at_up (Rej nr) reached i = heard (Rej nr) refl refl refl
      (prefix-length _ _ ((reached_in_order _ (after (Rej nr) reached)).at_dce w.session)) i
  dce_at_up Ua reached i = absurd (i.ups.2)
  dce_at_up Disc reached i = absurd (i.ups.2)
  dce_at_up (Frmr report) reached i = absurd (i.ups.2)

dce_falls : (w : World) (s : Sent) (rest : List Sent) (t : ℕ) → w.dce.role ≡ Dce → DceFalls w s rest t
dce_falls w s rest t role =
    by_dce (λ v. DceFalls v s rest t) w role
    (dce_at_down w s.frame.response s.frame.pf s.act rest t s.frame.content)
    (λ _ i. absurd (i.dce_set refl))
    (dce_at_up w s.frame.response s.frame.pf s.act rest t s.frame.content)
    (λ _ i. absurd (i.dce_phase refl))

-- ---- the end of an event

abbrev DteEnds : World → ℕ → Type 0
DteEnds v t = (d : Bool) → Measure d (settle v.dte).link v.dce (v.up ++ stamped t (settle v.dte).frames) v.down (left_up v)
    (length (v.dce_offered v.session) - length (logged v.dte_accepted v.own (settle v.dte).accepted v.session)) ≤
    Measure d v.dte v.dce v.up v.down (left_up v) (left_down v)

abbrev DceEnds : World → ℕ → Type 0
DceEnds v t = Measure (not (is_up (settle v.dce).link.phase)) v.dte (settle v.dce).link v.up
    (v.down ++ stamped t (settle v.dce).frames) (length (v.dte_offered v.session) - length (logged v.dce_accepted v.session
    (settle v.dce).accepted v.session)) (left_down v) ≤
    Measure (not (is_up v.dce.phase)) v.dte v.dce v.up v.down (left_up v) (left_down v)

sends_none : (l : Link) (packets : List Octets) → (send_all l packets).accepted ≡ None
sends_none l [] = refl
sends_none l (packet ∷ packets) = refl

no_heavier_up : (d : Bool) (x x' y : Link) (up down : List Sent) (frames : List FrameValue) (t at_dce at_dte : ℕ) →
    end_weight x' + total (up_weight d) (stamped t frames) ≤ end_weight x →
    Measure d x' y (up ++ stamped t frames) down at_dce at_dte ≤ Measure d x y up down at_dce at_dte
no_heavier_up d x x' y up down frames t at_dce at_dte l =
    let e = total-more (up_weight d) up (stamped t frames) in omega (arith, e, l)

no_heavier_down : (d : Bool) (x y y' : Link) (up down : List Sent) (frames : List FrameValue) (t at_dce at_dte : ℕ) →
    end_weight y' + total (down_weight d) (stamped t frames) ≤ end_weight y →
    Measure d x y' up (down ++ stamped t frames) at_dce at_dte ≤ Measure d x y up down at_dce at_dte
no_heavier_down d x y y' up down frames t at_dce at_dte l =
    let e = total-more (down_weight d) down (stamped t frames) in omega (arith, e, l)

dte_ends : (w : World) (t : ℕ) → w.dte.role ≡ Dte → (w.dte.phase ≡ Phase.Rejecting → ⊥) → DteEnds w t
dte_ends w t role =
    by_dte (λ v. (v.dte.phase ≡ Phase.Rejecting → ⊥) → DteEnds v t) w role
    (λ _ d. no_heavier_up d (dte_in w Phase.Down).dte (dte_in w Phase.Down).dte w.dce w.up w.down [] t (left_up w)
    (left_down w) (omega arith))
    (λ _ d. no_heavier_up d (dte_in w Phase.SettingUp).dte (dte_in w Phase.SettingUp).dte w.dce w.up w.down [] t (left_up
    w) (left_down w) (omega arith))
    (λ _ d.
    let x : Link = (dte_in w Phase.Up).dte in
    let none : None ≡ (settle x).accepted = sym (sends_none x (sendable x)) in
    subst (λ o. Measure d (settle x).link w.dce (w.up ++ stamped t (settle x).frames) w.down (left_up w)
    (length (w.dce_offered w.session) - length (logged w.dte_accepted w.own o w.session)) ≤
    Measure d x w.dce w.up w.down (left_up w) (left_down w)) none
    (no_heavier_up d x (settle x).link w.dce w.up w.down (settle x).frames t (left_up w) (left_down w)
    (ends-no_heavier (up_weight d) (up_sendings d) x (sendable x) t (which_sendable x))))
    (λ off. absurd (off refl))

dce_ends : (w : World) (t : ℕ) → w.dce.role ≡ Dce → Inv w → DceEnds w t
dce_ends w t role =
    by_dce (λ v. Inv v → DceEnds v t) w role
    (λ i. no_heavier_down true w.dte (dce_in w Phase.Down).dce (dce_in w Phase.Down).dce w.up w.down [] t (left_up w)
    (left_down w) (omega arith))
    (λ i. absurd (i.dce_set refl))
    (λ i.
    let y : Link = (dce_in w Phase.Up).dce in
    let none : None ≡ (settle y).accepted = sym (sends_none y (sendable y)) in
    let up : false ≡ not (is_up (settle y).link.phase) = sym (ap (λ ph. not (is_up ph)) (sent-phase y (sendable y))) in
    subst (λ o. Measure (not (is_up (settle y).link.phase)) w.dte (settle y).link w.up (w.down ++ stamped t (settle
    y).frames) (length (w.dte_offered w.session) - length (logged w.dce_accepted w.session o w.session)) (left_down w) ≤
    Measure false w.dte y w.up w.down (left_up w) (left_down w)) none
    (subst (λ d. Measure d w.dte (settle y).link w.up (w.down ++ stamped t (settle y).frames) (left_up w) (left_down w) ≤
    Measure false w.dte y w.up w.down (left_up w) (left_down w)) up
    (no_heavier_down false w.dte y (settle y).link w.up w.down (settle y).frames t (left_up w) (left_down w)
    (ends-no_heavier (down_weight false) (down_sendings false) y (sendable y) t (which_sendable y)))))
    (λ i. absurd (i.dce_phase refl))

-- ---- a delivery, with the end of its event

dte_turn : (w : World) (flow : List Sent) → w.down ≡ flow → (flow ≡ [] → ⊥) → Reached w →
    measure (to_dte w [] flow) + 1 ≤ measure w
dte_turn w [] e some reached = absurd (some refl)
dte_turn w (s ∷ rest) e some reached =
    let i = reached_inv w reached in
    let reached' : Reached (record w { down = s ∷ rest }) = subst (λ (flow : List Sent). Reached (record w {
      down = flow;
    })) e reached in
    subst (λ (flow : List Sent). measure (to_dte w [] (s ∷ rest)) + 1 ≤ Measure (not (is_up w.dce.phase)) w.dte w.dce w.up
    flow (left_up w) (left_down w)) (sym e)
    (dte_falls w s rest _ i.dte_role reached' (reached_inv _ reached') (not (is_up w.dce.phase)))

dce_turn : (w : World) (flow : List Sent) → w.up ≡ flow → (flow ≡ [] → ⊥) → Reached w →
    measure (to_dce w [] flow) + 1 ≤ measure w
dce_turn w [] e some reached = absurd (some refl)
dce_turn w (s ∷ rest) e some reached =
    let i = reached_inv w reached in
    let reached' : Reached (record w { up = s ∷ rest }) = subst (λ (flow : List Sent). Reached (record w { up = flow }))
    e reached in
    subst (λ (flow : List Sent). measure (to_dce w [] (s ∷ rest)) + 1 ≤ Measure (not (is_up w.dce.phase)) w.dte w.dce flow
    w.down (left_up w) (left_down w)) (sym e)
    (dce_falls w s rest _ i.dce_role reached' (reached_inv _ reached'))

most : (order : List Role) (w : World) → Reached w → AllWait order w → length order ≤ measure w
most [] w reached wait = omega arith
most (Dte ∷ order) w reached wait =
    let v : World = happens w (Deliver Dte []) in
    let after : Reached v = reached_happens w (Deliver Dte []) reached in
    let i = reached_inv v after in
    let falls = dte_turn w w.down refl wait.0 reached in
    let ends = dte_ends v (act_after v (settle v.dte)) i.dte_role i.dte_phase (not (is_up v.dce.phase)) in
    let rest = most order (happens v (Settle Dte [])) (reached_happens v (Settle Dte []) after) wait.1 in
    omega (arith, falls, ends, rest)
most (Dce ∷ order) w reached wait =
    let v : World = happens w (Deliver Dce []) in
    let after : Reached v = reached_happens w (Deliver Dce []) reached in
    let i = reached_inv v after in
    let falls = dce_turn w w.up refl wait.0 reached in
    let ends = dce_ends v v.session i.dce_role i in
    let rest = most order (happens v (Settle Dce [])) (reached_happens v (Settle Dce []) after) wait.1 in
    omega (arith, falls, ends, rest)

pub ends : Always Ends
ends standing dte dce few few' events =
    let w : World = run events (opening standing dte dce) in
    (measure w, λ order wait. most order w (reached_by standing dte dce few few' events) wait)
