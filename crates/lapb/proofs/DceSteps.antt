-- What a DCE does keeps what every state meets.
use Rattle.std.specs.Prelude.{◌≡◌, ℕ, ◌%◌, ◌<◌, ◌≤◌, Bool, true, false, not, ◌⊎◌, List, [], ◌∷◌, ◌++◌, length, Some, None, if◌then◌else◌, ◌==◌}
use Rattle.std.proofs.Common.{refl, sym, ap, ◌∙◌, subst, inl, inr, arith, eqb-true}
use Rattle.std.proofs.lemmas.Bool.{eqb-false}
use Rattle.link_timers.specs.declared.role.Role.TheVariants.{Dte, Dce}
use Rattle.frame_codec.specs.Frame.{FrameValue, Content}
use Rattle.frame_codec.specs.Frame.Content.{I, Rr, Rnr, Rej, Sabm, Disc, Dm, Ua, Frmr}
use Rattle.lapb.specs.declared.phase.Phase.{Phase}
use Rattle.lapb.specs.Machine.{Octets, Link, Step, response, cleared, offer, is_full}
use Rattle.lapb.specs.Named.{with_packet}
use Rattle.lapb.specs.World.{Sent, World, logged, emptied, stamped, kept_of, offered, dce_does, is_sabm, is_ua}
use Rattle.lapb.specs.World.{IsPrefix}
use Rattle.lapb.proofs.Cases.{cond_by, Each, each-kept, each-weaken, prefix-refl}
use Rattle.lapb.proofs.Halves.{Half', Carries, Data, Tells, Acks, acks-lower, half-x_out, half-y_out, half-y_begins}
use Rattle.lapb.proofs.Halves.{half-offered}
use Rattle.lapb.proofs.Steps.{is_numbered, GoesStep}
use Rattle.lapb.proofs.Flights.{flight-append, flight-stamped, flight-weaken, NoSabmOf, NoNumbered, NoneOf, Stamped}
use Rattle.lapb.proofs.Flights.{OfUp, Ups, ups-enters, no_numbered-late, none_of-later, OfDown, Downs, downs-raise}
use Rattle.lapb.proofs.Flights.{downs-more}
use Rattle.lapb.proofs.Inv.{Fresh, IsFresh, InSession, Lists, Inv, dce_in, lists-change, logged-other, logged-same}
use Rattle.lapb.proofs.Inv.{lost_up}
use Rattle.lapb.proofs.PlainFrames.{IsPlain, half-sent_plain, half-told_plain, full-false, IsDm, dm-plain}

-- ---- a DCE that is up goes on

of_down-numbered : (n : ℕ) (p : Bool) (t : ℕ) (content : Content) (pf : Bool) → is_numbered content ≡ true → OfDown
    n p t content pf
of_down-numbered n p t (I ns nr packet) pf e = tt
of_down-numbered n p t (Rr nr) pf e = tt
of_down-numbered n p t (Rnr nr) pf e = tt
of_down-numbered n p t (Rej nr) pf e = tt
of_down-numbered n p t Dm pf e = tt
of_down-numbered n p t Sabm pf e = absurd (cc)
of_down-numbered n p t Disc pf e = absurd (cc)
of_down-numbered n p t Ua pf e = absurd (cc)
of_down-numbered n p t (Frmr report) pf e = absurd (cc)

numbered-no_answer : (content : Content) → is_numbered content ≡ true → is_ua content ≡ false
numbered-no_answer (I ns nr packet) e = refl
numbered-no_answer (Rr nr) e = refl
numbered-no_answer (Rnr nr) e = refl
numbered-no_answer (Rej nr) e = refl
numbered-no_answer Dm e = refl
numbered-no_answer Sabm e = refl
numbered-no_answer Disc e = refl
numbered-no_answer Ua e = absurd (cc)
numbered-no_answer (Frmr report) e = refl

stamped-own : (c : ℕ) (frames : List FrameValue) → Stamped c (stamped c frames)
stamped-own c [] = tt
stamped-own c (f ∷ frames) = (refl, stamped-own c frames)

pub dce_goes : (w : World) (kept : List Bool) (step : Step) → Inv (dce_in w Phase.Up) →
    GoesStep w.session (dce_in w Phase.Up).dce w.dte (w.dce_offered w.session) (w.dte_accepted w.session)
    (w.dte_offered w.session)
    (w.dce_accepted w.session) w.down w.up true step →
    NoSabmOf w.session w.up → (w.dte.phase ≡ Phase.SettingUp → w.act ≡ w.session → ⊥) → Inv (dce_does (dce_in w
    Phase.Up) kept step)
dce_goes w kept step i g off not_setting =
    let c : ℕ = w.session in
    let frames : List FrameValue = kept_of kept step.frames in
    let ac : ℕ → List Octets = logged w.dce_accepted c step.accepted in
    let ac_is : ac c ≡ with_packet (w.dce_accepted c) step.accepted = logged-same w.dce_accepted c c step.accepted
    refl in
    let there = g.there kept in
    let back = g.back kept in
    let numbered : Each (λ f. is_numbered f.content ≡ true) frames = each-kept (λ f. is_numbered f.content ≡ true)
    kept step.frames g.all in
    let not_up : (p : Phase) → (p ≡ Phase.Up → ⊥) → step.link.phase ≡ p → ⊥ = λ p other e. other (sym e ∙ g.phase) in
    record {
      dte_role = i.dte_role;
      dce_role = g.role;
      dte_k = i.dte_k;
      dce_k = subst (λ n. n ≤ 7) (sym g.k) i.dce_k;
      dte_phase = i.dte_phase;
      dce_phase = not_up Phase.Rejecting (λ e. cc);
      dce_set = not_up Phase.SettingUp (λ e. cc);
      out = subst (λ p. Half' c w.dte.phase w.dte.oldest w.dte.next w.dte.top w.dte.queue p step.link.expected
          (w.dte_offered c) (ac c) w.up
          (w.down ++ stamped c frames)) (sym g.phase)
          (subst (λ (xs : List Octets). Half' c w.dte.phase w.dte.oldest w.dte.next w.dte.top w.dte.queue Phase.Up
          step.link.expected
          (w.dte_offered c) xs w.up (w.down ++ stamped c frames)) (sym ac_is) back);
      back = subst (λ p. Half' c p step.link.oldest step.link.next step.link.top step.link.queue w.dte.phase
          w.dte.expected (w.dce_offered c)
          (w.dte_accepted c) (w.down ++ stamped c frames) w.up) (sym g.phase) there;
      ups = i.ups;
      downs = downs-more c w.act w.dte.bit 0 w.down frames (omega arith) i.downs
          (each-weaken (λ f. is_numbered f.content ≡ true) (λ f. OfDown w.act w.dte.bit c f.content f.pf)
          (λ f. of_down-numbered w.act w.dte.bit c f.content f.pf) frames numbered);
      up_in = λ e. let j = i.up_in e in record {
        act_is = j.act_is;
        own_is = j.own_is;
        of_it = flight-append (λ s. s.act ≡ c) w.down (stamped c frames) j.of_it (stamped-own c frames);
      };
      down_out = λ e. let j = i.down_out e in (
        j.0,
        flight-append (λ s. is_ua s.frame.content ≡ false) w.down (stamped c frames) j.1
            (flight-stamped (λ s. is_ua s.frame.content ≡ false) c frames
            (each-weaken (λ f. is_numbered f.content ≡ true) (λ f. is_ua f.content ≡ false)
            (λ f. numbered-no_answer f.content) frames numbered)),
      );
      setting = λ e f. absurd (not_setting e f);
      again = inl off;
      mute = λ e h. absurd (let x : true ≡ false = sym g.heard ∙ h in cc);
      lists = lists-change c w.dte_offered w.dte_accepted w.dce_offered w.dce_accepted w.dte_offered w.dte_accepted
          w.dce_offered ac i.lists
          (λ t other. (refl, refl, refl, logged-other w.dce_accepted c step.accepted t other))
          (subst (λ (xs : List Octets). IsPrefix xs (w.dte_offered c)) (sym ac_is) back.in_order) (i.lists.at_dte c);
      reached = i.reached;
    }

-- ---- an offer

pub dce_offers : (w : World) (packet : Octets) → Inv (dce_in w Phase.Up) →
    Inv (record (dce_in w Phase.Up) {
      dce = offer (dce_in w Phase.Up).dce packet;
      dce_offered = logged w.dce_offered w.session (offered (dce_in w Phase.Up).dce packet);
    })
dce_offers w packet i =
    cond_by (λ b. Inv (record (dce_in w Phase.Up) {
      dce = record (dce_in w Phase.Up).dce { queue = if not b then w.dce.queue ++ packet ∷ [] else w.dce.queue };
      dce_offered = logged w.dce_offered w.session (if not b then Some packet else None);
    })) (is_full w.dce) (λ _. i) (λ e. taken (full-false w.dce.k w.dce.queue i.dce_k e))
  where
    taken : length w.dce.queue ≤ 6 → Inv (record (dce_in w Phase.Up) {
      dce = record (dce_in w Phase.Up).dce { queue = w.dce.queue ++ packet ∷ [] };
      dce_offered = logged w.dce_offered w.session (Some packet);
    })
    taken room =
        let c : ℕ = w.session in
        let oc : ℕ → List Octets = logged w.dce_offered c (Some packet) in
        let oc_is : oc c ≡ w.dce_offered c ++ packet ∷ [] = logged-same w.dce_offered c c (Some packet) refl in
        let more = half-offered c w.dce.oldest w.dce.next w.dce.top w.dce.queue w.dte.phase w.dte.expected
        (w.dce_offered c) (w.dte_accepted c)
        w.down w.up packet i.back room in
        record {
          dte_role = i.dte_role;
          dce_role = i.dce_role;
          dte_k = i.dte_k;
          dce_k = i.dce_k;
          dte_phase = i.dte_phase;
          dce_phase = i.dce_phase;
          dce_set = i.dce_set;
          out = i.out;
          back = subst (λ (xs : List Octets). Half' c Phase.Up w.dce.oldest w.dce.next w.dce.top (w.dce.queue ++
              packet ∷ []) w.dte.phase
              w.dte.expected xs (w.dte_accepted c) w.down w.up) (sym oc_is) more;
          ups = i.ups;
          downs = i.downs;
          up_in = i.up_in;
          down_out = i.down_out;
          setting = λ e f. let j = i.setting e f in record {
            fresh = j.fresh;
            none_offered = j.none_offered;
            none_sent
                = j.none_sent;
          };
          again = i.again;
          mute = i.mute;
          lists = lists-change c w.dte_offered w.dte_accepted w.dce_offered w.dce_accepted w.dte_offered
              w.dte_accepted oc w.dce_accepted i.lists
              (λ t other. (refl, refl, logged-other w.dce_offered c (Some packet) t other, refl))
              (i.lists.at_dce c) (subst (λ (xs : List Octets). IsPrefix (w.dte_accepted c) xs) (sym oc_is)
              more.in_order);
          reached = i.reached;
        }

-- ---- a DCE that is down, or goes down, sends DM

of_down-dm : (n : ℕ) (p : Bool) (t : ℕ) (f : FrameValue) → IsDm f → OfDown n p t f.content f.pf
of_down-dm n p t f e = subst (λ (x : Content). OfDown n p t x f.pf) (sym e) tt

pub dce_declines : (w : World) (kept : List Bool) (link : Link) (pf : Bool) → Inv w → link.role ≡ Dce → link.k ≤ 7
    → link.phase ≡ Phase.Down →
    Inv (record w {
      dce = link;
      down = w.down ++ stamped w.session (kept_of kept (response Dm pf ∷
          []));
    })
dce_declines w kept link pf i role k down =
    let c : ℕ = w.session in
    let frames : List FrameValue = kept_of kept (response Dm pf ∷ []) in
    let dm : Each IsDm frames = each-kept IsDm kept (response Dm pf ∷ []) (refl, tt) in
    let plain : Each IsPlain frames = dm-plain frames dm in
    let not_up : link.phase ≡ Phase.Up → ⊥ = λ e. cc in
    let none : NoneOf c w.down → NoneOf c (w.down ++ stamped c frames) =
    λ n. flight-append (λ s. s.act ≡ c → is_numbered s.frame.content ≡ false) w.down (stamped c frames) n
    (flight-stamped (λ s. s.act ≡ c → is_numbered s.frame.content ≡ false) c frames
    (each-weaken IsPlain (λ f. c ≡ c → is_numbered f.content ≡ false) (λ f e _. e) frames plain)) in
    let fresh : IsFresh w → Fresh link.phase link.heard c (w.dte_accepted c) (w.dce_accepted c) (w.down ++ stamped c
    frames) =
    λ f. record { dte_none = f.dte_none; dce_none = f.dce_none; none = none f.none; unheard = λ e. absurd (not_up e) }
    in
    record {
      dte_role = i.dte_role;
      dce_role = role;
      dte_k = i.dte_k;
      dce_k = k;
      dte_phase = i.dte_phase;
      dce_phase = λ e. cc;
      dce_set = λ e. cc;
      out = half-y_out c w.dte.phase w.dte.oldest w.dte.next w.dte.top w.dte.queue w.dce.phase w.dce.expected
          (w.dte_offered c) (w.dce_accepted c)
          link.phase link.expected w.up (w.down ++ stamped c frames) not_up
          (half-told_plain c w.dte.phase w.dte.oldest w.dte.next w.dte.top w.dte.queue w.dce.phase w.dce.expected
          (w.dte_offered c)
          (w.dce_accepted c) c frames w.up w.down i.out plain);
      back = half-x_out c w.dce.phase w.dce.oldest w.dce.next w.dce.top w.dce.queue w.dte.phase w.dte.expected
          (w.dce_offered c) (w.dte_accepted c)
          link.phase link.oldest link.next link.top link.queue (w.down ++ stamped c frames) w.up not_up
          (half-sent_plain c w.dce.phase w.dce.oldest w.dce.next w.dce.top w.dce.queue w.dte.phase w.dte.expected
          (w.dce_offered c)
          (w.dte_accepted c) c frames w.down w.up i.back plain);
      ups = i.ups;
      downs = downs-more c w.act w.dte.bit 0 w.down frames (omega arith) i.downs
          (each-weaken IsDm (λ f. OfDown w.act w.dte.bit c f.content f.pf) (of_down-dm w.act w.dte.bit c) frames
          dm);
      up_in = λ e. let j = i.up_in e in record {
        act_is = j.act_is;
        own_is = j.own_is;
        of_it = flight-append (λ s. s.act ≡ c) w.down (stamped c frames) j.of_it (stamped-own c frames);
      };
      down_out = λ e. let j = i.down_out e in (
        j.0,
        flight-append (λ s. is_ua s.frame.content ≡ false) w.down (stamped c frames) j.1
            (flight-stamped (λ s. is_ua s.frame.content ≡ false) c frames
            (each-weaken IsDm (λ f. is_ua f.content ≡ false) (λ f e. ap is_ua e) frames
            dm)),
      );
      setting = λ e f. let j = i.setting e f in record {
        fresh = fresh j.fresh;
        none_offered = j.none_offered;
        none_sent = j.none_sent;
      };
      again = elim i.again [ inl off ↦ inl off | inr f ↦ inr (fresh f) ];
      mute = λ e h. absurd (not_up e);
      lists = i.lists;
      reached = i.reached;
    }

-- ---- a SABM

emptied-same : (lists : ℕ → List Octets) (t : ℕ) → emptied true lists t t ≡ []
emptied-same lists t =
    cond_by (λ b. (if b then [] else lists t) ≡ []) (t == t) (λ _. refl) (λ e. absurd (eqb-false t t e refl))

emptied-other : (lists : ℕ → List Octets) (t u : ℕ) → (u ≡ t → ⊥) → emptied true lists t u ≡ lists u
emptied-other lists t u other =
    cond_by (λ b. (if b then [] else lists u) ≡ lists u) (u == t) (λ e. absurd (other (eqb-true u t e))) (λ _. refl)

carries-none : (o : List Octets) (lo hi : ℕ) (content : Content) → is_numbered content ≡ false → Carries o lo hi
    content
carries-none o lo hi (I ns nr packet) e = absurd (cc)
carries-none o lo hi (Rr nr) e = tt
carries-none o lo hi (Rnr nr) e = tt
carries-none o lo hi (Rej nr) e = tt
carries-none o lo hi Sabm e = tt
carries-none o lo hi Disc e = tt
carries-none o lo hi Dm e = tt
carries-none o lo hi Ua e = tt
carries-none o lo hi (Frmr report) e = tt

tells-none : (count : ℕ) (content : Content) → is_numbered content ≡ false → Tells count content
tells-none count (I ns nr packet) e = absurd (cc)
tells-none count (Rr nr) e = absurd (cc)
tells-none count (Rnr nr) e = absurd (cc)
tells-none count (Rej nr) e = absurd (cc)
tells-none count Sabm e = tt
tells-none count Disc e = tt
tells-none count Dm e = tt
tells-none count Ua e = tt
tells-none count (Frmr report) e = tt

data-none : (c : ℕ) (o : List Octets) (flow : List Sent) → NoneOf c flow → Data c o 0 0 flow
data-none c o [] none = tt
data-none c o (s ∷ rest) none = (
  0,
  omega arith,
  omega arith,
  λ e. carries-none o 0 0 s.frame.content (none.0 e),
  data-none c o rest none.1,
)

acks-none : (c : ℕ) (flow : List Sent) → NoneOf c flow → Acks c 0 0 flow
acks-none c [] none = tt
acks-none c (s ∷ rest) none = (
  0,
  omega arith,
  omega arith,
  λ e. tells-none 0 s.frame.content (none.0 e),
  acks-none c
      rest none.1,
)

none_of-all : (c : ℕ) (flow : List Sent) → NoNumbered flow → NoneOf c flow
none_of-all c flow none = flight-weaken (λ s. is_numbered s.frame.content ≡ false) (λ s. s.act ≡ c → is_numbered
    s.frame.content ≡ false)
    (λ s e _. e) flow none

-- what is known of the act t that the DCE enters, whether it stood in it or not
record Enters (w : World) (t : ℕ) (rest : List Sent) : Type 0 where
  from : w.session ≤ t
  upto : t ≤ w.act
  dte_none : w.dte_accepted t ≡ []
  none : NoneOf t w.down
  ups : Ups t w.act w.dte.bit t rest
  up_in : w.dte.phase ≡ Phase.Up → InSession w.act w.own t w.down
  setting : w.dte.phase ≡ Phase.SettingUp → w.act ≡ t → (w.dte_offered t ≡ []) × NoNumbered rest
  out : Half' t w.dte.phase w.dte.oldest w.dte.next w.dte.top w.dte.queue Phase.Up 0 (w.dte_offered t) [] rest w.down
  told : Acks t 0 0 rest
  takes : w.dte.phase ≡ Phase.Up → w.dte.expected ≡ 0

acks-zero : (c top lo : ℕ) (acks : List Sent) → top ≡ 0 → Acks c top lo acks → Acks c 0 0 acks
acks-zero c top lo acks e a = acks-lower c 0 lo 0 acks (omega arith) (subst (λ (n : ℕ). Acks c n lo acks) e a)

zero-mod : (v n : ℕ) → v ≡ n % 8 → n ≡ 0 → v ≡ 0
zero-mod v n e f = omega arith

enters_again : (w : World) (s : Sent) (rest : List Sent) → Inv (record w { up = s ∷ rest }) → is_sabm
    s.frame.content ≡ true →
    s.act ≡ w.session → Enters w w.session rest
enters_again w s rest i is same =
    let c : ℕ = w.session in
    let f : IsFresh w = elim i.again [ inl off ↦ absurd (let x = off.0 same in cc) | inr f ↦ f ] in
    let lost = lost_up w s rest i in
    record {
      from = omega arith;
      upto = i.reached;
      dte_none = f.dte_none;
      none = f.none;
      ups = lost.ups;
      up_in = i.up_in;
      setting = λ e a. let j = i.setting e a in (j.none_offered, j.none_sent.1);
      out = subst (λ (xs : List Octets). Half' c w.dte.phase w.dte.oldest w.dte.next w.dte.top w.dte.queue Phase.Up 0
          (w.dte_offered c) xs rest w.down)
          f.dce_none (half-y_begins c w.dte.phase w.dte.oldest w.dte.next w.dte.top w.dte.queue w.dce.phase
          w.dce.expected (w.dte_offered c)
          (w.dce_accepted c) rest w.down f.dce_none lost.out);
      told = acks-zero c (length (w.dte_accepted c)) lost.back.a rest (ap (λ (xs : List Octets). length xs)
          f.dte_none) lost.back.told;
      takes = λ e. zero-mod w.dte.expected (length (w.dte_accepted c)) (lost.back.takes e) (ap (λ (xs : List Octets).
          length xs) f.dte_none);
    }

enters_later : (w : World) (s : Sent) (rest : List Sent) → Inv (record w { up = s ∷ rest }) → w.session < s.act →
    Enters w s.act rest
enters_later w s rest i less =
    let t : ℕ = s.act in
    let upto : t ≤ w.act = i.ups.1 in
    let later = i.lists.later t less in
    let not_up : w.dte.phase ≡ Phase.Up → ⊥ = λ e. let same = (i.up_in e).act_is in omega arith in
    let none_up : NoNumbered rest = no_numbered-late w.session t w.act w.dte.bit t rest less (omega arith) i.ups.3 in
    let none_down : NoneOf t w.down = none_of-later w.session t w.act w.dte.bit 0 w.down less i.downs in
    record {
      from = omega arith;
      upto = upto;
      dte_none = later.1;
      none = none_down;
      ups = ups-enters w.session t w.act w.dte.bit t rest less (omega arith) i.ups.3;
      up_in = λ e. absurd (not_up e);
      setting = λ e a. (later.0, none_up);
      out = record {
        a = 0;
        m = 0;
        a_le = omega arith;
        acc_le = omega arith;
        m_le = omega arith;
        near = omega arith;
        in_order = prefix-refl (w.dte_offered t);
        carried = data-none t (w.dte_offered t) rest (none_of-all t rest none_up);
        told = acks-none t w.down none_down;
        sends = λ e. absurd (not_up e);
        takes = λ _. refl;
      };
      told = acks-none t rest (none_of-all t rest none_up);
      takes = λ e. absurd (not_up e);
    }

-- the world after the DCE has entered act t and answered
abbrev entered : World → (t : ℕ) → List Sent → Bool → List Bool → World
entered w t rest p kept = record w {
  dce = cleared w.dce Phase.Up;
  up = rest;
  session = t;
  dce_offered = emptied true w.dce_offered t;
  dce_accepted = emptied true w.dce_accepted t;
  down = w.down ++ stamped t (kept_of kept (response Ua p ∷ []));
}

IsAnswer : Bool → FrameValue → Type 0
IsAnswer p f = (f.content ≡ Ua) × (f.pf ≡ p)

enters : (w : World) (t : ℕ) (rest : List Sent) (p : Bool) (kept : List Bool) → w.dte.role ≡ Dte → w.dce.role ≡ Dce →
    w.dte.k ≤ 7 → w.dce.k ≤ 7 →
    (w.dte.phase ≡ Phase.Rejecting → ⊥) → (w.dte.phase ≡ Phase.Down → ⊥) →
    Downs w.session w.act w.dte.bit 0 w.down → Lists w.session w.dte_offered w.dte_accepted w.dce_offered
    w.dce_accepted →
    ((t ≡ w.act) × (p ≡ w.dte.bit)) ⊎ ((t < w.act) × (p ≡ not w.dte.bit)) → Enters w t rest → Inv (entered w t rest p
    kept)
unfolding IsAnswer
enters w t rest p kept dte_role dce_role dte_k dce_k rejecting down_out downs lists which n =
    let frames : List FrameValue = kept_of kept (response Ua p ∷ []) in
    let answer : Each (IsAnswer p) frames = each-kept (IsAnswer p) kept (response Ua p ∷ []) (
      (
        refl,
        refl,
      ),
      tt,
    ) in
    let plain : Each IsPlain frames = each-weaken (IsAnswer p) IsPlain (λ f e. ap is_numbered e.0) frames answer in
    let oc : ℕ → List Octets = emptied true w.dce_offered t in
    let ac : ℕ → List Octets = emptied true w.dce_accepted t in
    let oc_is : oc t ≡ [] = emptied-same w.dce_offered t in
    let ac_is : ac t ≡ [] = emptied-same w.dce_accepted t in
    let down : List Sent = w.down ++ stamped t frames in
    let fresh : Fresh Phase.Up false t (w.dte_accepted t) (ac t) down = record {
      dte_none = n.dte_none;
      dce_none = ac_is;
      none = flight-append (λ s. s.act ≡ t → is_numbered s.frame.content ≡ false) w.down (stamped t frames) n.none
          (flight-stamped (λ s. s.act ≡ t → is_numbered s.frame.content ≡ false) t frames
          (each-weaken IsPlain (λ f. t ≡ t → is_numbered f.content ≡ false) (λ f e _. e) frames plain));
      unheard = λ _. refl;
    } in
    let back : Half' t Phase.Up 0 0 0 [] w.dte.phase w.dte.expected [] [] w.down rest = record {
      a = 0;
      m = 0;
      a_le = omega arith;
      acc_le = omega arith;
      m_le = omega arith;
      near = omega arith;
      in_order = prefix-refl [];
      carried = data-none t [] w.down n.none;
      told = n.told;
      sends = λ _. record { oldest = refl; queue_is = refl; next_le = omega arith; top_is = refl; few = omega arith };
      takes = n.takes;
    } in
    record {
      dte_role = dte_role;
      dce_role = dce_role;
      dte_k = dte_k;
      dce_k = dce_k;
      dte_phase = rejecting;
      dce_phase = λ e. cc;
      dce_set = λ e. cc;
      out = subst (λ (xs : List Octets). Half' t w.dte.phase w.dte.oldest w.dte.next w.dte.top w.dte.queue Phase.Up 0
          (w.dte_offered t) xs rest down)
          (sym ac_is)
          (half-told_plain t w.dte.phase w.dte.oldest w.dte.next w.dte.top w.dte.queue Phase.Up 0 (w.dte_offered t) []
          t frames rest w.down n.out plain);
      back = subst (λ (xs : List Octets). Half' t Phase.Up 0 0 0 [] w.dte.phase w.dte.expected xs (w.dte_accepted t)
          down rest) (sym oc_is)
          (subst (λ (xs : List Octets). Half' t Phase.Up 0 0 0 [] w.dte.phase w.dte.expected [] xs down rest) (sym
          n.dte_none)
          (half-sent_plain t Phase.Up 0 0 0 [] w.dte.phase w.dte.expected [] [] t frames w.down rest back plain));
      ups = n.ups;
      downs = downs-more t w.act w.dte.bit 0 w.down frames (omega arith) (downs-raise w.session t w.act w.dte.bit 0
          w.down n.from downs)
          (each-weaken (IsAnswer p) (λ f. OfDown w.act w.dte.bit t f.content f.pf)
          (λ f e. subst (λ (x : Content). OfDown w.act w.dte.bit t x f.pf) (sym e.0)
          (subst (λ b. ((t ≡ w.act) × (b ≡ w.dte.bit)) ⊎ ((t < w.act) × (b ≡ not w.dte.bit))) (sym e.1) which)) frames
          answer);
      up_in = λ e. let j = n.up_in e in record {
        act_is = j.act_is;
        own_is = j.own_is;
        of_it = flight-append (λ s. s.act ≡ t) w.down (stamped t frames) j.of_it (stamped-own t frames);
      };
      down_out = λ e. absurd (down_out e);
      setting = λ e a. let j = n.setting e a in record { fresh = fresh; none_offered = j.0; none_sent = j.1 };
      again = inr fresh;
      mute = λ e h. record { not_owed = refl; none_sent = refl; no_poll = refl; free = refl };
      lists = record {
        later = λ u less. let e = lists.later u (omega (arith, n.from)) in (
          e.0,
          e.1,
          emptied-other w.dce_offered t u (λ x. absurd (omega arith)) ∙ e.2,
          emptied-other w.dce_accepted t u (λ x. absurd (omega arith)) ∙ e.3,
        );
        at_dce = λ u. cond_by (λ _. IsPrefix (ac u) (w.dte_offered u)) (u == t)
            (λ e. subst (λ (x : ℕ). IsPrefix (ac x) (w.dte_offered x)) (sym (eqb-true u t e))
            (subst (λ (xs : List Octets). IsPrefix xs (w.dte_offered t)) (sym ac_is) (prefix-refl (w.dte_offered t))))
            (λ e. subst (λ (xs : List Octets). IsPrefix xs (w.dte_offered u)) (sym (emptied-other w.dce_accepted t u
            (eqb-false u t e))) (lists.at_dce u));
        at_dte = λ u. cond_by (λ _. IsPrefix (w.dte_accepted u) (oc u)) (u == t)
            (λ e. subst (λ (x : ℕ). IsPrefix (w.dte_accepted x) (oc x)) (sym (eqb-true u t e))
            (subst (λ (xs : List Octets). IsPrefix xs (oc t)) (sym n.dte_none) (prefix-refl (oc t))))
            (λ e. subst (λ (xs : List Octets). IsPrefix (w.dte_accepted u) xs) (sym (emptied-other w.dce_offered t u
            (eqb-false u t e))) (lists.at_dte u));
      };
      reached = n.upto;
    }

-- the content of a SABM
is_sabm-is : (content : Content) → is_sabm content ≡ true → content ≡ Sabm
is_sabm-is Sabm e = refl
is_sabm-is (I ns nr packet) e = absurd (cc)
is_sabm-is (Rr nr) e = absurd (cc)
is_sabm-is (Rnr nr) e = absurd (cc)
is_sabm-is (Rej nr) e = absurd (cc)
is_sabm-is Disc e = absurd (cc)
is_sabm-is Dm e = absurd (cc)
is_sabm-is Ua e = absurd (cc)
is_sabm-is (Frmr report) e = absurd (cc)

pub dce_enters_act : (w : World) (s : Sent) (rest : List Sent) (kept : List Bool) → Inv (record w { up = s ∷ rest }) →
    is_sabm s.frame.content ≡ true → Inv (entered w s.act rest s.frame.pf kept)
dce_enters_act w s rest kept i is =
    let from : w.session ≤ s.act = i.ups.0 in
    let out : w.dte.phase ≡ Phase.Down → ⊥ = λ e. let none = (i.down_out e).0.0 in cc in
    let set : OfUp w.session w.act w.dte.bit s.act rest Sabm s.frame.pf =
    subst (λ (x : Content). OfUp w.session w.act w.dte.bit s.act rest x s.frame.pf) (is_sabm-is s.frame.content
    is) i.ups.2 in
    let which : ((s.act ≡ w.act) × (s.frame.pf ≡ w.dte.bit)) ⊎ ((s.act < w.act) × (s.frame.pf ≡ not w.dte.bit)) =
    elim set [ inl e ↦ inl e | inr e ↦ inr (e.1, e.2) ] in
    let known : Enters w s.act rest =
    cond_by (λ _. Enters w s.act rest) (s.act == w.session)
    (λ e. let same = eqb-true s.act w.session e in
    subst (λ (t : ℕ). Enters w t rest) (sym same) (enters_again w s rest i is same))
    (λ e. let other = eqb-false s.act w.session e in enters_later w s rest i (less s.act w.session from other)) in
    enters w s.act rest s.frame.pf kept i.dte_role i.dce_role i.dte_k i.dce_k i.dte_phase out i.downs i.lists which
    known
  where
    less : (t c : ℕ) → c ≤ t → (t ≡ c → ⊥) → c < t
    less t c le other = grind arith
