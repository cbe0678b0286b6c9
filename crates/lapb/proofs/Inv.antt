-- What every state of two links and their line meets, and that a loss, a restart or silence keeps it.
use Rattle.std.specs.Prelude.{◌≡◌, ℕ, ◌<◌, ◌≤◌, Bool, true, false, ◌⊎◌, List, [], ◌∷◌, ◌++◌, Option, Some, None}
use Rattle.std.specs.Prelude.{if◌then◌else◌, ◌==◌}
use Rattle.std.proofs.Common.{refl, sym, ap, ◌∙◌, subst, inl, inr, arith, append-nil, eqb-true}
use Rattle.std.proofs.lemmas.Bool.{eqb-false}
use Rattle.link_timers.specs.declared.role.Role.{Role}
use Rattle.link_timers.specs.declared.role.Role.TheVariants.{Dte, Dce}
use Rattle.frame_codec.specs.Frame.{FrameValue}
use Rattle.lapb.specs.declared.phase.Phase.{Phase}
use Rattle.lapb.specs.Machine.{Octets, remade}
use Rattle.lapb.specs.Named.{with_packet}
use Rattle.lapb.specs.World.{Sent, World, logged, stamped, kept_of, IsPrefix}
use Rattle.lapb.proofs.Cases.{cond_by, phase_by}
use Rattle.lapb.proofs.Halves.{Half, half-lost, half-lost_back, half-emptied, half-x_out, half-y_out}
use Rattle.lapb.proofs.Flights.{NoSabmOf, NoSabm, NoAnswer, NoNumbered, NoneOf, Stamped, Ups, ups-lower, Downs}
use Rattle.lapb.proofs.Flights.{downs-lower}

-- nothing of session c was accepted, nothing with N(R) is on the way to the DTE, and the DCE has not heard the DTE
pub record Fresh (phase : Phase) (heard : Bool) (c : ℕ) (dte_accepted dce_accepted : List Octets) (down : List Sent) :
    Type 0 where
  pub dte_none : dte_accepted ≡ []
  pub dce_none : dce_accepted ≡ []
  pub none : NoneOf c down
  pub unheard : phase ≡ Phase.Up → heard ≡ false

abbrev pub IsFresh : World → Type 0
IsFresh w = Fresh w.dce.phase w.dce.heard w.session (w.dte_accepted w.session) (w.dce_accepted w.session) w.down

-- a DCE that has not heard the DTE has nothing to say
pub record Mute (owed : Bool) (top : ℕ) (polling busy : Bool) : Type 0 where
  pub not_owed : owed ≡ false
  pub none_sent : top ≡ 0
  pub no_poll : polling ≡ false
  pub free : busy ≡ false

-- a DTE that is up
pub record InSession (n own c : ℕ) (down : List Sent) : Type 0 where
  pub act_is : n ≡ c
  pub own_is : own ≡ c
  pub of_it : Stamped c down

-- a DTE whose SABM was taken
pub record Answered (w : World) : Type 0 where
  pub fresh : IsFresh w
  pub none_offered : w.dte_offered w.session ≡ []
  pub none_sent : NoNumbered w.up

-- all lists of later sessions are empty, and each session is in order
pub record Lists (c : ℕ) (dte_offered dte_accepted dce_offered dce_accepted : ℕ → List Octets) : Type 0 where
  pub later : (t : ℕ) → c < t → (dte_offered t ≡ []) × (dte_accepted t ≡ []) × (dce_offered t ≡ []) × (dce_accepted t
      ≡ [])
  pub at_dce : (t : ℕ) → IsPrefix (dce_accepted t) (dte_offered t)
  pub at_dte : (t : ℕ) → IsPrefix (dte_accepted t) (dce_offered t)

pub record Inv (w : World) : Type 0 where
  pub dte_role : w.dte.role ≡ Dte
  pub dce_role : w.dce.role ≡ Dce
  pub dte_k : w.dte.k ≤ 7
  pub dce_k : w.dce.k ≤ 7
  pub dte_phase : w.dte.phase ≡ Phase.Rejecting → ⊥
  pub dce_phase : w.dce.phase ≡ Phase.Rejecting → ⊥
  pub dce_set : w.dce.phase ≡ Phase.SettingUp → ⊥
  pub out : Half w.session w.dte w.dce (w.dte_offered w.session) (w.dce_accepted w.session) w.up w.down
  pub back : Half w.session w.dce w.dte (w.dce_offered w.session) (w.dte_accepted w.session) w.down w.up
  pub ups : Ups w.session w.act w.dte.bit w.session w.up
  pub downs : Downs w.session w.act w.dte.bit 0 w.down
  pub up_in : w.dte.phase ≡ Phase.Up → InSession w.act w.own w.session w.down
  pub down_out : w.dte.phase ≡ Phase.Down → NoSabm w.up × NoAnswer w.down
  pub setting : w.dte.phase ≡ Phase.SettingUp → w.act ≡ w.session → Answered w
  pub again : NoSabmOf w.session w.up ⊎ IsFresh w
  pub mute : w.dce.phase ≡ Phase.Up → w.dce.heard ≡ false → Mute w.dce.owed w.dce.top w.dce.polling w.dce.busy
  pub lists : Lists w.session w.dte_offered w.dte_accepted w.dce_offered w.dce_accepted
  pub reached : w.session ≤ w.act

-- ---- a world whose end has its role and a phase

abbrev pub dte_in : World → Phase → World
dte_in w phase = record w { dte = record w.dte { role = Dte; phase = phase } }

abbrev pub dce_in : World → Phase → World
dce_in w phase = record w { dce = record w.dce { role = Dce; phase = phase } }

pub by_dte : (Q : World → Type 0) (w : World) → w.dte.role ≡ Dte → Q (dte_in w Phase.Down) → Q (dte_in w
    Phase.SettingUp) →
    Q (dte_in w Phase.Up) → Q (dte_in w Phase.Rejecting) → Q w
by_dte Q w role a b c d =
    let R : Role → Type 0 = λ r. Q (record w { dte = record w.dte { role = r } }) in
    subst R (sym role) (phase_by (λ p. Q (dte_in w p)) w.dte.phase (λ _. a) (λ _. b) (λ _. c) (λ _. d))

pub by_dce : (Q : World → Type 0) (w : World) → w.dce.role ≡ Dce → Q (dce_in w Phase.Down) → Q (dce_in w
    Phase.SettingUp) →
    Q (dce_in w Phase.Up) → Q (dce_in w Phase.Rejecting) → Q w
by_dce Q w role a b c d =
    let R : Role → Type 0 = λ r. Q (record w { dce = record w.dce { role = r } }) in
    subst R (sym role) (phase_by (λ p. Q (dce_in w p)) w.dce.phase (λ _. a) (λ _. b) (λ _. c) (λ _. d))

-- ---- nothing is sent

pub kept-nothing : (kept : List Bool) → kept_of kept [] ≡ []
kept-nothing [] = refl
kept-nothing (true ∷ kept) = refl
kept-nothing (false ∷ kept) = refl

pub nothing_sent : (flow : List Sent) (t : ℕ) (kept : List Bool) → flow ≡ flow ++ stamped t (kept_of kept [])
nothing_sent flow t kept = sym (append-nil flow) ∙ ap (λ (fs : List FrameValue). flow ++ stamped t fs) (sym
    (kept-nothing kept))

pub dte_silent : (w : World) (kept : List Bool) → Inv w → Inv (record w {
  up = w.up ++ stamped w.act (kept_of kept []);
})
dte_silent w kept i = subst (λ flow. Inv (record w { up = flow })) (nothing_sent w.up w.act kept) i

pub dce_silent : (w : World) (kept : List Bool) → Inv w → Inv (record w {
  down = w.down ++ stamped w.session (kept_of
      kept []);
})
dce_silent w kept i = subst (λ flow. Inv (record w { down = flow })) (nothing_sent w.down w.session kept) i

-- ---- losses

fresh-lost : (phase : Phase) (heard : Bool) (c : ℕ) (da ca : List Octets) (s : Sent) (rest : List Sent) → Fresh phase
    heard c da ca (s ∷ rest) →
    Fresh phase heard c da ca rest
fresh-lost phase heard c da ca s rest f = record {
  dte_none = f.dte_none;
  dce_none = f.dce_none;
  none = f.none.1;
  unheard = f.unheard;
}

pub lost_down : (w : World) (s : Sent) (rest : List Sent) → Inv (record w { down = s ∷ rest }) → Inv (record w {
  down
      = rest;
})
lost_down w s rest i = record {
  dte_role = i.dte_role;
  dce_role = i.dce_role;
  dte_k = i.dte_k;
  dce_k = i.dce_k;
  dte_phase = i.dte_phase;
  dce_phase = i.dce_phase;
  dce_set = i.dce_set;
  out = half-lost_back w.session w.dte.phase w.dte.oldest w.dte.next w.dte.top w.dte.queue w.dce.phase w.dce.expected
      (w.dte_offered w.session) (w.dce_accepted w.session) s w.up rest i.out;
  back = half-lost w.session w.dce.phase w.dce.oldest w.dce.next w.dce.top w.dce.queue w.dte.phase w.dte.expected
      (w.dce_offered w.session) (w.dte_accepted w.session) s rest w.up i.back;
  ups = i.ups;
  downs = downs-lower w.session w.act w.dte.bit s.act 0 rest (omega arith) i.downs.3;
  up_in = λ e. let j = i.up_in e in record { act_is = j.act_is; own_is = j.own_is; of_it = j.of_it.1 };
  down_out = λ e. let j = i.down_out e in (j.0, j.1.1);
  setting = λ e f. let j = i.setting e f in record {
    fresh = fresh-lost w.dce.phase w.dce.heard w.session (w.dte_accepted w.session) (w.dce_accepted w.session) s rest
        j.fresh;
    none_offered = j.none_offered;
    none_sent = j.none_sent;
  };
  again = elim i.again [
    | inl none ↦ inl none
    | inr f ↦ inr (fresh-lost w.dce.phase w.dce.heard w.session (w.dte_accepted w.session) (w.dce_accepted w.session)
        s rest f)
  ];
  mute = i.mute;
  lists = i.lists;
  reached = i.reached;
}

pub lost_up : (w : World) (s : Sent) (rest : List Sent) → Inv (record w { up = s ∷ rest }) → Inv (record w {
  up = rest;
})
lost_up w s rest i = record {
  dte_role = i.dte_role;
  dce_role = i.dce_role;
  dte_k = i.dte_k;
  dce_k = i.dce_k;
  dte_phase = i.dte_phase;
  dce_phase = i.dce_phase;
  dce_set = i.dce_set;
  out = half-lost w.session w.dte.phase w.dte.oldest w.dte.next w.dte.top w.dte.queue w.dce.phase w.dce.expected
      (w.dte_offered w.session) (w.dce_accepted w.session) s rest w.down i.out;
  back = half-lost_back w.session w.dce.phase w.dce.oldest w.dce.next w.dce.top w.dce.queue w.dte.phase w.dte.expected
      (w.dce_offered w.session) (w.dte_accepted w.session) s w.down rest i.back;
  ups = ups-lower w.session w.act w.dte.bit s.act w.session rest i.ups.0 i.ups.3;
  downs = i.downs;
  up_in = i.up_in;
  down_out = λ e. let j = i.down_out e in (j.0.1, j.1);
  setting = λ e f. let j = i.setting e f in record {
    fresh = j.fresh;
    none_offered = j.none_offered;
    none_sent =
        j.none_sent.1;
  };
  again = elim i.again [ inl none ↦ inl (none.1) | inr f ↦ inr f ];
  mute = i.mute;
  lists = i.lists;
  reached = i.reached;
}

-- ---- restarts

down-not_up : Phase.Down ≡ Phase.Up → ⊥
down-not_up e = cc

pub dte_restarts : (w : World) → Inv w → Inv (record w { dte = remade w.dte; up = []; down = [] })
dte_restarts w i = record {
  dte_role = i.dte_role;
  dce_role = i.dce_role;
  dte_k = i.dte_k;
  dce_k = i.dce_k;
  dte_phase = λ e. cc;
  dce_phase = i.dce_phase;
  dce_set = i.dce_set;
  out = half-x_out w.session w.dte.phase w.dte.oldest w.dte.next w.dte.top w.dte.queue w.dce.phase w.dce.expected
      (w.dte_offered w.session) (w.dce_accepted w.session) Phase.Down 0 0 0 [] [] [] down-not_up
      (half-emptied w.session w.dte.phase w.dte.oldest w.dte.next w.dte.top w.dte.queue w.dce.phase w.dce.expected
      (w.dte_offered w.session) (w.dce_accepted w.session) w.up w.down i.out);
  back = half-y_out w.session w.dce.phase w.dce.oldest w.dce.next w.dce.top w.dce.queue w.dte.phase w.dte.expected
      (w.dce_offered w.session) (w.dte_accepted w.session) Phase.Down 0 [] [] down-not_up
      (half-emptied w.session w.dce.phase w.dce.oldest w.dce.next w.dce.top w.dce.queue w.dte.phase w.dte.expected
      (w.dce_offered w.session) (w.dte_accepted w.session) w.down w.up i.back);
  ups = tt;
  downs = tt;
  up_in = λ e. absurd (cc);
  down_out = λ e. (tt, tt);
  setting = λ e f. absurd (cc);
  again = inl tt;
  mute = i.mute;
  lists = i.lists;
  reached = i.reached;
}

pub dce_restarts : (w : World) → Inv w → Inv (record w { dce = remade w.dce; up = []; down = [] })
dce_restarts w i = record {
  dte_role = i.dte_role;
  dce_role = i.dce_role;
  dte_k = i.dte_k;
  dce_k = i.dce_k;
  dte_phase = i.dte_phase;
  dce_phase = λ e. cc;
  dce_set = λ e. cc;
  out = half-y_out w.session w.dte.phase w.dte.oldest w.dte.next w.dte.top w.dte.queue w.dce.phase w.dce.expected
      (w.dte_offered w.session) (w.dce_accepted w.session) Phase.Down 0 [] [] down-not_up
      (half-emptied w.session w.dte.phase w.dte.oldest w.dte.next w.dte.top w.dte.queue w.dce.phase w.dce.expected
      (w.dte_offered w.session) (w.dce_accepted w.session) w.up w.down i.out);
  back = half-x_out w.session w.dce.phase w.dce.oldest w.dce.next w.dce.top w.dce.queue w.dte.phase w.dte.expected
      (w.dce_offered w.session) (w.dte_accepted w.session) Phase.Down 0 0 0 [] [] [] down-not_up
      (half-emptied w.session w.dce.phase w.dce.oldest w.dce.next w.dce.top w.dce.queue w.dte.phase w.dte.expected
      (w.dce_offered w.session) (w.dte_accepted w.session) w.down w.up i.back);
  ups = tt;
  downs = tt;
  up_in = λ e. let j = i.up_in e in record { act_is = j.act_is; own_is = j.own_is; of_it = tt };
  down_out = λ e. (tt, tt);
  setting = λ e f. let j = i.setting e f in record {
    fresh = record {
      dte_none = j.fresh.dte_none;
      dce_none = j.fresh.dce_none;
      none = tt;
      unheard = λ u. absurd (cc);
    };
    none_offered = j.none_offered;
    none_sent = tt;
  };
  again = inl tt;
  mute = λ u h. absurd (cc);
  lists = i.lists;
  reached = i.reached;
}

-- ---- lists that change in the session c alone

pub lists-change : (c : ℕ) (od ad oc ac od' ad' oc' ac' : ℕ → List Octets) → Lists c od ad oc ac →
    ((t : ℕ) → (t ≡ c → ⊥) → (od' t ≡ od t) × (ad' t ≡ ad t) × (oc' t ≡ oc t) × (ac' t ≡ ac t)) →
    IsPrefix (ac' c) (od' c) → IsPrefix (ad' c) (oc' c) → Lists c od' ad' oc' ac'
lists-change c od ad oc ac od' ad' oc' ac' l same up down = record {
  later = λ t less. let e = same t (λ e. absurd (omega arith)) in let f = l.later t less in
      (e.0 ∙ f.0, e.1 ∙ f.1, e.2 ∙ f.2, e.3 ∙ f.3);
  at_dce = λ t. cond_by (λ _. IsPrefix (ac' t) (od' t)) (t == c)
      (λ e. subst (λ (u : ℕ). IsPrefix (ac' u) (od' u)) (sym (eqb-true t c e)) up)
      (λ e. let f = same t (eqb-false t c e) in
      subst (λ (xs : List Octets). IsPrefix xs (od' t)) (sym f.3) (subst (λ (ys : List Octets). IsPrefix (ac t) ys)
      (sym f.0) (l.at_dce t)));
  at_dte = λ t. cond_by (λ _. IsPrefix (ad' t) (oc' t)) (t == c)
      (λ e. subst (λ (u : ℕ). IsPrefix (ad' u) (oc' u)) (sym (eqb-true t c e)) down)
      (λ e. let f = same t (eqb-false t c e) in
      subst (λ (xs : List Octets). IsPrefix xs (oc' t)) (sym f.1) (subst (λ (ys : List Octets). IsPrefix (ad t) ys)
      (sym f.2) (l.at_dte t)));
}

pub logged-other : (lists : ℕ → List Octets) (c : ℕ) (packet : Option Octets) (t : ℕ) → (t ≡ c → ⊥) → logged lists c
    packet t ≡ lists t
logged-other lists c None t other = refl
logged-other lists c (Some packet) t other =
    cond_by (λ b. (if b then lists t ++ packet ∷ [] else lists t) ≡ lists t) (t == c) (λ e. absurd (other (eqb-true t
    c e))) (λ _. refl)

pub logged-same : (lists : ℕ → List Octets) (own c : ℕ) (packet : Option Octets) → own ≡ c → logged lists own packet c
    ≡ with_packet (lists c) packet
logged-same lists own c None e = refl
logged-same lists own c (Some packet) e =
    cond_by (λ b. (if b then lists c ++ packet ∷ [] else lists c) ≡ lists c ++ packet ∷ []) (c == own) (λ _. refl)
    (λ f. absurd (eqb-false c own f (sym e)))
