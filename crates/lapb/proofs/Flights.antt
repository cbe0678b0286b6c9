-- The frames on the way to each end: in whose acts they were sent, and which SABM and UA are among them.
use Rattle.std.specs.Prelude.{◌≡◌, ℕ, ◌+◌, ◌<◌, ◌≤◌, Bool, true, false, not, ◌⊎◌, List, [], ◌∷◌, ◌++◌}
use Rattle.std.proofs.Common.{refl, sym, ◌∙◌, subst, inl, inr, arith}
use Rattle.frame_codec.specs.Frame.{FrameValue, Content}
use Rattle.frame_codec.specs.Frame.Content.{I, Rr, Rnr, Rej, Sabm, Disc, Dm, Ua, Frmr}
use Rattle.lapb.specs.World.{Sent, stamped, is_sabm, is_ua, is_frmr, NoFrmr}
use Rattle.lapb.proofs.Cases.{Each}
use Rattle.lapb.proofs.Steps.{is_numbered}

-- ---- a fact of each frame on the way

abbrev pub Flight : (Sent → Type 0) → List Sent → Type 0
Flight P [] = Unit {0}
Flight P (s ∷ rest) = P s × Flight P rest

pub flight-weaken : (P Q : Sent → Type 0) → ((s : Sent) → P s → Q s) → (flow : List Sent) → Flight P flow → Flight Q
    flow
flight-weaken P Q f [] all = tt
flight-weaken P Q f (s ∷ rest) all = (f s all.0, flight-weaken P Q f rest all.1)

pub flight-append : (P : Sent → Type 0) (flow new : List Sent) → Flight P flow → Flight P new → Flight P (flow ++ new)
flight-append P [] new all more = more
flight-append P (s ∷ rest) new all more = (all.0, flight-append P rest new all.1 more)

pub flight-stamped : (P : Sent → Type 0) (t : ℕ) (frames : List FrameValue) → Each (λ f. P (record {
  frame = f;
  act =
      t;
})) frames →
    Flight P (stamped t frames)
flight-stamped P t [] all = tt
flight-stamped P t (f ∷ frames) all = (all.0, flight-stamped P t frames all.1)

abbrev pub NoSabmOf : ℕ → List Sent → Type 0
NoSabmOf c = Flight (λ s. s.act ≡ c → is_sabm s.frame.content ≡ false)

abbrev pub NoSabm : List Sent → Type 0
NoSabm = Flight (λ s. is_sabm s.frame.content ≡ false)

abbrev pub NoAnswer : List Sent → Type 0
NoAnswer = Flight (λ s. is_ua s.frame.content ≡ false)

abbrev pub NoNumbered : List Sent → Type 0
NoNumbered = Flight (λ s. is_numbered s.frame.content ≡ false)

abbrev pub NoneOf : ℕ → List Sent → Type 0
NoneOf c = Flight (λ s. s.act ≡ c → is_numbered s.frame.content ≡ false)

abbrev pub Stamped : ℕ → List Sent → Type 0
Stamped c = Flight (λ s. s.act ≡ c)

-- ---- to the DCE, which stands in act c, from the DTE in act n, whose SABMs have P = p

abbrev pub OfUp : (c n : ℕ) (p : Bool) (t : ℕ) (behind : List Sent) → Content → Bool → Type 0
OfUp c n p t behind Sabm pf = ((t ≡ n) × (pf ≡ p)) ⊎ ((t ≡ c) × (t < n) × (pf ≡ not p))
OfUp c n p t behind (I ns nr packet) pf = (t ≡ c) × NoSabmOf c behind
OfUp c n p t behind (Rr nr) pf = (t ≡ c) × NoSabmOf c behind
OfUp c n p t behind (Rnr nr) pf = (t ≡ c) × NoSabmOf c behind
OfUp c n p t behind (Rej nr) pf = (t ≡ c) × NoSabmOf c behind
OfUp c n p t behind Dm pf = Unit {0}
OfUp c n p t behind Disc pf = ⊥
OfUp c n p t behind Ua pf = ⊥
OfUp c n p t behind (Frmr report) pf = ⊥

-- the acts rise from lo to n
abbrev pub Ups : (c n : ℕ) (p : Bool) (lo : ℕ) → List Sent → Type 0
Ups c n p lo [] = Unit {0}
Ups c n p lo (s ∷ rest) = (lo ≤ s.act) × (s.act ≤ n) × OfUp c n p s.act rest s.frame.content s.frame.pf × Ups c n p
    s.act rest

pub ups-lower : (c n : ℕ) (p : Bool) (lo lo' : ℕ) (up : List Sent) → lo' ≤ lo → Ups c n p lo up → Ups c n p lo' up
ups-lower c n p lo lo' [] le u = tt
ups-lower c n p lo lo' (s ∷ rest) le u = (omega (arith, u.0), u.1, u.2, u.3)

-- what a DTE sends that sets nothing up
abbrev pub Speaks : ℕ → ℕ → Content → Type 0
Speaks c n (I ns nr packet) = n ≡ c
Speaks c n (Rr nr) = n ≡ c
Speaks c n (Rnr nr) = n ≡ c
Speaks c n (Rej nr) = n ≡ c
Speaks c n Dm = Unit {0}
Speaks c n Sabm = ⊥
Speaks c n Disc = ⊥
Speaks c n Ua = ⊥
Speaks c n (Frmr report) = ⊥

speaks-no_sabm : (c n : ℕ) (content : Content) → Speaks c n content → is_sabm content ≡ false
speaks-no_sabm c n (I ns nr packet) s = refl
speaks-no_sabm c n (Rr nr) s = refl
speaks-no_sabm c n (Rnr nr) s = refl
speaks-no_sabm c n (Rej nr) s = refl
speaks-no_sabm c n Dm s = refl
speaks-no_sabm c n Sabm s = absurd s
speaks-no_sabm c n Disc s = absurd s
speaks-no_sabm c n Ua s = absurd s
speaks-no_sabm c n (Frmr report) s = absurd s

pub no_sabm-spoken : (c n : ℕ) (frames : List FrameValue) → Each (λ f. Speaks c n f.content) frames → NoSabmOf c
    (stamped n frames)
no_sabm-spoken c n [] all = tt
no_sabm-spoken c n (f ∷ frames) all = (λ _. speaks-no_sabm c n f.content all.0, no_sabm-spoken c n frames all.1)

of_up-spoken : (c n : ℕ) (p : Bool) (behind : List Sent) (content : Content) (pf : Bool) → Speaks c n content →
    NoSabmOf c behind →
    OfUp c n p n behind content pf
of_up-spoken c n p behind (I ns nr packet) pf s none = (s, none)
of_up-spoken c n p behind (Rr nr) pf s none = (s, none)
of_up-spoken c n p behind (Rnr nr) pf s none = (s, none)
of_up-spoken c n p behind (Rej nr) pf s none = (s, none)
of_up-spoken c n p behind Dm pf s none = tt
of_up-spoken c n p behind Sabm pf s none = absurd s
of_up-spoken c n p behind Disc pf s none = absurd s
of_up-spoken c n p behind Ua pf s none = absurd s
of_up-spoken c n p behind (Frmr report) pf s none = absurd s

ups-spoken : (c n : ℕ) (p : Bool) (frames : List FrameValue) → Each (λ f. Speaks c n f.content) frames → Ups c n p n
    (stamped n frames)
ups-spoken c n p [] all = tt
ups-spoken c n p (f ∷ frames) all = (
  omega arith,
  omega arith,
  of_up-spoken c n p (stamped n frames) f.content f.pf all.0 (no_sabm-spoken c n frames
      all.1),
  ups-spoken c n p frames all.1,
)

-- what stands behind may grow by frames without a SABM of c
of_up-more : (c n : ℕ) (p : Bool) (t : ℕ) (behind new : List Sent) (content : Content) (pf : Bool) → (is_numbered
    content ≡ true → NoSabmOf c new) →
    OfUp c n p t behind content pf → OfUp c n p t (behind ++ new) content pf
of_up-more c n p t behind new (I ns nr packet) pf none u =
    (u.0, flight-append (λ s. s.act ≡ c → is_sabm s.frame.content ≡ false) behind new u.1 (none refl))
of_up-more c n p t behind new (Rr nr) pf none u =
    (u.0, flight-append (λ s. s.act ≡ c → is_sabm s.frame.content ≡ false) behind new u.1 (none refl))
of_up-more c n p t behind new (Rnr nr) pf none u =
    (u.0, flight-append (λ s. s.act ≡ c → is_sabm s.frame.content ≡ false) behind new u.1 (none refl))
of_up-more c n p t behind new (Rej nr) pf none u =
    (u.0, flight-append (λ s. s.act ≡ c → is_sabm s.frame.content ≡ false) behind new u.1 (none refl))
of_up-more c n p t behind new Dm pf none u = tt
of_up-more c n p t behind new Sabm pf none u = u
of_up-more c n p t behind new Disc pf none u = absurd u
of_up-more c n p t behind new Ua pf none u = absurd u
of_up-more c n p t behind new (Frmr report) pf none u = absurd u

ups-append : (c n : ℕ) (p : Bool) (lo : ℕ) (up new : List Sent) → lo ≤ n → NoSabmOf c new ⊎ NoNumbered up → Ups c n p lo
    up → Ups c n p n new →
    Ups c n p lo (up ++ new)
ups-append c n p lo [] new le which u v = ups-lower c n p n lo new le v
ups-append c n p lo (s ∷ rest) new le which u v = (
  u.0,
  u.1,
  of_up-more c n p s.act rest new s.frame.content s.frame.pf (λ e. elim which [
    | inl none ↦ none
    | inr off ↦ absurd
        (cc (e, off.0))
  ]) u.2,
  ups-append c n p s.act rest new u.1 (elim which [ inl none ↦ inl none | inr off ↦ inr (off.1) ]) u.3 v,
)

pub ups-speaks : (c n : ℕ) (p : Bool) (lo : ℕ) (up : List Sent) (frames : List FrameValue) → lo ≤ n → Ups c n p lo up
    →
    Each (λ f. Speaks c n f.content) frames → Ups c n p lo (up ++ stamped n frames)
ups-speaks c n p lo up frames le u all =
    ups-append c n p lo up (stamped n frames) le (inl (no_sabm-spoken c n frames all)) u (ups-spoken c n p frames all)

-- the SABMs of the act
abbrev pub Sets : Bool → FrameValue → Type 0
Sets p f = (f.content ≡ Sabm) × (f.pf ≡ p)

ups-set : (c n : ℕ) (p : Bool) (frames : List FrameValue) → Each (Sets p) frames → Ups c n p n (stamped n frames)
ups-set c n p [] all = tt
ups-set c n p (f ∷ frames) all = (
  omega arith,
  omega arith,
  subst (λ content. OfUp c n p n (stamped n frames) content f.pf) (sym all.0.0) (inl (refl, all.0.1)),
  ups-set c n p frames all.1,
)

no_sabm-other : (c n : ℕ) (p : Bool) (frames : List FrameValue) → (n ≡ c → ⊥) → NoSabmOf c (stamped n frames)
no_sabm-other c n p [] other = tt
no_sabm-other c n p (f ∷ frames) other = (λ e. absurd (other e), no_sabm-other c n p frames other)

pub ups-sets : (c n : ℕ) (p : Bool) (lo : ℕ) (up : List Sent) (frames : List FrameValue) → lo ≤ n → (n ≡ c → ⊥) ⊎
    NoNumbered up →
    Ups c n p lo up → Each (Sets p) frames → Ups c n p lo (up ++ stamped n frames)
ups-sets c n p lo up frames le which u all =
    ups-append c n p lo up (stamped n frames) le
    (elim which [ inl other ↦ inl (no_sabm-other c n p frames other) | inr off ↦ inr off ]) u (ups-set c n p frames
    all)

-- the DCE takes a SABM of a later act
of_up-enters : (c t n : ℕ) (p : Bool) (u : ℕ) (behind : List Sent) (content : Content) (pf : Bool) → c < t → t ≤ u →
    OfUp c n p u behind content pf → OfUp t n p u behind content pf
of_up-enters c t n p u behind (I ns nr packet) pf l m o = absurd (let e = o.0 in omega arith)
of_up-enters c t n p u behind (Rr nr) pf l m o = absurd (let e = o.0 in omega arith)
of_up-enters c t n p u behind (Rnr nr) pf l m o = absurd (let e = o.0 in omega arith)
of_up-enters c t n p u behind (Rej nr) pf l m o = absurd (let e = o.0 in omega arith)
of_up-enters c t n p u behind Dm pf l m o = tt
of_up-enters c t n p u behind Sabm pf l m o = elim o [
  | inl e ↦ inl e
  | inr e ↦ absurd (let same = e.0 in omega
      arith)
]
of_up-enters c t n p u behind Disc pf l m o = absurd o
of_up-enters c t n p u behind Ua pf l m o = absurd o
of_up-enters c t n p u behind (Frmr report) pf l m o = absurd o

pub ups-enters : (c t n : ℕ) (p : Bool) (lo : ℕ) (up : List Sent) → c < t → t ≤ lo → Ups c n p lo up → Ups t n p lo up
ups-enters c t n p lo [] l m u = tt
ups-enters c t n p lo (s ∷ rest) l m u =
    let late : t ≤ s.act = omega (arith, u.0) in (
      u.0,
      u.1,
      of_up-enters c t n p s.act rest s.frame.content s.frame.pf l late u.2,
      ups-enters c t n p s.act rest
          l late u.3,
    )

-- frames of a session are of the DCE's own
of_up-numbered : (c n : ℕ) (p : Bool) (t : ℕ) (behind : List Sent) (content : Content) (pf : Bool) → OfUp c n p t
    behind content pf →
    is_numbered content ≡ true → (t ≡ c) × NoSabmOf c behind
of_up-numbered c n p t behind (I ns nr packet) pf o e = o
of_up-numbered c n p t behind (Rr nr) pf o e = o
of_up-numbered c n p t behind (Rnr nr) pf o e = o
of_up-numbered c n p t behind (Rej nr) pf o e = o
of_up-numbered c n p t behind Dm pf o e = absurd (cc)
of_up-numbered c n p t behind Sabm pf o e = absurd (cc)
of_up-numbered c n p t behind Disc pf o e = absurd o
of_up-numbered c n p t behind Ua pf o e = absurd o
of_up-numbered c n p t behind (Frmr report) pf o e = absurd o

pub ups-numbered : (c n : ℕ) (p : Bool) (s : Sent) (rest : List Sent) (lo : ℕ) → Ups c n p lo (s ∷ rest) → is_numbered
    s.frame.content ≡ true →
    (s.act ≡ c) × NoSabmOf c rest
ups-numbered c n p s rest lo u e = of_up-numbered c n p s.act rest s.frame.content s.frame.pf u.2 e

false_by : (b : Bool) → (b ≡ true → ⊥) → b ≡ false
false_by true f = absurd (f refl)
false_by false f = refl

pub no_numbered-late : (c t n : ℕ) (p : Bool) (lo : ℕ) (up : List Sent) → c < t → t ≤ lo → Ups c n p lo up →
    NoNumbered up
no_numbered-late c t n p lo [] l m u = tt
no_numbered-late c t n p lo (s ∷ rest) l m u =
    let late : t ≤ s.act = omega (arith, u.0) in (
      false_by (is_numbered s.frame.content)
          (λ e. let same = (of_up-numbered c n p s.act rest s.frame.content s.frame.pf u.2 e).0 in omega arith),
      no_numbered-late c t n p s.act rest l late u.3,
    )

-- the next act of the DTE begins
not-not : (b : Bool) → not (not b) ≡ b
not-not true = refl
not-not false = refl

of_up-act : (n : ℕ) (p : Bool) (t : ℕ) (behind : List Sent) (content : Content) (pf : Bool) → OfUp n n p t behind
    content pf →
    OfUp n (n + 1) (not p) t behind content pf
of_up-act n p t behind (I ns nr packet) pf o = o
of_up-act n p t behind (Rr nr) pf o = o
of_up-act n p t behind (Rnr nr) pf o = o
of_up-act n p t behind (Rej nr) pf o = o
of_up-act n p t behind Dm pf o = tt
of_up-act n p t behind Sabm pf o =
    elim o [
      | inl e ↦ inr (e.0, (let same = e.0 in omega arith), e.1 ∙ sym (not-not p))
      | inr e ↦ absurd (let same =
          e.0 in let less = e.1 in omega arith)
    ]
of_up-act n p t behind Disc pf o = absurd o
of_up-act n p t behind Ua pf o = absurd o
of_up-act n p t behind (Frmr report) pf o = absurd o

pub ups-act : (n : ℕ) (p : Bool) (lo : ℕ) (up : List Sent) → Ups n n p lo up → Ups n (n + 1) (not p) lo up
ups-act n p lo [] u = tt
ups-act n p lo (s ∷ rest) u =
    (u.0, omega (arith, u.1), of_up-act n p s.act rest s.frame.content s.frame.pf u.2, ups-act n p s.act rest u.3)

of_up-quiet : (c n : ℕ) (p : Bool) (t : ℕ) (behind : List Sent) (content : Content) (pf : Bool) → is_sabm
    content ≡ false →
    OfUp c n p t behind content pf → OfUp c (n + 1) (not p) t behind content pf
of_up-quiet c n p t behind (I ns nr packet) pf e o = o
of_up-quiet c n p t behind (Rr nr) pf e o = o
of_up-quiet c n p t behind (Rnr nr) pf e o = o
of_up-quiet c n p t behind (Rej nr) pf e o = o
of_up-quiet c n p t behind Dm pf e o = tt
of_up-quiet c n p t behind Sabm pf e o = absurd (cc)
of_up-quiet c n p t behind Disc pf e o = absurd o
of_up-quiet c n p t behind Ua pf e o = absurd o
of_up-quiet c n p t behind (Frmr report) pf e o = absurd o

pub ups-quiet : (c n : ℕ) (p : Bool) (lo : ℕ) (up : List Sent) → NoSabm up → Ups c n p lo up → Ups c (n + 1) (not
    p) lo up
ups-quiet c n p lo [] off u = tt
ups-quiet c n p lo (s ∷ rest) off u = (
  u.0,
  omega (arith, u.1),
  of_up-quiet c n p s.act rest s.frame.content s.frame.pf off.0 u.2,
  ups-quiet c n p
      s.act rest off.1 u.3,
)

pub ups-no_reject : (c n : ℕ) (p : Bool) (lo : ℕ) (up : List Sent) → Ups c n p lo up → NoFrmr up
ups-no_reject c n p lo [] u = tt
ups-no_reject c n p lo (s ∷ rest) u = (one s.frame.content u.2, ups-no_reject c n p s.act rest u.3)
  where
    one : (content : Content) → OfUp c n p s.act rest content s.frame.pf → is_frmr content ≡ false
    one (I ns nr packet) o = refl
    one (Rr nr) o = refl
    one (Rnr nr) o = refl
    one (Rej nr) o = refl
    one Dm o = refl
    one Sabm o = refl
    one Disc o = absurd o
    one Ua o = absurd o
    one (Frmr report) o = absurd o

-- ---- to the DTE

abbrev pub OfDown : (n : ℕ) (p : Bool) (t : ℕ) → Content → Bool → Type 0
OfDown n p t Ua pf = ((t ≡ n) × (pf ≡ p)) ⊎ ((t < n) × (pf ≡ not p))
OfDown n p t (I ns nr packet) pf = Unit {0}
OfDown n p t (Rr nr) pf = Unit {0}
OfDown n p t (Rnr nr) pf = Unit {0}
OfDown n p t (Rej nr) pf = Unit {0}
OfDown n p t Dm pf = Unit {0}
OfDown n p t Sabm pf = ⊥
OfDown n p t Disc pf = ⊥
OfDown n p t (Frmr report) pf = ⊥

-- the acts rise from lo to c
abbrev pub Downs : (c n : ℕ) (p : Bool) (lo : ℕ) → List Sent → Type 0
Downs c n p lo [] = Unit {0}
Downs c n p lo (s ∷ rest) = (lo ≤ s.act) × (s.act ≤ c) × OfDown n p s.act s.frame.content s.frame.pf × Downs c n p
    s.act rest

pub downs-lower : (c n : ℕ) (p : Bool) (lo lo' : ℕ) (down : List Sent) → lo' ≤ lo → Downs c n p lo down → Downs c n p
    lo' down
downs-lower c n p lo lo' [] le d = tt
downs-lower c n p lo lo' (s ∷ rest) le d = (omega (arith, d.0), d.1, d.2, d.3)

pub downs-raise : (c c' n : ℕ) (p : Bool) (lo : ℕ) (down : List Sent) → c ≤ c' → Downs c n p lo down → Downs c' n p lo
    down
downs-raise c c' n p lo [] le d = tt
downs-raise c c' n p lo (s ∷ rest) le d = (d.0, omega (arith, d.1), d.2, downs-raise c c' n p s.act rest le d.3)

downs-append : (c n : ℕ) (p : Bool) (lo : ℕ) (down new : List Sent) → lo ≤ c → Downs c n p lo down → Downs c n p c new
    →
    Downs c n p lo (down ++ new)
downs-append c n p lo [] new le d m = downs-lower c n p c lo new le m
downs-append c n p lo (s ∷ rest) new le d m = (d.0, d.1, d.2, downs-append c n p s.act rest new d.1 d.3 m)

downs-each : (c n : ℕ) (p : Bool) (frames : List FrameValue) → Each (λ f. OfDown n p c f.content f.pf) frames →
    Downs c n p c (stamped c frames)
downs-each c n p [] all = tt
downs-each c n p (f ∷ frames) all = (omega arith, omega arith, all.0, downs-each c n p frames all.1)

pub downs-more : (c n : ℕ) (p : Bool) (lo : ℕ) (down : List Sent) (frames : List FrameValue) → lo ≤ c → Downs c n p lo
    down →
    Each (λ f. OfDown n p c f.content f.pf) frames → Downs c n p lo (down ++ stamped c frames)
downs-more c n p lo down frames le d all = downs-append c n p lo down (stamped c frames) le d (downs-each c n p frames
    all)

pub downs-stamped : (c n : ℕ) (p : Bool) (down : List Sent) → Downs c n p c down → Stamped c down
downs-stamped c n p [] d = tt
downs-stamped c n p (s ∷ rest) d =
    let same : s.act ≡ c = omega (arith, d.0, d.1) in
    (same, downs-stamped c n p rest (downs-lower c n p s.act c rest (omega arith) d.3))

pub none_of-later : (c t n : ℕ) (p : Bool) (lo : ℕ) (down : List Sent) → c < t → Downs c n p lo down → NoneOf t down
none_of-later c t n p lo [] l d = tt
none_of-later c t n p lo (s ∷ rest) l d = (λ e. absurd (omega (arith, d.1)), none_of-later c t n p s.act rest l d.3)

of_down-act : (n : ℕ) (p : Bool) (t : ℕ) (content : Content) (pf : Bool) → t ≡ n → OfDown n p t content pf →
    OfDown (n + 1) (not p) t content pf
of_down-act n p t Ua pf e o =
    elim o [ inl a ↦ inr (omega arith, a.1 ∙ sym (not-not p)) | inr b ↦ absurd (let less = b.0 in omega arith) ]
of_down-act n p t (I ns nr packet) pf e o = tt
of_down-act n p t (Rr nr) pf e o = tt
of_down-act n p t (Rnr nr) pf e o = tt
of_down-act n p t (Rej nr) pf e o = tt
of_down-act n p t Dm pf e o = tt
of_down-act n p t Sabm pf e o = absurd o
of_down-act n p t Disc pf e o = absurd o
of_down-act n p t (Frmr report) pf e o = absurd o

pub downs-act : (n : ℕ) (p : Bool) (lo : ℕ) (down : List Sent) → Stamped n down → Downs n n p lo down → Downs n (n +
    1) (not p) lo down
downs-act n p lo [] same d = tt
downs-act n p lo (s ∷ rest) same d =
    (d.0, d.1, of_down-act n p s.act s.frame.content s.frame.pf same.0 d.2, downs-act n p s.act rest same.1 d.3)

of_down-quiet : (n : ℕ) (p : Bool) (t : ℕ) (content : Content) (pf : Bool) → is_ua content ≡ false →
    OfDown n p t content pf →
    OfDown (n + 1) (not p) t content pf
of_down-quiet n p t Ua pf e o = absurd (cc)
of_down-quiet n p t (I ns nr packet) pf e o = tt
of_down-quiet n p t (Rr nr) pf e o = tt
of_down-quiet n p t (Rnr nr) pf e o = tt
of_down-quiet n p t (Rej nr) pf e o = tt
of_down-quiet n p t Dm pf e o = tt
of_down-quiet n p t Sabm pf e o = absurd o
of_down-quiet n p t Disc pf e o = absurd o
of_down-quiet n p t (Frmr report) pf e o = absurd o

pub downs-quiet : (c n : ℕ) (p : Bool) (lo : ℕ) (down : List Sent) → NoAnswer down → Downs c n p lo down → Downs c (n
    + 1) (not p) lo down
downs-quiet c n p lo [] off d = tt
downs-quiet c n p lo (s ∷ rest) off d =
    (d.0, d.1, of_down-quiet n p s.act s.frame.content s.frame.pf off.0 d.2, downs-quiet c n p s.act rest off.1 d.3)

pub downs-no_reject : (c n : ℕ) (p : Bool) (lo : ℕ) (down : List Sent) → Downs c n p lo down → NoFrmr down
downs-no_reject c n p lo [] d = tt
downs-no_reject c n p lo (s ∷ rest) d = (one s.frame.content d.2, downs-no_reject c n p s.act rest d.3)
  where
    one : (content : Content) → OfDown n p s.act content s.frame.pf → is_frmr content ≡ false
    one (I ns nr packet) o = refl
    one (Rr nr) o = refl
    one (Rnr nr) o = refl
    one (Rej nr) o = refl
    one Dm o = refl
    one Ua o = refl
    one Sabm o = absurd o
    one Disc o = absurd o
    one (Frmr report) o = absurd o
