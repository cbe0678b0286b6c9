-- What a link that is up makes of a frame that leaves it up.
use Rattle.std.specs.Prelude.{◌≡◌, ℕ, ◌+◌, ◌-◌, ◌%◌, ◌≤◌, Bool, true, false, not, ◌&&◌, ◌⊎◌, List, [], ◌∷◌}
use Rattle.std.specs.Prelude.{◌||◌, if◌then◌else◌, ◌==◌, nat_lt}
use Rattle.std.proofs.Common.{refl, sym, ap, ◌∙◌, subst, inl, inr, arith}
use Rattle.link_timers.specs.declared.role.Role.{Role}
use Rattle.frame_codec.specs.Frame.{FrameValue, Content}
use Rattle.frame_codec.specs.Frame.Content.{I, Rr, Rnr, Rej, Sabm, Disc, Dm, Ua, Frmr}
use Rattle.lapb.specs.declared.phase.Phase.{Phase}
use Rattle.lapb.specs.Machine.{Octets, Link, Step, ahead, answers, response, is_valid, acknowledged, on_supervisory}
use Rattle.lapb.specs.Machine.{accept, discard, on_information, checked, reject_number, in_up, still}
use Rattle.lapb.specs.World.{stamped}
use Rattle.arrival_laws.proofs.Frames.{cond_by, is_poll_of, is_answer_of, is_answer, sets, is_dm, is_rnr}
use Rattle.arrival_laws.proofs.Frames.{is_rnr_of, has_number_of, Any, NoneOf, read, reads, tell, tells}

-- all frames are told of by the last: what they tell is v, whatever was told before
abbrev pub AllTell : ℕ → List FrameValue → Type 0
AllTell v frames = (u t : ℕ) → tells u (stamped t frames) ≡ v

-- what is accepted is told of: by the frames, or it is owed; or nothing changes, for an end that accepted e and owed o
pub data Tells (expected : ℕ) (owed : Bool) (e : ℕ) (o : Bool) (frames : List FrameValue) : Type 0 where
  at_once : AllTell expected frames → Tells expected owed e o frames
  later : owed ≡ true → Tells expected owed e o frames
  as_before : frames ≡ [] → expected ≡ e → owed ≡ o → Tells expected owed e o frames

-- the frames carry no packet, and none is a SABM, a DM or an RNR
pub record Plain (frames : List FrameValue) : Type 0 where
  pub reads_same : (e t : ℕ) → reads e (stamped t frames) ≡ e
  pub no_sabm : NoneOf sets frames
  pub no_rnr : NoneOf is_rnr frames
  pub no_dm : NoneOf is_dm frames

pub record Took (l : Link) (content : Content) (r p : Bool) (v : ℕ) (step : Step) : Type 0 where
  pub phase : step.link.phase ≡ Phase.Up
  pub n2 : step.link.n2 ≡ l.n2
  pub heard : l.heard ≡ true → step.link.heard ≡ true
  pub hears : has_number_of content ≡ true → step.link.heard ≡ true
  pub busy : is_rnr_of content ≡ false → l.busy ≡ false → step.link.busy ≡ false
  pub oldest : step.link.oldest ≡ tell l.oldest content
  pub next : (step.link.next ≡ 0) ⊎ (step.link.next ≡ l.next - ahead l.oldest step.link.oldest)
  pub polling : l.polling ≡ false → step.link.polling ≡ false
  pub polls_still : has_number_of content ≡ false → step.link.polling ≡ l.polling
  pub polls : step.link.polls ≤ l.polls
  pub answered : is_answer_of content r p ≡ true → (step.link.polling ≡ false) × (step.link.next ≡ 0)
  pub expected : step.link.expected ≡ v
  pub tells : Tells step.link.expected step.link.owed l.expected l.owed step.frames
  pub poll : is_poll_of content r p ≡ true →
      ((t : ℕ) → Any is_answer (stamped t step.frames)) × AllTell step.link.expected step.frames
  pub plain : Plain step.frames

-- ---- tests

and-true : (b : Bool) → b && true ≡ b
and-true true = refl
and-true false = refl

and-false : (b : Bool) → b && false ≡ false
and-false true = refl
and-false false = refl

or-true : (b : Bool) (n : ℕ) → (if b || true then 0 else n) ≡ 0
or-true true n = refl
or-true false n = refl

-- ---- a supervisory frame

plain-answers : (due : Bool) (nr : ℕ) → Plain (answers due nr)
plain-answers true nr =
    record { reads_same = λ e t. refl; no_sabm = (refl, tt); no_rnr = (refl, tt); no_dm = (refl, tt) }
plain-answers false nr = record { reads_same = λ e t. refl; no_sabm = tt; no_rnr = tt; no_dm = tt }

-- where N(R) was taken, by a content that sets V(S) back if it is an answer
took-supervisory : (l : Link) (content : Content) (nr : ℕ) (busy back r p anew : Bool) → l.phase ≡ Phase.Up →
    tell l.oldest content ≡ nr → (is_rnr_of content ≡ false → busy ≡ false) → (is_answer_of content r p ≡ true →
    r && p ≡ true) → (is_poll_of content r p ≡ true → p && not r ≡ true) → has_number_of content ≡ true →
    Took l content r p l.expected (record (on_supervisory (acknowledged l nr) busy back r p) { anew = anew })
took-supervisory l content nr busy back r p anew up tells free answer poll number = record {
  phase = up;
  n2 = refl;
  heard = λ e. refl;
  hears = λ e. refl;
  busy = λ e f. free e;
  oldest = sym tells;
  next =
      let less : ℕ = l.next - ahead l.oldest nr in
      cond_by (λ b. ((if b then 0 else less) ≡ 0) ⊎ ((if b then 0 else less) ≡ less)) (back || r && p) (λ _. inl refl)
      (λ _. inr refl);
  polling = λ e. ap (λ b. b && not (r && p)) e;
  polls_still = λ e. absurd (let x : true ≡ false = sym number ∙ e in cc);
  polls = cond_by (λ b. (if b then 0 else l.polls) ≤ l.polls) (r && p) (λ _. omega arith) (λ _. omega arith);
  answered = λ e. let f = answer e in (
    ap (λ b. l.polling && not b) f ∙ and-false l.polling,
    ap (λ b. if back || b then 0 else l.next - ahead l.oldest nr) f ∙ or-true back (l.next - ahead l.oldest nr),
  );
  expected = refl;
  tells = cond_by (λ d. Tells l.expected (l.owed && not d) l.expected l.owed (answers d l.expected)) (p && not r)
      (λ _. at_once (λ u t. refl)) (λ _. as_before refl refl (and-true l.owed));
  poll = λ e. subst (λ d. ((t : ℕ) → Any is_answer (stamped t (answers d l.expected))) × AllTell l.expected (answers d
      l.expected)) (sym (poll e)) (λ t. inl refl, λ u t. refl);
  plain = plain-answers (p && not r) l.expected;
}

-- ---- an I frame

took-accept : (l : Link) (ns nr : ℕ) (packet : Octets) (r p anew : Bool) → l.phase ≡ Phase.Up →
    Took l (I ns nr packet) r p ((l.expected + 1) % 8) (record (accept (acknowledged l nr) p packet) { anew = anew })
took-accept l ns nr packet r p anew up = record {
  phase = up;
  n2 = refl;
  heard = λ e. refl;
  hears = λ e. refl;
  busy = λ e f. f;
  oldest = refl;
  next = inr refl;
  polling = λ e. e;
  polls_still = λ e. absurd (cc);
  polls = omega arith;
  answered = λ e. absurd (cc);
  expected = refl;
  tells = cond_by (λ d. Tells ((l.expected + 1) % 8) (not d) l.expected l.owed (answers d ((l.expected + 1) % 8))) p
      (λ _. at_once (λ u t. refl)) (λ _. later refl);
  poll = λ e. absurd (cc);
  plain = plain-answers p ((l.expected + 1) % 8);
}

abbrev discarded : Bool → Bool → ℕ → List FrameValue
discarded rejecting p nr = if rejecting then answers p nr else response (Rej nr) p ∷ []

plain-discarded : (rejecting p : Bool) (nr : ℕ) → Plain (discarded rejecting p nr)
plain-discarded true p nr = plain-answers p nr
plain-discarded false p nr =
    record { reads_same = λ e t. refl; no_sabm = (refl, tt); no_rnr = (refl, tt); no_dm = (refl, tt) }

tells-discarded : (e : ℕ) (o rejecting p : Bool) → Tells e (o && rejecting && not p) e o (discarded rejecting p e)
tells-discarded e o true true = at_once (λ u t. refl)
tells-discarded e o true false = as_before refl refl (and-true (o && true) ∙ and-true o)
tells-discarded e o false p = at_once (λ u t. refl)

took-discard : (l : Link) (ns nr : ℕ) (packet : Octets) (r p anew : Bool) → l.phase ≡ Phase.Up →
    Took l (I ns nr packet) r p l.expected (record (discard (acknowledged l nr) p) { anew = anew })
took-discard l ns nr packet r p anew up = record {
  phase = up;
  n2 = refl;
  heard = λ e. refl;
  hears = λ e. refl;
  busy = λ e f. f;
  oldest = refl;
  next = inr refl;
  polling = λ e. e;
  polls_still = λ e. absurd (cc);
  polls = omega arith;
  answered = λ e. absurd (cc);
  expected = refl;
  tells = tells-discarded l.expected l.owed l.rejecting p;
  poll = λ e. absurd (cc);
  plain = plain-discarded l.rejecting p l.expected;
}

-- ---- a frame with N(R), which is valid

took-checked : (l : Link) (content : Content) (r p : Bool) (nr v : ℕ) (taken : Step) → is_valid l nr ≡ true →
    ((anew : Bool) → Took l content r p v (record taken { anew = anew })) →
    Took l content r p v (checked l content r p nr taken)
took-checked l content r p nr v taken valid took =
    let anew : Bool = nat_lt 0 (ahead l.oldest nr) in
    subst (λ b. Took l content r p v (if b then record taken { anew = anew } else reject_number l content r p))
    (sym valid) (took anew)

pub took-up : (role : Role) (l : Link) (content : Content) (r p : Bool) → l.phase ≡ Phase.Up →
    has_number_of content ≡ true → is_valid l (tell 0 content) ≡ true →
    Took l content r p (read l.expected content) (in_up role l content r p)
took-up role l (I ns nr packet) r p up number valid =
    took-checked l (I ns nr packet) r p nr (read l.expected (I ns nr packet))
    (on_information (acknowledged l nr) ns p packet) valid (λ anew.
    cond_by (λ b. Took l (I ns nr packet) r p (if b then (l.expected + 1) % 8 else l.expected)
    (record (if b then accept (acknowledged l nr) p packet else discard (acknowledged l nr) p) { anew = anew }))
    (ns == l.expected) (λ _. took-accept l ns nr packet r p anew up) (λ _. took-discard l ns nr packet r p anew up))
took-up role l (Rr nr) r p up number valid =
    took-checked l (Rr nr) r p nr l.expected (on_supervisory (acknowledged l nr) false false r p) valid (λ anew.
    took-supervisory l (Rr nr) nr false false r p anew up refl (λ _. refl) (λ e. e) (λ e. e) refl)
took-up role l (Rnr nr) r p up number valid =
    took-checked l (Rnr nr) r p nr l.expected (on_supervisory (acknowledged l nr) true false r p) valid (λ anew.
    took-supervisory l (Rnr nr) nr true false r p anew up refl (λ e. absurd (cc)) (λ e. absurd (cc)) (λ e. absurd (cc))
    refl)
took-up role l (Rej nr) r p up number valid =
    took-checked l (Rej nr) r p nr l.expected (on_supervisory (acknowledged l nr) false true r p) valid (λ anew.
    took-supervisory l (Rej nr) nr false true r p anew up refl (λ _. refl) (λ e. absurd (cc)) (λ e. absurd (cc)) refl)
took-up role l Sabm r p up number valid = absurd (cc)
took-up role l Disc r p up number valid = absurd (cc)
took-up role l Dm r p up number valid = absurd (cc)
took-up role l Ua r p up number valid = absurd (cc)
took-up role l (Frmr report) r p up number valid = absurd (cc)

-- a frame without a number that is ignored
pub took-still : (l : Link) (content : Content) (r p : Bool) → l.phase ≡ Phase.Up → has_number_of content ≡ false →
    Took l content r p l.expected (still l)
took-still l content r p up none = record {
  phase = up;
  n2 = refl;
  heard = λ e. e;
  hears = λ e. absurd (let x : true ≡ false = sym e ∙ none in cc);
  busy = λ e f. f;
  oldest = same content none;
  next = inr (let e : ahead l.oldest l.oldest ≡ 0 = omega arith in omega (arith, e));
  polling = λ e. e;
  polls_still = λ e. refl;
  polls = omega arith;
  answered = λ e. absurd (no_answer content none e);
  expected = refl;
  tells = as_before refl refl refl;
  poll = λ e. absurd (no_poll content none e);
  plain = record { reads_same = λ e t. refl; no_sabm = tt; no_rnr = tt; no_dm = tt };
}
  where
    same : (c : Content) → has_number_of c ≡ false → l.oldest ≡ tell l.oldest c
    same (I ns nr packet) e = absurd (cc)
    same (Rr nr) e = absurd (cc)
    same (Rnr nr) e = absurd (cc)
    same (Rej nr) e = absurd (cc)
    same Sabm e = refl
    same Disc e = refl
    same Dm e = refl
    same Ua e = refl
    same (Frmr report) e = refl

    no_answer : (c : Content) → has_number_of c ≡ false → is_answer_of c r p ≡ true → ⊥
    no_answer (I ns nr packet) e f = cc
    no_answer (Rr nr) e f = cc
    no_answer (Rnr nr) e f = cc
    no_answer (Rej nr) e f = cc
    no_answer Sabm e f = cc
    no_answer Disc e f = cc
    no_answer Dm e f = cc
    no_answer Ua e f = cc
    no_answer (Frmr report) e f = cc

    no_poll : (c : Content) → has_number_of c ≡ false → is_poll_of c r p ≡ true → ⊥
    no_poll (I ns nr packet) e f = cc
    no_poll (Rr nr) e f = cc
    no_poll (Rnr nr) e f = cc
    no_poll (Rej nr) e f = cc
    no_poll Sabm e f = cc
    no_poll Disc e f = cc
    no_poll Dm e f = cc
    no_poll Ua e f = cc
    no_poll (Frmr report) e f = cc
