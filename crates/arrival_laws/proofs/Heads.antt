-- What every state says of the next frame that comes to an end that is up, and of the numbers on the way to it.
use Rattle.std.specs.Prelude.{◌≡◌, ℕ, ◌+◌, ◌-◌, ◌%◌, ◌<◌, ◌≤◌, Bool, true, false, List, [], ◌∷◌, length, nat_le}
use Rattle.std.proofs.Common.{refl, sym, ap, ◌∙◌, subst, arith, le-leb, length-drop}
use Rattle.link_timers.specs.declared.role.Role.{Role}
use Rattle.link_timers.specs.declared.role.Role.TheVariants.{Dte, Dce}
use Rattle.frame_codec.specs.Frame.{Content}
use Rattle.frame_codec.specs.Frame.Content.{I, Rr, Rnr, Rej, Sabm, Disc, Dm, Ua, Frmr}
use Rattle.lapb.specs.declared.phase.Phase.{Phase}
use Rattle.lapb.specs.Machine.{Octets, Link, Step, ahead, still, on_content, in_up, in_phase}
use Rattle.lapb.specs.World.{Sent, World, Deliver, Lose, to_dte, to_dce, without_first}
use Rattle.lapb.specs.Reach.{Reached}
use Rattle.lapb.proofs.Flights.{ups-numbered}
use Rattle.lapb.proofs.Inv.{Inv, lost_down, lost_up}
use Rattle.lapb.proofs.Reach.{reached_inv, reached_happens}
use Rattle.arrival_laws.proofs.Frames.{sets, is_dm, is_dm_of, has_number_of, NotAny, read, reads, tell, tells, as_sent, cond_by}
use Rattle.arrival_laws.proofs.Took.{Took, took-up, took-still}
use Rattle.arrival_laws.proofs.Going.{Bounds}

-- ---- numbers

pub record Valid (va top nr : ℕ) : Type 0 where
  pub valid : nat_le (ahead va nr) top ≡ true
  pub oldest : va < 8
  pub number : nr < 8

numbers : (a hi acc m va top nr : ℕ) → a ≤ hi → hi ≤ acc → acc ≤ m → m ≤ a + 7 → va ≡ a % 8 → a + top ≡ m → nr ≡ hi % 8 →
    Valid va top nr
numbers a hi acc m va top nr l1 l2 l3 l4 is sum tells = record {
  valid = le-leb (ahead va nr) top (omega arith);
  oldest = omega arith;
  number = omega arith;
}

-- ---- a frame that the DTE takes

module _ (w : World) (r p : Bool) (t : ℕ) (rest : List Sent) where
  pub at_dte : (content : Content) → Inv (record w { down = as_sent content r p t ∷ rest }) → w.dte.phase ≡ Phase.Up →
      has_number_of content ≡ true → Valid w.dte.oldest w.dte.top (tell 0 content)
  at_dte (I ns nr packet) i up e =
      let h = i.out in let s = h.sends up in let at = (i.up_in up).of_it.0 in
      numbers h.a h.told.0 (length (w.dce_accepted w.session)) h.m w.dte.oldest w.dte.top nr h.told.1 h.told.2 h.acc_le
      h.near s.oldest s.top_is (h.told.3 at)
  at_dte (Rr nr) i up e =
      let h = i.out in let s = h.sends up in let at = (i.up_in up).of_it.0 in
      numbers h.a h.told.0 (length (w.dce_accepted w.session)) h.m w.dte.oldest w.dte.top nr h.told.1 h.told.2 h.acc_le
      h.near s.oldest s.top_is (h.told.3 at)
  at_dte (Rnr nr) i up e =
      let h = i.out in let s = h.sends up in let at = (i.up_in up).of_it.0 in
      numbers h.a h.told.0 (length (w.dce_accepted w.session)) h.m w.dte.oldest w.dte.top nr h.told.1 h.told.2 h.acc_le
      h.near s.oldest s.top_is (h.told.3 at)
  at_dte (Rej nr) i up e =
      let h = i.out in let s = h.sends up in let at = (i.up_in up).of_it.0 in
      numbers h.a h.told.0 (length (w.dce_accepted w.session)) h.m w.dte.oldest w.dte.top nr h.told.1 h.told.2 h.acc_le
      h.near s.oldest s.top_is (h.told.3 at)
  at_dte Sabm i up e = absurd (cc)
  at_dte Disc i up e = absurd (cc)
  at_dte Dm i up e = absurd (cc)
  at_dte Ua i up e = absurd (cc)
  at_dte (Frmr report) i up e = absurd (cc)

  pub at_dce : (content : Content) → Inv (record w { up = as_sent content r p t ∷ rest }) → w.dce.phase ≡ Phase.Up →
      has_number_of content ≡ true → Valid w.dce.oldest w.dce.top (tell 0 content)
  at_dce (I ns nr packet) i up e =
      let h = i.back in let s = h.sends up in
      let at = (ups-numbered w.session w.act w.dte.bit (as_sent (I ns nr packet) r p t) rest w.session i.ups refl).0 in
      numbers h.a h.told.0 (length (w.dte_accepted w.session)) h.m w.dce.oldest w.dce.top nr h.told.1 h.told.2 h.acc_le
      h.near s.oldest s.top_is (h.told.3 at)
  at_dce (Rr nr) i up e =
      let h = i.back in let s = h.sends up in
      let at = (ups-numbered w.session w.act w.dte.bit (as_sent (Rr nr) r p t) rest w.session i.ups refl).0 in
      numbers h.a h.told.0 (length (w.dte_accepted w.session)) h.m w.dce.oldest w.dce.top nr h.told.1 h.told.2 h.acc_le
      h.near s.oldest s.top_is (h.told.3 at)
  at_dce (Rnr nr) i up e =
      let h = i.back in let s = h.sends up in
      let at = (ups-numbered w.session w.act w.dte.bit (as_sent (Rnr nr) r p t) rest w.session i.ups refl).0 in
      numbers h.a h.told.0 (length (w.dte_accepted w.session)) h.m w.dce.oldest w.dce.top nr h.told.1 h.told.2 h.acc_le
      h.near s.oldest s.top_is (h.told.3 at)
  at_dce (Rej nr) i up e =
      let h = i.back in let s = h.sends up in
      let at = (ups-numbered w.session w.act w.dte.bit (as_sent (Rej nr) r p t) rest w.session i.ups refl).0 in
      numbers h.a h.told.0 (length (w.dte_accepted w.session)) h.m w.dce.oldest w.dce.top nr h.told.1 h.told.2 h.acc_le
      h.near s.oldest s.top_is (h.told.3 at)
  at_dce Sabm i up e = absurd (cc)
  at_dce Disc i up e = absurd (cc)
  at_dce Dm i up e = absurd (cc)
  at_dce Ua i up e = absurd (cc)
  at_dce (Frmr report) i up e = absurd (cc)

-- what an end that is up makes of a frame that leaves it up, with V(A) before and after it a number modulo 8
pub record Takes (l : Link) (content : Content) (r p : Bool) (step : Step) : Type 0 where
  pub took : Took l content r p (read l.expected content) step
  pub before : l.oldest < 8
  pub after : step.link.oldest < 8

by_number : (l : Link) (content : Content) (r p : Bool) (step : Step) → l.phase ≡ Phase.Up →
    has_number_of content ≡ true → step ≡ in_up l.role l content r p → tell l.oldest content ≡ tell 0 content →
    Valid l.oldest l.top (tell 0 content) → Takes l content r p step
by_number l content r p step up e is tells valid =
    let took : Took l content r p (read l.expected content) step =
    subst (λ st. Took l content r p (read l.expected content) st) (sym is) (took-up l.role l content r p up e valid.valid) in
    record {
      took = took;
      before = valid.oldest;
      after = subst (λ n. n < 8) (sym (took.oldest ∙ tells)) valid.number;
    }

by_still : (l : Link) (content : Content) (r p : Bool) (step : Step) → l.phase ≡ Phase.Up →
    has_number_of content ≡ false → step ≡ still l → read l.expected content ≡ l.expected → l.oldest < 8 →
    Takes l content r p step
by_still l content r p step up e is same low = record {
  took = subst (λ v. Took l content r p v step) (sym same) (subst (λ st. Took l content r p l.expected st) (sym is)
      (took-still l content r p up e));
  before = low;
  after = subst (λ (st : Step). st.link.oldest < 8) (sym is) low;
}

in_up_by : (l : Link) (content : Content) (r p : Bool) → l.phase ≡ Phase.Up →
    in_phase l.phase l.role l content r p ≡ in_up l.role l content r p
in_up_by l content r p up = ap (λ ph. in_phase ph l.role l content r p) up

low_dte : (w : World) → Inv w → w.dte.phase ≡ Phase.Up → w.dte.oldest < 8
low_dte w i up = let e = (i.out.sends up).oldest in omega (arith, e)

low_dce : (w : World) → Inv w → w.dce.phase ≡ Phase.Up → w.dce.oldest < 8
low_dce w i up = let e = (i.back.sends up).oldest in omega (arith, e)

module _ (w : World) (r p : Bool) (t : ℕ) (rest : List Sent) where
  pub dte_takes : (content : Content) → Inv (record w { down = as_sent content r p t ∷ rest }) →
      w.dte.phase ≡ Phase.Up → is_dm (as_sent content r p t).frame ≡ false →
      Takes w.dte content r p (on_content content w.dte.role w.dte r p)
  dte_takes (I ns nr packet) i up off =
      by_number w.dte (I ns nr packet) r p _ up refl (in_up_by w.dte (I ns nr packet) r p up) refl
      (at_dte w r p t rest (I ns nr packet) i up refl)
  dte_takes (Rr nr) i up off =
      by_number w.dte (Rr nr) r p _ up refl (in_up_by w.dte (Rr nr) r p up) refl (at_dte w r p t rest (Rr nr) i up refl)
  dte_takes (Rnr nr) i up off =
      by_number w.dte (Rnr nr) r p _ up refl (in_up_by w.dte (Rnr nr) r p up) refl
      (at_dte w r p t rest (Rnr nr) i up refl)
  dte_takes (Rej nr) i up off =
      by_number w.dte (Rej nr) r p _ up refl (in_up_by w.dte (Rej nr) r p up) refl
      (at_dte w r p t rest (Rej nr) i up refl)
  dte_takes Ua i up off =
      by_still w.dte Ua r p _ up refl (in_up_by w.dte Ua r p up) refl
      (low_dte (record w { down = as_sent Ua r p t ∷ rest }) i up)
  dte_takes Dm i up off = absurd (cc)
  dte_takes Sabm i up off = absurd (i.downs.2)
  dte_takes Disc i up off = absurd (i.downs.2)
  dte_takes (Frmr report) i up off = absurd (i.downs.2)

  -- a DCE that is up ignores a DM
  ignored : (l : Link) → l.role ≡ Dce → in_up l.role l Dm r p ≡ still l
  ignored l is = ap (λ (x : Role). in_up x l Dm r p) is

  pub dce_takes : (content : Content) → Inv (record w { up = as_sent content r p t ∷ rest }) →
      w.dce.phase ≡ Phase.Up → sets (as_sent content r p t).frame ≡ false →
      Takes w.dce content r p (on_content content w.dce.role w.dce r p)
  dce_takes (I ns nr packet) i up off =
      by_number w.dce (I ns nr packet) r p _ up refl (in_up_by w.dce (I ns nr packet) r p up) refl
      (at_dce w r p t rest (I ns nr packet) i up refl)
  dce_takes (Rr nr) i up off =
      by_number w.dce (Rr nr) r p _ up refl (in_up_by w.dce (Rr nr) r p up) refl (at_dce w r p t rest (Rr nr) i up refl)
  dce_takes (Rnr nr) i up off =
      by_number w.dce (Rnr nr) r p _ up refl (in_up_by w.dce (Rnr nr) r p up) refl
      (at_dce w r p t rest (Rnr nr) i up refl)
  dce_takes (Rej nr) i up off =
      by_number w.dce (Rej nr) r p _ up refl (in_up_by w.dce (Rej nr) r p up) refl
      (at_dce w r p t rest (Rej nr) i up refl)
  dce_takes Dm i up off =
      by_still w.dce Dm r p _ up refl (in_up_by w.dce Dm r p up ∙ ignored w.dce i.dce_role) refl
      (low_dce (record w { up = as_sent Dm r p t ∷ rest }) i up)
  dce_takes Ua i up off = absurd (i.ups.2)
  dce_takes Sabm i up off = absurd (cc)
  dce_takes Disc i up off = absurd (i.ups.2)
  dce_takes (Frmr report) i up off = absurd (i.ups.2)

-- ---- where nothing is unacknowledged, all numbers on the way are those of all that was accepted

same_count : (a hi acc m top nr e : ℕ) → a ≤ hi → hi ≤ acc → acc ≤ m → a + top ≡ m → top ≡ 0 → nr ≡ hi % 8 → e ≡ acc % 8 →
    nr ≡ e
same_count a hi acc m top nr e l1 l2 l3 sum none tells is =
    let same : hi ≡ acc = omega arith in tells ∙ ap (λ n. n % 8) same ∙ sym is

module _ (w : World) (r p : Bool) (t v : ℕ) (rest : List Sent) where
  told_dte : (content : Content) → Inv (record w { down = as_sent content r p t ∷ rest }) → w.dte.phase ≡ Phase.Up →
      w.dce.phase ≡ Phase.Up → w.dte.top ≡ 0 → v ≡ w.dce.expected → tell v content ≡ w.dce.expected
  told_dte (I ns nr packet) i up up' none e =
      let h = i.out in let at = (i.up_in up).of_it.0 in
      same_count h.a h.told.0 (length (w.dce_accepted w.session)) h.m w.dte.top nr w.dce.expected h.told.1 h.told.2
      h.acc_le (h.sends up).top_is none (h.told.3 at) (h.takes up')
  told_dte (Rr nr) i up up' none e =
      let h = i.out in let at = (i.up_in up).of_it.0 in
      same_count h.a h.told.0 (length (w.dce_accepted w.session)) h.m w.dte.top nr w.dce.expected h.told.1 h.told.2
      h.acc_le (h.sends up).top_is none (h.told.3 at) (h.takes up')
  told_dte (Rnr nr) i up up' none e =
      let h = i.out in let at = (i.up_in up).of_it.0 in
      same_count h.a h.told.0 (length (w.dce_accepted w.session)) h.m w.dte.top nr w.dce.expected h.told.1 h.told.2
      h.acc_le (h.sends up).top_is none (h.told.3 at) (h.takes up')
  told_dte (Rej nr) i up up' none e =
      let h = i.out in let at = (i.up_in up).of_it.0 in
      same_count h.a h.told.0 (length (w.dce_accepted w.session)) h.m w.dte.top nr w.dce.expected h.told.1 h.told.2
      h.acc_le (h.sends up).top_is none (h.told.3 at) (h.takes up')
  told_dte Ua i up up' none e = e
  told_dte Dm i up up' none e = e
  told_dte Sabm i up up' none e = e
  told_dte Disc i up up' none e = e
  told_dte (Frmr report) i up up' none e = e

  told_dce : (content : Content) → Inv (record w { up = as_sent content r p t ∷ rest }) → w.dte.phase ≡ Phase.Up →
      w.dce.phase ≡ Phase.Up → w.dce.top ≡ 0 → v ≡ w.dte.expected → tell v content ≡ w.dte.expected
  told_dce (I ns nr packet) i up up' none e =
      let h = i.back in
      let at = (ups-numbered w.session w.act w.dte.bit (as_sent (I ns nr packet) r p t) rest w.session i.ups refl).0 in
      same_count h.a h.told.0 (length (w.dte_accepted w.session)) h.m w.dce.top nr w.dte.expected h.told.1 h.told.2
      h.acc_le (h.sends up').top_is none (h.told.3 at) (h.takes up)
  told_dce (Rr nr) i up up' none e =
      let h = i.back in
      let at = (ups-numbered w.session w.act w.dte.bit (as_sent (Rr nr) r p t) rest w.session i.ups refl).0 in
      same_count h.a h.told.0 (length (w.dte_accepted w.session)) h.m w.dce.top nr w.dte.expected h.told.1 h.told.2
      h.acc_le (h.sends up').top_is none (h.told.3 at) (h.takes up)
  told_dce (Rnr nr) i up up' none e =
      let h = i.back in
      let at = (ups-numbered w.session w.act w.dte.bit (as_sent (Rnr nr) r p t) rest w.session i.ups refl).0 in
      same_count h.a h.told.0 (length (w.dte_accepted w.session)) h.m w.dce.top nr w.dte.expected h.told.1 h.told.2
      h.acc_le (h.sends up').top_is none (h.told.3 at) (h.takes up)
  told_dce (Rej nr) i up up' none e =
      let h = i.back in
      let at = (ups-numbered w.session w.act w.dte.bit (as_sent (Rej nr) r p t) rest w.session i.ups refl).0 in
      same_count h.a h.told.0 (length (w.dte_accepted w.session)) h.m w.dce.top nr w.dte.expected h.told.1 h.told.2
      h.acc_le (h.sends up').top_is none (h.told.3 at) (h.takes up)
  told_dce Ua i up up' none e = e
  told_dce Dm i up up' none e = e
  told_dce Sabm i up up' none e = e
  told_dce Disc i up up' none e = e
  told_dce (Frmr report) i up up' none e = e

pub all_told_dte : (flow : List Sent) (w : World) (v : ℕ) → Inv (record w { down = flow }) → w.dte.phase ≡ Phase.Up →
    w.dce.phase ≡ Phase.Up → w.dte.top ≡ 0 → v ≡ w.dce.expected → tells v flow ≡ w.dce.expected
all_told_dte [] w v i up up' none e = e
all_told_dte (s ∷ rest) w v i up up' none e =
    all_told_dte rest w (tell v s.frame.content) (lost_down w s rest i) up up' none
    (told_dte w s.frame.response s.frame.pf s.act v rest s.frame.content i up up' none e)

pub all_told_dce : (flow : List Sent) (w : World) (v : ℕ) → Inv (record w { up = flow }) → w.dte.phase ≡ Phase.Up →
    w.dce.phase ≡ Phase.Up → w.dce.top ≡ 0 → v ≡ w.dte.expected → tells v flow ≡ w.dte.expected
all_told_dce [] w v i up up' none e = e
all_told_dce (s ∷ rest) w v i up up' none e =
    all_told_dce rest w (tell v s.frame.content) (lost_up w s rest i) up up' none
    (told_dce w s.frame.response s.frame.pf s.act v rest s.frame.content i up up' none e)

-- V(A) is V(R) of the other end where nothing is unacknowledged
pub oldest_dte : (w : World) → Inv w → w.dte.phase ≡ Phase.Up → w.dce.phase ≡ Phase.Up → w.dte.top ≡ 0 →
    w.dte.oldest ≡ w.dce.expected
oldest_dte w i up up' none =
    let h = i.out in let s = h.sends up in
    same_count h.a h.a (length (w.dce_accepted w.session)) h.m w.dte.top w.dte.oldest w.dce.expected (omega arith) h.a_le
    h.acc_le s.top_is none s.oldest (h.takes up')

pub oldest_dce : (w : World) → Inv w → w.dte.phase ≡ Phase.Up → w.dce.phase ≡ Phase.Up → w.dce.top ≡ 0 →
    w.dce.oldest ≡ w.dte.expected
oldest_dce w i up up' none =
    let h = i.back in let s = h.sends up' in
    same_count h.a h.a (length (w.dte_accepted w.session)) h.m w.dce.top w.dce.oldest w.dte.expected (omega arith) h.a_le
    h.acc_le s.top_is none s.oldest (h.takes up)

-- ---- what an end will have accepted lies between V(A) and V(M) of the other one

pub record Between (oldest top v : ℕ) : Type 0 where
  pub small : v < 8
  pub between : ahead oldest v ≤ top

counts_between : (a acc m oldest top v : ℕ) → a ≤ acc → acc ≤ m → m ≤ a + 7 → oldest ≡ a % 8 → a + top ≡ m → v ≡ acc % 8 →
    Between oldest top v
counts_between a acc m oldest top v l1 l2 l3 is sum e = record { small = omega arith; between = omega arith }

between_up : (flow : List Sent) (w : World) → w.up ≡ flow → Reached w → w.dte.phase ≡ Phase.Up → w.dce.phase ≡ Phase.Up →
    NotAny sets flow → Between w.dte.oldest w.dte.top (reads w.dce.expected flow)
between_up [] w e reached up up' none =
    let h = (reached_inv w reached).out in let s = h.sends up in
    counts_between h.a (length (w.dce_accepted w.session)) h.m w.dte.oldest w.dte.top w.dce.expected h.a_le h.acc_le
    h.near s.oldest s.top_is (h.takes up')
between_up (s ∷ rest) w e reached up up' none =
    let i : Inv (record w { up = s ∷ rest }) = subst (λ (f : List Sent). Inv (record w { up = f })) e (reached_inv w
    reached) in
    let takes = dce_takes w s.frame.response s.frame.pf s.act rest s.frame.content i up' none.0 in
    let after : Reached (to_dce w [] (s ∷ rest)) = subst (λ (f : List Sent). Reached (to_dce w [] f)) e
    (reached_happens w (Deliver Dce []) reached) in
    subst (λ n. Between w.dte.oldest w.dte.top (reads n rest)) takes.took.expected
    (between_up rest (to_dce w [] (s ∷ rest)) refl after up takes.took.phase none.1)

between_down : (flow : List Sent) (w : World) → w.down ≡ flow → Reached w → w.dte.phase ≡ Phase.Up →
    w.dce.phase ≡ Phase.Up → Between w.dce.oldest w.dce.top (reads w.dte.expected flow)
between_down [] w e reached up up' =
    let h = (reached_inv w reached).back in let s = h.sends up' in
    counts_between h.a (length (w.dte_accepted w.session)) h.m w.dce.oldest w.dce.top w.dte.expected h.a_le h.acc_le
    h.near s.oldest s.top_is (h.takes up)
between_down (s ∷ rest) w e reached up up' =
    cond_by (λ _. Between w.dce.oldest w.dce.top (reads w.dte.expected (s ∷ rest))) (is_dm s.frame)
    (λ dm. subst (λ n. Between w.dce.oldest w.dce.top (reads n rest)) (sym (unread s.frame.content dm)) (
    let after : Reached (record w { down = rest }) = subst (λ (f : List Sent). Reached (record w {
      down = without_first
          f;
    })) e (reached_happens w (Lose Dte) reached) in
    between_down rest (record w { down = rest }) refl after up up'))
    (λ off.
    let i : Inv (record w { down = s ∷ rest }) = subst (λ (f : List Sent). Inv (record w { down = f })) e (reached_inv w
    reached) in
    let takes = dte_takes w s.frame.response s.frame.pf s.act rest s.frame.content i up off in
    let after : Reached (to_dte w [] (s ∷ rest)) = subst (λ (f : List Sent). Reached (to_dte w [] f)) e
    (reached_happens w (Deliver Dte []) reached) in
    subst (λ n. Between w.dce.oldest w.dce.top (reads n rest)) takes.took.expected
    (between_down rest (to_dte w [] (s ∷ rest)) refl after takes.took.phase up'))
  where
    unread : (content : Content) → is_dm_of content ≡ true → read w.dte.expected content ≡ w.dte.expected
    unread Dm f = refl
    unread (I ns nr packet) f = absurd (cc)
    unread (Rr nr) f = absurd (cc)
    unread (Rnr nr) f = absurd (cc)
    unread (Rej nr) f = absurd (cc)
    unread Sabm f = absurd (cc)
    unread Disc f = absurd (cc)
    unread Ua f = absurd (cc)
    unread (Frmr report) f = absurd (cc)

queue_bounds : (a m len next top q : ℕ) → q ≡ len - a → m ≤ len → len ≤ a + 7 → a + top ≡ m → next ≤ top →
    (next ≤ q) × (q ≤ 7) × (top ≤ q)
queue_bounds a m len next top q is l1 l2 sum l3 = (omega arith, omega arith, omega arith)

pub bounds_dte : (w : World) → Reached w → w.dte.phase ≡ Phase.Up → w.dce.phase ≡ Phase.Up → NotAny sets w.up →
    Bounds w.dte w.dce.expected w.up
bounds_dte w reached up up' none =
    let i = reached_inv w reached in let h = i.out in let s = h.sends up in
    let q = queue_bounds h.a h.m (length (w.dte_offered w.session)) w.dte.next w.dte.top (length w.dte.queue)
    (ap (λ (ps : List Octets). length ps) s.queue_is ∙ length-drop h.a (w.dte_offered w.session)) h.m_le s.few s.top_is
    s.next_le in
    let b = between_up w.up w refl reached up up' none in
    record {
      next = q.0;
      few = q.1;
      oldest = low_dte w i up;
      small = b.small;
      between = let l = b.between in let k = q.2 in omega (arith, l, k);
    }

pub bounds_dce : (w : World) → Reached w → w.dte.phase ≡ Phase.Up → w.dce.phase ≡ Phase.Up →
    Bounds w.dce w.dte.expected w.down
bounds_dce w reached up up' =
    let i = reached_inv w reached in let h = i.back in let s = h.sends up' in
    let q = queue_bounds h.a h.m (length (w.dce_offered w.session)) w.dce.next w.dce.top (length w.dce.queue)
    (ap (λ (ps : List Octets). length ps) s.queue_is ∙ length-drop h.a (w.dce_offered w.session)) h.m_le s.few s.top_is
    s.next_le in
    let b = between_down w.down w refl reached up up' in
    record {
      next = q.0;
      few = q.1;
      oldest = low_dce w i up';
      small = b.small;
      between = let l = b.between in let k = q.2 in omega (arith, l, k);
    }
