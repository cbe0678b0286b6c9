-- N(S) names the place of a packet among the offered ones and N(R) how many were accepted, in every frame that a link
-- sends.
use Rattle.std.specs.Prelude.{◌≡◌, ℕ, suc, ◌+◌, ◌-◌, ◌%◌, ◌<◌, ◌≤◌, Bool, true, false, not, ◌&&◌, ◌||◌, ◌⊎◌, List, []}
use Rattle.std.specs.Prelude.{◌∷◌, ◌++◌, length, drop, Option, if◌then◌else◌, nat_le}
use Rattle.std.proofs.Common.{refl, sym, ap, ◌∙◌, subst, inl, inr, arith, length-append, length-drop, drop-drop}
use Rattle.std.proofs.Common.{le-leb, leb-true}
use Rattle.link_timers.specs.declared.role.Role.{Role}
use Rattle.link_timers.specs.declared.role.Role.TheVariants.{Dte, Dce}
use Rattle.frame_codec.specs.Frame.{FrameValue, Content, Report}
use Rattle.frame_codec.specs.Frame.Content.{I, Rr, Rnr, Rej, Sabm, Disc, Dm, Ua, Frmr}
use Rattle.lapb.specs.declared.phase.Phase.{Phase}
use Rattle.lapb.specs.declared.note.Note.{Note}
use Rattle.lapb.specs.Machine.{Octets, Link, Step, Defect, ahead, answers, command, response, numbered, still, sends}
use Rattle.lapb.specs.Machine.{set_up, disconnect, relink, come_up, take_sabm, take_disc, reject_as}
use Rattle.lapb.specs.Machine.{reject_number, defect_report, is_valid, acknowledged, on_supervisory}
use Rattle.lapb.specs.Machine.{accept, discard}
use Rattle.lapb.specs.Machine.{on_content, on_frame, on_defect, on_t1, poll}
use Rattle.lapb.specs.Machine.{send_all, settle}
use Rattle.lapb.specs.Named.{Session, begun, Counts, Agrees, IsNamed, AreNamed, with_packet, newly, session_after}
use Rattle.lapb.specs.Named.{IsInRange, Keeps, NamesAfter}
use Rattle.lapb.proofs.Cases.{Each}
use Rattle.lapb.proofs.Rules.{Numbers, of_i, of_rr, of_rnr, of_rej, UpRules, OutRules, not_setting, by_up, by_content}
use Rattle.lapb.proofs.Rules.{by_relink, by_t1, by_settle, by_defect}
use Rattle.lapb.proofs.Halves.{drop-first}
use Rattle.lapb.proofs.Steps.{is_numbered}

-- ---- frames without numbers, outside sessions

named-plain : (s : Session) (content : Content) → is_numbered content ≡ false → IsNamed s content
named-plain s (I ns nr packet) e = absurd (cc)
named-plain s (Rr nr) e = absurd (cc)
named-plain s (Rnr nr) e = absurd (cc)
named-plain s (Rej nr) e = absurd (cc)
named-plain s Sabm e = tt
named-plain s Disc e = tt
named-plain s Dm e = tt
named-plain s Ua e = tt
named-plain s (Frmr report) e = tt

are_named-plain : (s : Session) (frames : List FrameValue) → Each (λ f. is_numbered f.content ≡ false) frames →
    AreNamed s frames
are_named-plain s [] all = tt
are_named-plain s (f ∷ frames) all = (named-plain s f.content all.0, are_named-plain s frames all.1)

-- a step that leads out of sessions
record IsOut (step : Step) : Type 0 where
  off : step.link.phase ≡ Phase.Up → ⊥
  plain : Each (λ f. is_numbered f.content ≡ false) step.frames

-- ---- what a session becomes, by a count of packets newly acknowledged

abbrev grown : Note → Session → ℕ → Option Octets → Session
grown Note.Up s count accepted = begun
grown _ s count accepted = record {
  offered = s.offered;
  accepted = with_packet s.accepted accepted;
  taken = s.taken +
      count;
}

grown-is : (note : Note) (s : Session) (l : Link) (content : Content) (accepted : Option Octets) →
    grown note s (newly l content) accepted ≡ session_after note s l content accepted
grown-is Note.Up s l content accepted = refl
grown-is Note.Nothing s l content accepted = refl
grown-is Note.Down s l content accepted = refl

-- after a step the session agrees, and its frames are named
abbrev Good : Session → ℕ → Step → Type 0
Good s count step =
    Agrees step.link (grown step.note s count step.accepted) × AreNamed (grown step.note s count step.accepted)
    step.frames

good-out : (s : Session) (count : ℕ) (step : Step) → IsOut step → Good s count step
good-out s count step out =
    (λ e. absurd (out.off e), are_named-plain (grown step.note s count step.accepted) step.frames out.plain)

-- ---- a link that is up

counts-acked : (l : Link) (s : Session) (nr : ℕ) → nr < 8 → Counts l s → is_valid l nr ≡ true →
    Counts (acknowledged l nr) (record s { taken = s.taken + ahead l.oldest nr })
counts-acked l s nr low c valid =
    let far : ℕ = ahead l.oldest nr in
    let within : far ≤ l.top = leb-true far l.top valid in
    let len : length l.queue ≡ length s.offered - s.taken = ap (λ (q : List Octets). length q) c.queue ∙ length-drop
    s.taken s.offered in
    let rest : length (drop far l.queue) ≡ length l.queue - far = length-drop far l.queue in
    record {
      oldest = place l.oldest s.taken nr low c.oldest;
      queue = ap (λ (q : List Octets). drop far q) c.queue ∙ drop-drop far s.taken s.offered;
      taken = omega (arith, len, within, c.top, c.taken);
      next = omega (arith, c.next);
      top = omega (arith, rest, c.top);
      window = omega (arith, rest, c.window);
      expected = c.expected;
    }
  where
    place : (oldest taken nr : ℕ) → nr < 8 → oldest ≡ taken % 8 → nr ≡ (taken + (nr + 8 - oldest)
        % 8) % 8
    place oldest taken nr low e = omega arith

named-answers : (s : Session) (due : Bool) (nr : ℕ) → nr ≡ length s.accepted % 8 → AreNamed s (answers due
    nr)
named-answers s true nr e = (e, tt)
named-answers s false nr e = tt

back-le : (back : Bool) (next top : ℕ) → next ≤ top → (if back then 0 else next) ≤ top
back-le true next top le = omega arith
back-le false next top le = le

good-supervisory : (l : Link) (s : Session) (count : ℕ) (busy back r p : Bool) → Counts l (record s {
  taken = s.taken
      + count;
}) →
    Good s count (on_supervisory l busy back r p)
good-supervisory l s count busy back r p c = (
  λ _. record {
    oldest = c.oldest;
    queue = c.queue;
    taken = c.taken;
    next = back-le (back || r && p) l.next l.top c.next;
    top = c.top;
    window = c.window;
    expected = c.expected;
  },
  named-answers (record s { taken = s.taken + count }) (p && not r) l.expected c.expected,
)

good-accept : (l : Link) (s : Session) (count : ℕ) (p : Bool) (packet : Octets) → Counts l (record s {
  taken = s.taken
      + count;
}) →
    Good s count (accept l p packet)
good-accept l s count p packet c =
    let longer : length (s.accepted ++ packet ∷ []) ≡ length s.accepted + 1 = length-append s.accepted (packet ∷ [])
    in
    let told : (l.expected + 1) % 8 ≡ length (s.accepted ++ packet ∷ []) % 8 = omega (arith, longer, c.expected) in (
      λ _. record {
        oldest = c.oldest;
        queue = c.queue;
        taken = c.taken;
        next = c.next;
        top = c.top;
        window = c.window;
        expected = told;
      },
      named-answers (record { offered = s.offered; accepted = s.accepted ++ packet ∷ []; taken = s.taken + count }) p
          ((l.expected + 1) % 8) told,
    )

named-discarded : (s : Session) (rejecting due : Bool) (nr : ℕ) → nr ≡ length s.accepted % 8 →
    AreNamed s (if rejecting then answers due nr else response (Rej nr) due ∷ [])
named-discarded s true due nr e = named-answers s due nr e
named-discarded s false due nr e = (e, tt)

good-discard : (l : Link) (s : Session) (count : ℕ) (p : Bool) → Counts l (record s { taken = s.taken + count }) →
    Good s count (discard l p)
good-discard l s count p c = (
  λ _. record {
    oldest = c.oldest;
    queue = c.queue;
    taken = c.taken;
    next = c.next;
    top = c.top;
    window = c.window;
    expected = c.expected;
  },
  named-discarded (record s { taken = s.taken + count }) l.rejecting p l.expected c.expected,
)

out-reject : (role : Role) (l : Link) (report : Report) (p : Bool) → IsOut (reject_as role l report p)
out-reject Dte l report p = record { off = λ e. cc; plain = (refl, tt) }
out-reject Dce l report p = record { off = λ e. cc; plain = (refl, tt) }

same-count : (n : ℕ) → n ≡ n + 0
same-count n = omega arith

good-still : (l : Link) (s : Session) → Counts l s → Good s 0 (still l)
good-still l s c = (
  λ _. record {
    oldest = c.oldest ∙ ap (λ (n : ℕ). n % 8) (same-count s.taken);
    queue = c.queue ∙ ap (λ (n : ℕ). drop n s.offered) (same-count s.taken);
    taken = omega (arith, c.taken);
    next = c.next;
    top = c.top;
    window = c.window;
    expected = c.expected;
  },
  tt,
)

newly-valid : (l : Link) {content : Content} {nr : ℕ} → Numbers content nr → is_valid l nr ≡ true
    → newly l content ≡ ahead l.oldest nr
newly-valid l {nr = nr} of_i valid = ap (λ b. if b then ahead l.oldest nr else 0) valid
newly-valid l {nr = nr} of_rr valid = ap (λ b. if b then ahead l.oldest nr else 0) valid
newly-valid l {nr = nr} of_rnr valid = ap (λ b. if b then ahead l.oldest nr else 0) valid
newly-valid l {nr = nr} of_rej valid = ap (λ b. if b then ahead l.oldest nr else 0) valid

in-range : {content : Content} {nr : ℕ} → Numbers content nr → IsInRange content → nr < 8
in-range of_i low = low
in-range of_rr low = low
in-range of_rnr low = low
in-range of_rej low = low

out-set_up : (l : Link) → IsOut (set_up l)
out-set_up l = record { off = λ e. cc; plain = (refl, tt) }

out-disconnect : (l : Link) → IsOut (disconnect l)
out-disconnect l = record { off = λ e. cc; plain = (refl, tt) }

out-take_disc : (l : Link) (p : Bool) → IsOut (take_disc l p)
out-take_disc l p = record { off = λ e. cc; plain = (refl, tt) }

good-up : (l : Link) (s : Session) (content : Content) (r p : Bool) → IsInRange content → Counts l s →
    UpRules l content r p (Good s (newly l content))
good-up l s content r p low c =
    let acked : (nr : ℕ) → Numbers content nr → is_valid l nr ≡ true →
    Counts (acknowledged l nr) (record s { taken = s.taken + newly l content }) =
    λ nr has valid. subst (λ n. Counts (acknowledged l nr) (record s { taken = s.taken + n })) (sym (newly-valid l has
    valid)) (counts-acked l s nr (in-range has low) c valid) in
    record {
      still = λ none. subst (λ n. Good s n (still l)) (sym none) (good-still l s c);
      set_up = good-out s (newly l content) (set_up l) (out-set_up l);
      disconnect = good-out s (newly l content) (disconnect l) (out-disconnect l);
      take_disc = good-out s (newly l content) (take_disc l p) (out-take_disc l p);
      reject = good-out s (newly l content) (reject_number l content r p) (out-reject l.role l _ _);
      supervisory = λ nr has valid busy back _. good-supervisory (acknowledged l nr) s (newly l content) busy back r p
          (acked nr has valid);
      accept = λ nr packet has valid _. good-accept (acknowledged l nr) s (newly l content) p packet
          (acked nr has valid);
      discard = λ nr has valid _. good-discard (acknowledged l nr) s (newly l content) p (acked nr has valid);
    }

-- a session that begins
counts-begun : (l : Link) → l.oldest ≡ 0 → l.next ≡ 0 → l.top ≡ 0 → l.expected ≡ 0 → l.queue ≡ [] → Counts l begun
counts-begun l a b c d e =
    let none : length l.queue ≡ 0 = ap (λ (q : List Octets). length q) e in
    record {
      oldest = a;
      queue = e;
      taken = omega arith;
      next = omega (arith, b, c);
      top = omega (arith, c);
      window = omega (arith, none);
      expected = d;
    }

good-out_of : (l : Link) (s : Session) (content : Content) (p : Bool) → (l.phase ≡ Phase.Up → ⊥) →
    OutRules l content p (Good s (newly l content))
good-out_of l s content p off = record {
  still = good-out s (newly l content) (still l) (record { off = off; plain = tt });
  refuse = λ bit. good-out s (newly l content) (sends l (response Dm bit)) (record { off = off; plain = (refl, tt) });
  report = λ bit. good-out s (newly l content) (sends l (response (Frmr l.report) bit)) (record {
    off = off;
    plain = (refl, tt);
  });
  set_up = good-out s (newly l content) (set_up l) (out-set_up l);
  take_disc = good-out s (newly l content) (take_disc l p) (out-take_disc l p);
  come_up = λ _ _ _. (λ _. counts-begun (come_up l).link refl refl refl refl refl, (refl, tt));
}

good-on_content : (l : Link) (s : Session) (content : Content) (role : Role) (r p : Bool) → IsInRange content → Agrees
    l s →
    Good s (newly l content) (on_content content role l r p)
good-on_content l s content role r p low c =
    by_content content role l r p (Good s (newly l content))
    (λ _ _. (λ _. counts-begun (take_sabm l p).link refl refl refl refl refl, (tt, tt)))
    (λ up. by_up role l content r p (Good s (newly l content)) (good-up l s content r p low (c up)))
    (λ off. good-out_of l s content p off)

-- ---- what the calls make of a session

-- a received frame
pub named_on_frame : (l : Link) (frame : FrameValue) → IsInRange frame.content → NamesAfter l frame
named_on_frame l frame low s c =
    let step : Step = on_frame l frame in
    subst (λ (t : Session). Agrees step.link t × AreNamed t step.frames) (grown-is step.note s l frame.content
    step.accepted)
    (good-on_content l s frame.content l.role frame.response frame.pf low c)

keeps-out : (l : Link) (step : Step) → IsOut step → Keeps l step
keeps-out l step out s c = (λ e. absurd (out.off e), are_named-plain s step.frames out.plain)

keeps-still : (l : Link) → Keeps l (still l)
keeps-still l s c = (c, tt)

-- a start or relink
pub named_relink : (l : Link) → Keeps l (relink l)
named_relink l =
    by_relink l (Keeps l) (keeps-still l) (keeps-out l (set_up l) (out-set_up l))
    (keeps-out l (disconnect l) (out-disconnect l))

keeps-poll : (l : Link) → l.phase ≡ Phase.Up → Keeps l (poll l)
keeps-poll l up s c =
    let d = c up in (
      λ _. record {
        oldest = d.oldest;
        queue = d.queue;
        taken = d.taken;
        next = d.next;
        top = d.top;
        window = d.window;
        expected = d.expected;
      },
      (d.expected, tt),
    )

-- an expiry of T1
pub named_on_t1 : (l : Link) → Keeps l (on_t1 l)
named_on_t1 l = by_t1 l (Keeps l) (record {
  still = keeps-still l;
  relink = named_relink l;
  poll = λ up. keeps-poll l up;
  refuse = λ off. keeps-out l (record (sends l (response Dm false)) { anew = true }) (record {
    off = off;
    plain = (refl, tt);
  });
  ask = λ setting. keeps-out l (record (sends l (command Sabm l.bit)) { anew = true }) (record {
    off = not_setting l setting;
    plain = (refl, tt);
  });
  report = λ off. keeps-out l (record (sends l (response (Frmr l.report) false)) { anew = true }) (record {
    off = off;
    plain = (refl, tt);
  });
})

-- a frame that could not be read
pub named_on_defect : (l : Link) (defect : Defect) (control : ℕ) (r : Bool) → Keeps l (on_defect l defect control r)
named_on_defect l defect control r =
    by_defect l defect control r (Keeps l) (keeps-still l)
    (λ _ bit. keeps-out l _ (out-reject l.role l (defect_report l defect control r) bit))

-- ---- the end of an event

named-owed : (s : Session) (due : Bool) (nr : ℕ) → nr ≡ length s.accepted % 8 →
    AreNamed s (if due then response (Rr nr) false ∷ [] else [])
named-owed s true nr e = (e, tt)
named-owed s false nr e = tt

named-numbered : (s : Session) (nr start place : ℕ) (packets : List Octets) → drop place s.offered ≡ packets →
    length s.offered ≤ s.taken + 7 → s.taken ≤ place → start % 8 ≡ place % 8 → nr ≡ length s.accepted % 8 →
    AreNamed s (numbered start nr packets)
named-numbered s nr start place [] e few from same told = tt
named-numbered s nr start place (packet ∷ packets) e few from same told =
    let first = drop-first s.offered place packet packets e in (
      ((place, same, from, omega (arith, first.2), first.0), told),
      named-numbered s nr (start + 1) (suc place) packets first.1 few (omega arith) (omega (arith, same)) told,
    )

keeps-send_all : (l : Link) (packets : List Octets) → packets ≡ [] ⊎ (packets ≡ drop l.next l.queue) → l.phase ≡
    Phase.Up → Keeps l (send_all l packets)
keeps-send_all l [] which up s c =
    let d = c up in (
      λ _. record {
        oldest = d.oldest;
        queue = d.queue;
        taken = d.taken;
        next = d.next;
        top = d.top;
        window = d.window;
        expected = d.expected;
      },
      named-owed s l.owed l.expected d.expected,
    )
keeps-send_all l (packet ∷ packets) which up s c =
    let d = c up in
    let all_of_them : packet ∷ packets ≡ drop l.next l.queue = elim which [ inl e ↦ absurd (cc) | inr e ↦ e ] in
    let len : length l.queue ≡ length s.offered - s.taken = ap (λ (q : List Octets). length q) d.queue ∙ length-drop
    s.taken s.offered in
    let rest : drop (s.taken + l.next) s.offered ≡ packet ∷ packets =
    sym (drop-drop l.next s.taken s.offered) ∙ ap (λ (q : List Octets). drop l.next q) (sym d.queue) ∙ sym all_of_them
    in
    let top : (if nat_le l.top (length l.queue) then length l.queue else l.top) ≡ length l.queue =
    ap (λ b. if b then length l.queue else l.top) (le-leb l.top (length l.queue) d.top) in (
      λ _. record {
        oldest = d.oldest;
        queue = d.queue;
        taken = d.taken;
        next = subst (λ (n : ℕ). length l.queue ≤ n) (sym top) (omega arith);
        top = subst (λ (n : ℕ). n ≤ length l.queue) (sym top) (omega arith);
        window = d.window;
        expected = d.expected;
      },
      named-numbered s l.expected (l.oldest + l.next) (s.taken + l.next) (packet ∷ packets) rest (omega (
        arith,
        len,
        d.window,
        d.taken,
      ))
          (omega arith) (omega (arith, d.oldest)) d.expected,
    )

pub named_settle : (l : Link) → Keeps l (settle l)
named_settle l = by_settle l (Keeps l) (keeps-still l) (λ up packets which. keeps-send_all l packets which up)
