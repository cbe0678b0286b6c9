-- Where T1 expired at each end, nothing was lost since, and nothing is left to send, all has arrived.
use Rattle.std.specs.Prelude.{◌≡◌, ℕ, ◌+◌, ◌%◌, ◌<◌, ◌≤◌, Bool, true, false, not, ◌&&◌, ◌⊎◌, List, [], ◌∷◌, ◌++◌}
use Rattle.std.specs.Prelude.{length, drop, if◌then◌else◌}
use Rattle.std.proofs.Common.{refl, sym, ap, ◌∙◌, subst, inl, inr, arith, append-nil, length-append, length-drop}
use Rattle.std.proofs.Common.{drop_of_length-le}
use Rattle.link_timers.specs.declared.role.Role.TheVariants.{Dte, Dce}
use Rattle.frame_codec.specs.Frame.{FrameValue}
use Rattle.frame_codec.specs.Frame.Content.{Rr}
use Rattle.lapb.specs.declared.phase.Phase.{Phase}
use Rattle.lapb.specs.declared.link.LinkParams.{LinkParams}
use Rattle.lapb.specs.Machine.{Octets, Link, response, send_all, sendable, settle, settle_in, at_rest}
use Rattle.lapb.specs.World.{Sent, World, Event, Expire, to_dte, to_dce, happens, run, opening, Always}
use Rattle.lapb.specs.World.{IsPrefix}
use Rattle.lapb.specs.Reach.{Reached}
use Rattle.lapb.proofs.Inv.{Inv}
use Rattle.lapb.proofs.Reach.{reached_inv}
use Rattle.arrival_laws.specs.Arriving.{AllLossless, AreStarted, IsCalm, HaveArrived, Arrives, ComesToRest, Turn, Comes}
use Rattle.arrival_laws.specs.Arriving.{RunsOut, turn, turns, expiries}
use Rattle.arrival_laws.proofs.Frames.{cond_by, sets, Any, NotAny, PollLast, tells, reads}
use Rattle.arrival_laws.proofs.Ways.{Way, Sure}
use Rattle.arrival_laws.proofs.Heads.{bounds_dte, bounds_dce}
use Rattle.arrival_laws.proofs.Well.{Well, reached_well}
use Rattle.arrival_laws.proofs.Moves.{OfDte, OfDce, State, run-state}

-- ---- nothing is on the way

not_any : (f : FrameValue → Bool) (flow : List Sent) → flow ≡ [] → Any f flow → ⊥
not_any f [] e a = a
not_any f (s ∷ rest) e a = cc

not_polled : (flow : List Sent) → flow ≡ [] → PollLast flow → ⊥
not_polled [] e a = a
not_polled (s ∷ rest) e a = cc

none_sets : (flow : List Sent) → flow ≡ [] → NotAny sets flow
none_sets [] e = tt
none_sets (s ∷ rest) e = absurd (cc)

-- ---- an end that has nothing to send

up_then : (p : Phase) → (p ≡ Phase.Down → ⊥) → (p ≡ Phase.SettingUp → ⊥) → (p ≡ Phase.Rejecting → ⊥) → p ≡ Phase.Up
up_then Phase.Down a b c = absurd (a refl)
up_then Phase.SettingUp a b c = absurd (b refl)
up_then Phase.Up a b c = refl
up_then Phase.Rejecting a b c = absurd (c refl)

calm_parts : (l : Link) (packets : List Octets) → (send_all l packets).frames ≡ [] → (packets ≡ []) × (l.owed ≡ false)
calm_parts l [] e = (
  refl,
  cond_by (λ b. (if b then response (Rr l.expected) false ∷ [] else []) ≡ [] → b ≡ false) l.owed
      (λ _ f. absurd (cc)) (λ _ f. refl) e,
)
calm_parts l (packet ∷ packets) e = absurd (cc)

calm_up : (l : Link) → l.phase ≡ Phase.Up → (settle l).frames ≡ [] → (sendable l ≡ []) × (l.owed ≡ false)
calm_up l up e =
    calm_parts l (sendable l) (sym (ap (λ p. (settle_in p l).frames) up) ∙ e)

all_may_go : (l : Link) → l.heard ≡ true → l.polling ≡ false → l.busy ≡ false → sendable l ≡ drop l.next l.queue
all_may_go l heard quiet free = rw (heard, quiet, free) refl

-- V(S) is V(A) where all that was accepted is told of, and all that was sent accepted
at_start : (oldest next expected : ℕ) → oldest < 8 → next ≤ 7 → oldest ≡ expected →
    (next ≡ 0) ⊎ (expected ≡ (oldest + next) % 8) → next ≡ 0
at_start oldest next expected low few same comes = elim comes [ inl e ↦ e | inr e ↦ omega arith ]

-- an end of which all that it sent is accepted and told of
record Rests (x : Link) : Type 0 where
  at_rest_is : at_rest x ≡ true
  empty : x.queue ≡ []

rests : (x : Link) (expected : ℕ) (owed : Bool) (flow back : List Sent) → x.phase ≡ Phase.Up → (settle x).frames ≡ [] →
    owed ≡ false → x.heard ≡ true → x.busy ≡ false → x.oldest < 8 → x.next ≤ 7 → flow ≡ [] → back ≡ [] →
    Way x.polling x.oldest x.next expected owed flow back → Rests x
rests x expected owed flow back up calm paid heard free low few none none' w =
    let parts = calm_up x up calm in
    let told : x.oldest ≡ expected = elim w.told [
      | inl e ↦ sym (ap (λ (f : List Sent). tells x.oldest f) none') ∙ e
      | inr e ↦ absurd (let z : true ≡ false = sym e ∙ paid in cc)
    ] in
    let sure : Sure x.polling x.oldest x.next expected flow = elim w.sure [
      | inl a ↦ absurd (not_any _ back none' a)
      | inr g ↦ g
    ] in
    let comes : (x.next ≡ 0) ⊎ (expected ≡ (x.oldest + x.next) % 8) = elim sure.comes [
      | inl e ↦ inl e
      | inr e ↦ inr (sym (ap (λ (f : List Sent). reads expected f) none) ∙ e)
    ] in
    let zero : x.next ≡ 0 = at_start x.oldest x.next expected low few told comes in
    let empty : x.queue ≡ [] = ap (λ n. drop n x.queue) (sym zero) ∙ sym (all_may_go x heard sure.quiet free) ∙ parts.0 in
    record { at_rest_is = rw (up, empty, sure.quiet, parts.1) refl; empty = empty }

-- ---- what is offered and no more unacknowledged is accepted

prefix_all : (acc o : List Octets) → IsPrefix acc o → length o ≤ length acc → acc ≡ o
prefix_all acc o p le = sym (append-nil acc) ∙ ap (λ (xs : List Octets). acc ++ xs) (sym (nothing p.0 more)) ∙ p.1
  where
    more : length p.0 ≡ 0
    more = let e = length-append acc p.0 in let f = ap (λ (xs : List Octets). length xs) p.1 in omega (arith, e, f)

    nothing : (xs : List Octets) → length xs ≡ 0 → xs ≡ []
    nothing [] e = refl
    nothing (x ∷ xs) e = absurd (omega arith)

none_left : (queue o : List Octets) (a : ℕ) → queue ≡ drop a o → queue ≡ [] → length o ≤ a
none_left queue o a is none =
    let e : length (drop a o) ≡ 0 = ap (λ (xs : List Octets). length xs) (sym is ∙ none) in
    let f = length-drop a o in omega (arith, e, f)

-- ---- the line

pub have_arrived : (w : World) → State w [] → IsCalm w → HaveArrived w
have_arrived w s calm = arrived (dte_up, dce_up)
  where
    i : Inv w
    i = reached_inv w s.reached

    wl : Well w
    wl = reached_well w s.reached

    of_dte : OfDte w
    of_dte = elim s.dte [ inl n ↦ absurd (omega arith) | inr g ↦ g ]

    of_dce : OfDce w
    of_dce = elim s.dce [ inl n ↦ absurd (omega arith) | inr g ↦ g ]

    dte_up : w.dte.phase ≡ Phase.Up
    dte_up = up_then w.dte.phase s.started.dte (λ e. elim (of_dte.setting e) [
      | inl a ↦ not_any _ w.up calm.up a
      | inr b ↦ not_any _ w.down calm.down b
    ]) i.dte_phase

    dce_up : w.dce.phase ≡ Phase.Up
    dce_up = up_then w.dce.phase (λ e. elim (of_dce.out e dte_up) [
      | inl a ↦ not_any _ w.down calm.down a
      | inr b ↦ not_any _ w.up calm.up b
    ]) i.dce_set i.dce_phase

    arrived : (w.dte.phase ≡ Phase.Up) × (w.dce.phase ≡ Phase.Up) → HaveArrived w
    arrived both =
        let up = both.0 in
        let up' = both.1 in
        let none : NotAny sets w.up = none_sets w.up calm.up in
        let there : Way w.dte.polling w.dte.oldest w.dte.next w.dce.expected w.dce.owed w.up w.down =
        elim (of_dte.up up) [ inl p ↦ absurd (not_polled w.up calm.up p) | inr n ↦ n.1 up' ] in
        let back : Way w.dce.polling w.dce.oldest w.dce.next w.dte.expected w.dte.owed w.down w.up =
        elim (of_dce.up up' up none) [ inl p ↦ absurd (not_any _ w.down calm.down p) | inr g ↦ g ] in
        let quiet : w.dte.polling ≡ false = elim there.sure [
          | inl a ↦ absurd (not_any _ w.down calm.down a)
          | inr g ↦ g.quiet
        ] in
        let heard : w.dce.heard ≡ true = cond_by (λ b. w.dce.heard ≡ b → b ≡ true) w.dce.heard (λ _ _. refl)
        (λ e _. absurd (let z : true ≡ false = sym (wl.asked up up' e) ∙ quiet in cc)) refl in
        let bx = bounds_dte w s.reached up up' none in
        let by = bounds_dce w s.reached up up' in
        let px = calm_up w.dte up calm.dte in
        let py = calm_up w.dce up' calm.dce in
        let few_x : w.dte.next ≤ 7 = (let l = bx.next in let m = bx.few in omega arith) in
        let few_y : w.dce.next ≤ 7 = (let l = by.next in let m = by.few in omega arith) in
        let x = rests w.dte w.dce.expected w.dce.owed w.up w.down up calm.dte py.1 (wl.hears up) wl.dte_free bx.oldest
        few_x calm.up calm.down there in
        let y = rests w.dce w.dte.expected w.dte.owed w.down w.up up' calm.dce px.1 heard wl.dce_free by.oldest few_y
        calm.down calm.up back in
        let j = i.up_in up in
        let h = i.out in
        let k = i.back in
        let all_x = none_left w.dte.queue (w.dte_offered w.session) h.a (h.sends up).queue_is x.empty in
        let all_y = none_left w.dce.queue (w.dce_offered w.session) k.a (k.sends up').queue_is y.empty in
        record {
          are_up = record { dte = up; dce = up'; own = j.own_is ∙ sym j.act_is; session = sym j.act_is };
          dte_rests = x.at_rest_is;
          dce_rests = y.at_rest_is;
          at_dce = subst (λ c. w.dce_accepted c ≡ w.dte_offered c) (sym j.act_is)
              (prefix_all (w.dce_accepted w.session) (w.dte_offered w.session) h.in_order
              (let l = h.a_le in omega (arith, l, all_x)));
          at_dte = subst (λ c. w.dte_accepted c ≡ w.dce_offered c) (sym j.act_is)
              (prefix_all (w.dte_accepted w.session) (w.dce_offered w.session) k.in_order
              (let l = k.a_le in omega (arith, l, all_y)));
        }

pub reached_by : (standing : Bool) (dte dce : LinkParams) → dte.k ≤ 7 → dce.k ≤ 7 → (events : List Event) →
    Reached (run events (opening standing dte dce))
reached_by standing dte dce few few' events = record {
  standing = standing;
  dte = dte;
  dce = dce;
  dte_window = few;
  dce_window = few';
  events = events;
  leads = refl;
}

begins : (w : World) (events : List Event) → Reached w → AreStarted w → 1 ≤ expiries Dte events →
    1 ≤ expiries Dce events → State w events
begins w events reached started n m = record { reached = reached; started = started; dte = inl n; dce = inl m }

pub arrives : Always Arrives
arrives standing dte dce few few' events started es lossless n m calm =
    let w : World = run events (opening standing dte dce) in
    have_arrived (run es w) (run-state es w lossless (begins w es (reached_by standing dte dce few few' events) started n
    m)) calm

-- ---- ends of events leave nothing to send

abbrev IsSettled : Link → Type 0
IsSettled l = (settle l).frames ≡ []

settled_out : (p : Phase) (l : Link) → l.phase ≡ p → (settle_in p l).link ≡ l → (settle_in p l).frames ≡ [] →
    IsSettled (settle_in p l).link
settled_out p l is same none = ap (λ (x : Link). (settle x).frames) same ∙ ap (λ q. (settle_in q l).frames) is ∙ none

-- a link that sent all that may go sends nothing more
sent_again : (l : Link) (packets : List Octets) → sendable l ≡ packets →
    (send_all (send_all l packets).link (sendable (send_all l packets).link)).frames ≡ []
sent_again l [] none =
    ap (λ (ps : List Octets). (send_all (record l { owed = false }) ps).frames) none
sent_again l (packet ∷ packets) some =
    ap (λ (ps : List Octets). (send_all (send_all l (packet ∷ packets)).link ps).frames)
    (cond_by (λ b. (if b then drop (length l.queue) l.queue else []) ≡ []) (l.heard && not l.polling && not l.busy)
    (λ _. drop_of_length-le l.queue {i = length l.queue} (omega arith)) (λ _. refl))

sent_phase : (l : Link) (packets : List Octets) → (send_all l packets).link.phase ≡ l.phase
sent_phase l [] = refl
sent_phase l (packet ∷ packets) = refl

settled_in : (p : Phase) (l : Link) → l.phase ≡ p → IsSettled (settle_in p l).link
settled_in Phase.Down l is = settled_out Phase.Down l is refl refl
settled_in Phase.SettingUp l is = settled_out Phase.SettingUp l is refl refl
settled_in Phase.Rejecting l is = settled_out Phase.Rejecting l is refl refl
settled_in Phase.Up l is =
    let v : Link = (send_all l (sendable l)).link in
    ap (λ q. (settle_in q v).frames) (sent_phase l (sendable l) ∙ is) ∙ sent_again l (sendable l) refl

settled_again : (l : Link) → IsSettled (settle l).link
settled_again l = settled_in l.phase l refl

-- an event at one end leaves the other link as it is
dce_same : (w : World) (flow : List Sent) → (to_dte w [] flow).dce ≡ w.dce
dce_same w [] = refl
dce_same w (s ∷ rest) = refl

dte_same : (w : World) (flow : List Sent) → (to_dce w [] flow).dte ≡ w.dte
dte_same w [] = refl
dte_same w (s ∷ rest) = refl

-- each end has ended an event, or is to
run_settled : (ts : List Turn) (w : World) → IsSettled w.dte ⊎ (1 ≤ expiries Dte (turns ts)) →
    IsSettled w.dce ⊎ (1 ≤ expiries Dce (turns ts)) →
    IsSettled (run (turns ts) w).dte × IsSettled (run (turns ts) w).dce
run_settled [] w d e = (
  elim d [ inl s ↦ s | inr n ↦ absurd (omega arith) ],
  elim e [ inl s ↦ s | inr n ↦ absurd (omega arith) ],
)
run_settled (Comes Dte ∷ ts) w d e =
    run_settled ts (run (turn (Comes Dte)) w) (inl (settled_again (to_dte w [] w.down).dte)) (elim e [
      | inl s ↦ inl (ap (λ (l : Link). (settle l).frames) (dce_same w w.down) ∙ s)
      | inr n ↦ inr (omega arith)
    ])
run_settled (Comes Dce ∷ ts) w d e =
    run_settled ts (run (turn (Comes Dce)) w) (elim d [
      | inl s ↦ inl (ap (λ (l : Link). (settle l).frames) (dte_same w w.up) ∙ s)
      | inr n ↦ inr (omega arith)
    ]) (inl (settled_again (to_dce w [] w.up).dce))
run_settled (RunsOut Dte ∷ ts) w d e =
    run_settled ts (run (turn (RunsOut Dte)) w) (inl (settled_again (happens w (Expire Dte [])).dte)) (elim e [
      | inl s ↦ inl s
      | inr n ↦ inr (omega arith)
    ])
run_settled (RunsOut Dce ∷ ts) w d e =
    run_settled ts (run (turn (RunsOut Dce)) w) (elim d [ inl s ↦ inl s | inr n ↦ inr (omega arith) ])
    (inl (settled_again (happens w (Expire Dce [])).dce))

pub turns_lossless : (ts : List Turn) → AllLossless (turns ts)
turns_lossless [] = tt
turns_lossless (Comes to ∷ ts) = (refl, (refl, turns_lossless ts))
turns_lossless (RunsOut at ∷ ts) = (refl, (refl, turns_lossless ts))

pub comes_to_rest : Always ComesToRest
comes_to_rest standing dte dce few few' events started ts n m up down =
    let w : World = run events (opening standing dte dce) in
    let settled = run_settled ts w (inr n) (inr m) in
    arrives standing dte dce few few' events started (turns ts) (turns_lossless ts) n m
    (record { up = up; down = down; dte = settled.0; dce = settled.1 })
