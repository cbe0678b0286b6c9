-- One direction of a session, from x to y, where nothing is lost: what is kept until all that x sent is accepted.
use Rattle.std.specs.Prelude.{◌≡◌, ℕ, ◌+◌, ◌-◌, ◌%◌, ◌<◌, ◌≤◌, Bool, true, false, ◌⊎◌, List, [], ◌∷◌, ◌++◌, length, drop}
use Rattle.std.specs.Prelude.{if◌then◌else◌, ◌==◌, nat_le}
use Rattle.std.proofs.Common.{refl, sym, ap, ◌∙◌, inl, inr, arith, leb-true, leb-false, eqb-true, length-drop}
use Rattle.std.proofs.lemmas.Bool.{eqb-false}
use Rattle.frame_codec.specs.Frame.{FrameValue}
use Rattle.frame_codec.specs.Frame.Content.{Rr}
use Rattle.lapb.specs.Machine.{Octets, Link, Step, ahead, response, command, numbered, send_all}
use Rattle.lapb.specs.World.{Sent, stamped}
use Rattle.arrival_laws.proofs.Frames.{cond_by, is_poll, is_answer, Any, any-more, any-new}
use Rattle.arrival_laws.proofs.Frames.{read, reads, tells, reads-more, tells-more}
use Rattle.arrival_laws.proofs.Took.{Took, Tells, at_once, later, as_before}

-- x polls no more, and what it sent will have been accepted
pub record Sure (polling : Bool) (oldest next expected : ℕ) (flow : List Sent) : Type 0 where
  pub quiet : polling ≡ false
  pub comes : (next ≡ 0) ⊎ (reads expected flow ≡ (oldest + next) % 8)

-- what y accepted is told of, or owed; and an answer to a poll comes to x, or x is sure
pub record Way (polling : Bool) (oldest next expected : ℕ) (owed : Bool) (flow back : List Sent) : Type 0 where
  pub told : (tells oldest back ≡ expected) ⊎ (owed ≡ true)
  pub sure : Any is_answer back ⊎ Sure polling oldest next expected flow

-- ---- x takes a frame

-- V(S) does not fall behind where V(A) moves on
moved : (o n o' : ℕ) → o < 8 → o' < 8 → (n - ahead o o' ≡ 0) ⊎ ((o' + (n - ahead o o')) % 8 ≡ (o + n) % 8)
moved o n o' l m =
    cond_by (λ _. (n - ahead o o' ≡ 0) ⊎ ((o' + (n - ahead o o')) % 8 ≡ (o + n) % 8)) (nat_le (ahead o o') n)
    (λ e. inr (far (leb-true (ahead o o') n e))) (λ e. inl (let f = leb-false (ahead o o') n e in omega arith))
  where
    far : ahead o o' ≤ n → (o' + (n - ahead o o')) % 8 ≡ (o + n) % 8
    far h = omega arith

still_comes : (o n o' n' v v' : ℕ) → o < 8 → o' < 8 → v' ≡ v → (n' ≡ 0) ⊎ (n' ≡ n - ahead o o') →
    (n ≡ 0) ⊎ (v ≡ (o + n) % 8) → (n' ≡ 0) ⊎ (v' ≡ (o' + n') % 8)
still_comes o n o' n' v v' l m same step comes = elim step [
  | inl zero ↦ inl zero
  | inr less ↦ elim comes [
    | inl zero ↦ inl (omega arith)
    | inr e ↦ elim (moved o n o' l m) [
      | inl zero ↦ inl (less ∙ zero)
      | inr far ↦ inr (same ∙ e ∙ sym far ∙ ap (λ k. (o' + k) % 8) (sym less))
    ]
  ]
]

pub way-x_takes : (x : Link) (s : Sent) (step : Step) (v t expected : ℕ) (owed : Bool) (flow rest : List Sent) →
    Took x s.frame.content s.frame.response s.frame.pf v step → x.oldest < 8 → step.link.oldest < 8 →
    Way x.polling x.oldest x.next expected owed flow (s ∷ rest) →
    Way step.link.polling step.link.oldest step.link.next expected owed (flow ++ stamped t step.frames) rest
way-x_takes x s step v t expected owed flow rest took l m w = record {
  told = elim w.told [ inl e ↦ inl (ap (λ n. tells n rest) took.oldest ∙ e) | inr e ↦ inr e ];
  sure = elim w.sure [
    | inl a ↦ elim a [
      | inl e ↦ inr (record { quiet = (took.answered e).0; comes = inl (took.answered e).1 })
      | inr behind ↦ inl behind
    ]
    | inr g ↦ inr (record {
      quiet = took.polling g.quiet;
      comes = still_comes x.oldest x.next step.link.oldest step.link.next (reads expected flow)
          (reads expected (flow ++ stamped t step.frames)) l m
          (reads-more expected flow (stamped t step.frames) ∙ took.plain.reads_same (reads expected flow) t) took.next
          g.comes;
    })
  ];
}

-- ---- y takes a frame

told-frames : (v : ℕ) (back : List Sent) (t expected e : ℕ) (owed o : Bool) (frames : List FrameValue) →
    Tells expected owed e o frames → (tells v back ≡ e) ⊎ (o ≡ true) →
    (tells v (back ++ stamped t frames) ≡ expected) ⊎ (owed ≡ true)
told-frames v back t expected e owed o frames (at_once all) told =
    inl (tells-more v back (stamped t frames) ∙ all (tells v back) t)
told-frames v back t expected e owed o frames (later f) told = inr f
told-frames v back t expected e owed o frames (as_before none same kept) told = elim told [
  | inl f ↦ inl (ap (λ (fs : List FrameValue). tells v (back ++ stamped t fs)) none ∙ tells-more v back [] ∙ f ∙ sym same)
  | inr f ↦ inr (kept ∙ f)
]

pub way-y_takes : (y : Link) (s : Sent) (step : Step) (t : ℕ) (polling : Bool) (oldest next : ℕ) (rest back : List Sent) →
    Took y s.frame.content s.frame.response s.frame.pf (read y.expected s.frame.content) step →
    Way polling oldest next y.expected y.owed (s ∷ rest) back →
    Way polling oldest next step.link.expected step.link.owed rest (back ++ stamped t step.frames)
way-y_takes y s step t polling oldest next rest back took w = record {
  told = told-frames oldest back t step.link.expected y.expected step.link.owed y.owed step.frames took.tells w.told;
  sure = elim w.sure [
    | inl a ↦ inl (any-more is_answer back (stamped t step.frames) a)
    | inr g ↦ inr (record {
      quiet = g.quiet;
      comes = elim g.comes [ inl e ↦ inl e | inr e ↦ inr (ap (λ n. reads n rest) took.expected ∙ e) ];
    })
  ];
}

-- a poll, which it answers
pub way-y_answers : (y : Link) (s : Sent) (step : Step) (v t : ℕ) (polling : Bool) (oldest next : ℕ)
    (rest back : List Sent) → Took y s.frame.content s.frame.response s.frame.pf v step → is_poll s.frame ≡ true →
    Way polling oldest next step.link.expected step.link.owed rest (back ++ stamped t step.frames)
way-y_answers y s step v t polling oldest next rest back took e =
    let answer = took.poll e in
    record {
      told = inl (tells-more oldest back (stamped t step.frames) ∙ answer.1 (tells oldest back) t);
      sure = inl (any-new is_answer back (stamped t step.frames) (answer.0 t));
    }

-- ---- y polls

pub way-y_polls : (v : ℕ) (t : ℕ) (polling : Bool) (oldest next : ℕ) (owed : Bool) (flow back : List Sent) →
    Way polling oldest next v owed flow back →
    Way polling oldest next v owed flow (back ++ stamped t (command (Rr v) true ∷ []))
way-y_polls v t polling oldest next owed flow back w = record {
  told = inl (tells-more oldest back (stamped t (command (Rr v) true ∷ [])));
  sure = elim w.sure [ inl a ↦ inl (any-more is_answer back (stamped t (command (Rr v) true ∷ [])) a) | inr g ↦ inr g ];
}

-- ---- ends of events

tells-numbered : (v ns nr t : ℕ) (packet : Octets) (packets : List Octets) →
    tells v (stamped t (numbered ns nr (packet ∷ packets))) ≡ nr
tells-numbered v ns nr t packet [] = refl
tells-numbered v ns nr t packet (p ∷ packets) = tells-numbered nr (ns + 1) nr t p packets

pub way-y_sends : (y : Link) (packets : List Octets) (t : ℕ) (polling : Bool) (oldest next : ℕ) (flow back : List Sent) →
    Way polling oldest next y.expected y.owed flow back →
    Way polling oldest next (send_all y packets).link.expected (send_all y packets).link.owed flow
    (back ++ stamped t (send_all y packets).frames)
way-y_sends y [] t polling oldest next flow back w =
    cond_by (λ b. y.owed ≡ b → Way polling oldest next y.expected false flow
    (back ++ stamped t (if b then response (Rr y.expected) false ∷ [] else []))) y.owed
    (λ _ _. record {
      told = inl (tells-more oldest back (stamped t (response (Rr y.expected) false ∷ [])));
      sure = elim w.sure [
        | inl a ↦ inl (any-more is_answer back (stamped t (response (Rr y.expected) false ∷ [])) a)
        | inr g ↦ inr g
      ];
    })
    (λ off _. record {
      told = elim w.told [
        | inl e ↦ inl (tells-more oldest back [] ∙ e)
        | inr e ↦ absurd (let x : true ≡ false = sym e ∙ off in cc)
      ];
      sure = elim w.sure [ inl a ↦ inl (any-more is_answer back [] a) | inr g ↦ inr g ];
    }) refl
way-y_sends y (packet ∷ packets) t polling oldest next flow back w = record {
  told =
      let frames : List FrameValue = numbered (y.oldest + y.next) y.expected (packet ∷ packets) in
      inl (tells-more oldest back (stamped t frames) ∙
      tells-numbered (tells oldest back) (y.oldest + y.next) y.expected t packet packets);
  sure = elim w.sure [
    | inl a ↦ inl (any-more is_answer back (stamped t (numbered (y.oldest + y.next) y.expected (packet ∷ packets))) a)
    | inr g ↦ inr g
  ];
}

-- frames from number s on, of which those before number r were accepted
reads-numbered : (s r nr t v : ℕ) (packets : List Octets) → v ≡ r % 8 → s ≤ r → r ≤ s + length packets →
    length packets ≤ 7 → reads v (stamped t (numbered s nr packets)) ≡ (s + length packets) % 8
reads-numbered s r nr t v [] is low high few = omega arith
reads-numbered s r nr t v (packet ∷ packets) is low high few =
    cond_by (λ b. reads (if b then (v + 1) % 8 else v) (stamped t (numbered (s + 1) nr packets))
    ≡ (s + length (packet ∷ packets)) % 8) (s % 8 == v)
    (λ e. let here : r ≡ s = one_place (eqb-true (s % 8) v e) in
    reads-numbered (s + 1) (r + 1) nr t ((v + 1) % 8) packets (omega (arith, is)) (omega arith) (omega (arith, here))
    (omega arith) ∙ longer)
    (λ e. let other = eqb-false (s % 8) v e in
    reads-numbered (s + 1) r nr t v packets is (later_one other) (omega arith) (omega arith) ∙ longer)
  where
    longer : (s + 1 + length packets) % 8 ≡ (s + length (packet ∷ packets)) % 8
    longer = ap (λ n. n % 8) (let e : s + 1 + length packets ≡ s + length (packet ∷ packets) = omega arith in e)

    one_place : s % 8 ≡ v → r ≡ s
    one_place same = omega arith

    later_one : (s % 8 ≡ v → ⊥) → s + 1 ≤ r
    later_one other = cond_by (λ _. s + 1 ≤ r) (nat_le (s + 1) r) (λ e. leb-true (s + 1) r e)
        (λ e. absurd (other (let f = leb-false (s + 1) r e in let g : r ≡ s = omega arith in ap (λ n. n % 8) (sym g) ∙ sym is)))

-- x sends what may go: all that was accepted lies between V(S) and the end of its queue
pub way-x_sends : (x : Link) (packets : List Octets) (t expected : ℕ) (owed : Bool) (flow back : List Sent) →
    packets ≡ [] ⊎ (packets ≡ drop x.next x.queue) → x.next ≤ length x.queue → length x.queue ≤ 7 → x.oldest < 8 →
    reads expected flow < 8 → ahead x.oldest (reads expected flow) ≤ length x.queue →
    Way x.polling x.oldest x.next expected owed flow back →
    Way (send_all x packets).link.polling (send_all x packets).link.oldest (send_all x packets).link.next expected owed
    (flow ++ stamped t (send_all x packets).frames) back
way-x_sends x [] t expected owed flow back which sent few small v_small between w =
    let frames : List FrameValue = if x.owed then response (Rr x.expected) false ∷ [] else [] in
    record {
      told = w.told;
      sure = elim w.sure [
        | inl a ↦ inl a
        | inr g ↦ inr (record {
          quiet = g.quiet;
          comes = elim g.comes [
            | inl e ↦ inl e
            | inr e ↦ inr (reads-more expected flow (stamped t frames) ∙ silent x.owed (reads expected flow) ∙ e)
          ];
        })
      ];
    }
  where
    silent : (b : Bool) (v : ℕ) → reads v (stamped t (if b then response (Rr x.expected) false ∷ [] else [])) ≡ v
    silent true v = refl
    silent false v = refl
way-x_sends x (packet ∷ packets) t expected owed flow back which sent few small v_small between w = record {
  told = w.told;
  sure = elim w.sure [
    | inl a ↦ inl a
    | inr g ↦ inr (record { quiet = g.quiet; comes = inr (all g.comes) })
  ];
}
  where
    v : ℕ
    v = reads expected flow

    these : packet ∷ packets ≡ drop x.next x.queue
    these = elim which [ inl e ↦ absurd (cc) | inr e ↦ e ]

    count : length (packet ∷ packets) ≡ length x.queue - x.next
    count = ap (λ (ps : List Octets). length ps) these ∙ length-drop x.next x.queue

    -- how many of the queue were accepted
    r : ℕ
    r = ahead x.oldest v

    v_is : v ≡ (x.oldest + r) % 8
    v_is = omega arith

    low : (x.next ≡ 0) ⊎ (v ≡ (x.oldest + x.next) % 8) → x.next ≤ r
    low comes = elim comes [ inl e ↦ omega arith | inr e ↦ (let f : v ≡ (x.oldest + x.next) % 8 = e in omega arith) ]

    all : (x.next ≡ 0) ⊎ (v ≡ (x.oldest + x.next) % 8) →
        reads expected (flow ++ stamped t (numbered (x.oldest + x.next) x.expected (packet ∷ packets)))
        ≡ (x.oldest + length x.queue) % 8
    all comes =
        let least = low comes in
        let sum : x.oldest + x.next + length (packet ∷ packets) ≡ x.oldest + length x.queue = omega (arith, count, sent) in
        reads-more expected flow (stamped t (numbered (x.oldest + x.next) x.expected (packet ∷ packets))) ∙
        reads-numbered (x.oldest + x.next) (x.oldest + r) x.expected t v (packet ∷ packets) v_is (omega arith)
        (omega (arith, sum, between)) (omega (arith, count, few)) ∙ ap (λ n. n % 8) sum
