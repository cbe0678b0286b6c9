-- The ports of a PAD: what the terminals learn, and what happens at one of them.
use Rattle.std.specs.Prelude.{◌≡◌, ℕ, zero, suc, ◌+◌, ◌⊎◌, Bool, true, false, cond, List, [], ◌∷◌, ◌++◌, slice_get, slice_set, position, Option, Some, None}
use Rattle.std.specs.List.{position_from, fold}
use Rattle.std.specs.Option.{option_map_or}
use Rattle.std.proofs.Common.{inl, inr, refl, sym, ap, subst, ◌∙◌, true≢false, arith}
use Rattle.std.proofs.lemmas.Bool.{cases_eq}
use Rattle.std.proofs.lemmas.Option.{none-some, same_Some}
use Rattle.std.proofs.lemmas.Iterator.Adapters.{position_from-zero}
use Rattle.link_timers.specs.declared.role.Role.{Role}
use Rattle.data_transfer.specs.Packets.{Note, Reason}
use Rattle.data_transfer.specs.Packets.Note.{Incoming, Connected, Closed, WasReset, InterruptConfirmed, Covered}
use Rattle.packet_layer.specs.Layer.{Layer}
use Rattle.record_laws.proofs.Books.Basics.{get_set}
use Rattle.call_records.specs.Records.{with_epoch, with_covered}
use Rattle.call_records.specs.Book.{Book, all_told, told, closes, renews, covers}
use Rattle.pad_terminal.specs.Calls as calls
use Rattle.pad_ports.specs.PadLine.{learnt_of, all_learnt, last_incoming}
use Rattle.pad_ports.specs.Ports as port
use Rattle.pad_ports.specs.Ports.{PortState, has_channel}
use Rattle.x25_pad.specs.Pad.{changed_at, holder, one_learnt, all_heard}
use Rattle.node_laws.specs.Pads.Holds.{BookHolds, IsPort, IsOn, TextOf}
use Rattle.node_laws.proofs.Pads.Channels.{Tells, IncomingLast}
use Rattle.node_laws.proofs.Pads.Layers.{call_at}
use Rattle.node_laws.proofs.Pads.Records.{epoch_quiet, covered_quiet}
use Rattle.node_laws.proofs.Pads.Books.{narrowed, quiet_at, opens_holds, closes_holds}
use Rattle.node_laws.proofs.Pads.Modes.{ended_is}
use Rattle.node_laws.proofs.Pads.Typing.{port_same, port_over, same_channel}

-- ---- the first place where a test holds

found_from : {X : Type 0} (p : X → Bool) (xs : List X) (k i : ℕ) → position_from p k xs ≡ Some i → (j : ℕ) × (i ≡ k + j) × (x : X) × (slice_get xs j ≡ Some x) × (p x ≡ true)
found_from p [] k i e = absurd (none-some i e)
found_from {X} p (x ∷ xs) k i e = by (p x) refl (λ d f. found_from p xs (k + 1) d f) e
  where
    by : (v : Bool) → p x ≡ v → ((d : ℕ) → position_from p (k + 1) xs ≡ Some d → (j : ℕ) × (d ≡ k + 1 + j) × (y : X) × (slice_get xs j ≡ Some y) × (p y ≡ true))
        → cond v (Some k) (position_from p (k + 1) xs) ≡ Some i → (j : ℕ) × (i ≡ k + j) × (y : X) × (slice_get (x ∷ xs) j ≡ Some y) × (p y ≡ true)
    by true is rest f = let same : k ≡ i = same_Some k i f in (0, omega arith, x, refl, is)
    by false is rest f = let g = rest i f in let place : i ≡ k + 1 + g.0 = g.1 in (suc g.0, omega arith, g.2, g.3, g.4)

none_from : {X : Type 0} (p : X → Bool) (xs : List X) (k : ℕ) → position_from p k xs ≡ None → (j : ℕ) (x : X) → slice_get xs j ≡ Some x → p x ≡ false
none_from p [] k e j x f = absurd (none-some x f)
none_from {X} p (y ∷ ys) k e j x f = by (p y) refl (λ g i z h. none_from p ys (k + 1) g i z h) e j f
  where
    by : (v : Bool) → p y ≡ v → (position_from p (k + 1) ys ≡ None → (i : ℕ) (z : X) → slice_get ys i ≡ Some z → p z ≡ false) → cond v (Some k) (position_from p (k + 1) ys) ≡ None
        → (j : ℕ) → slice_get (y ∷ ys) j ≡ Some x → p x ≡ false
    by true is rest g j h = absurd (none-some k (sym g))
    by false is rest g zero h = ap p (sym (same_Some y x h)) ∙ is
    by false is rest g (suc j) h = rest g j x h

pub found_at : {X : Type 0} (p : X → Bool) (xs : List X) (i : ℕ) → position p xs ≡ Some i → (x : X) × (slice_get xs i ≡ Some x) × (p x ≡ true)
found_at p xs i e =
    let f = found_from p xs 0 i (sym (position_from-zero p xs) ∙ e) in
    let sum : i ≡ 0 + f.0 = f.1 in
    let place : i ≡ f.0 = omega arith in
    (f.2, ap (λ (k : ℕ). slice_get xs k) place ∙ f.3, f.4)

pub none_at : {X : Type 0} (p : X → Bool) (xs : List X) → position p xs ≡ None → (j : ℕ) (x : X) → slice_get xs j ≡ Some x → p x ≡ false
none_at p xs e j x f = none_from p xs 0 (sym (position_from-zero p xs) ∙ e) j x f

-- ---- a port that changes

-- the port of a number is the changed one, and each other one is as it was
pub changed_port : (ports : List PortState) (i : ℕ) (p : PortState) (f : PortState → PortState) (j : ℕ) (q : PortState) → slice_get ports i ≡ Some p → slice_get (changed_at i f ports) j ≡ Some q
    → ((j ≡ i) × (q ≡ f p)) ⊎ ((j ≡ i → ⊥) × (slice_get ports j ≡ Some q))
changed_port ports i p f j q at e =
    get_set ports i (f p) j q (ap (λ (o : Option PortState). slice_get (option_map_or (λ z. slice_set ports i (f z)) o ports) j) (sym at) ∙ e)

-- ---- ports of which each has its call alone

abbrev pub AreAlone : List PortState → Type 0
AreAlone ports = (i j channel : ℕ) (q r : PortState) → IsOn ports i channel q → IsOn ports j channel r → i ≡ j

-- each port after something comes from one before it: it has no other channel, and the same text where it has one
pub record Back (ports after : List PortState) : Type 0 where
  pub from : (j : ℕ) (q : PortState) → slice_get after j ≡ Some q
      → IsPort q × (p : PortState) × (slice_get ports j ≡ Some p) × ((c : ℕ) → has_channel q.call c ≡ true → (has_channel p.call c ≡ true) × (q.terminal.held ≡ p.terminal.held))

pub on_back : (ports after : List PortState) → Back ports after → (j c : ℕ) (q : PortState) → IsOn after j c q → (p : PortState) × IsOn ports j c p × (q.terminal.held ≡ p.terminal.held)
on_back ports after b j c q on =
    let f = b.from j q on.0 in
    let g = f.3 c on.1 in
    (f.1, (f.2, g.0), g.1)

pub alone_back : (ports after : List PortState) → Back ports after → AreAlone ports → AreAlone after
alone_back ports after b alone i j c q r e f =
    let p = on_back ports after b i c q e in
    let s = on_back ports after b j c r f in
    alone i j c p.0 s.0 p.1 s.1

pub text_back : (ports after : List PortState) → Back ports after → (c : ℕ) (t : List ℕ) → TextOf after c t → TextOf ports c t
text_back ports after b c t x =
    let p = on_back ports after b x.0 c x.1 (x.2, x.3) in
    (x.0, p.0, p.1.0, p.1.1, sym p.2 ∙ x.4)

-- ---- what a terminal learns

abbrev pub connected_by : (channel : ℕ) → PortState → PortState
connected_by d p = port.connects d p

abbrev pub cleared_by : (cause : ℕ) → PortState → PortState
cleared_by cause p = record p { terminal = calls.cleared cause p.terminal; call = None }

abbrev pub reset_by : (cause : ℕ) → PortState → PortState
reset_by cause p = record p { terminal = calls.reset cause p.terminal }

-- the port that has its call on the channel changes, if there is one
abbrev pub changed_for : Option ℕ → (PortState → PortState) → List PortState → List PortState
changed_for None f ports = ports
changed_for (Some i) f ports = changed_at i f ports

abbrev pub changed_on : (channel : ℕ) → (PortState → PortState) → List PortState → List PortState
changed_on d f ports = changed_for (holder d ports) f ports

pub heard_connected : (d : ℕ) (ports : List PortState) → all_heard (learnt_of (Connected d)) ports ≡ changed_on d (connected_by d) ports
unfolding all_heard
heard_connected d ports = by (holder d ports) refl
  where
    by : (o : Option ℕ) → holder d ports ≡ o → all_heard (learnt_of (Connected d)) ports ≡ changed_on d (connected_by d) ports
    by None h = rw h refl
    by (Some i) h = rw h refl

pub heard_cleared : (d cause diagnostic : ℕ) (reason : Reason) (ports : List PortState) → all_heard (learnt_of (Closed d cause diagnostic reason)) ports ≡ changed_on d (cleared_by cause) ports
unfolding all_heard
heard_cleared d cause diagnostic reason ports = by (holder d ports) refl
  where
    by : (o : Option ℕ) → holder d ports ≡ o → all_heard (learnt_of (Closed d cause diagnostic reason)) ports ≡ changed_on d (cleared_by cause) ports
    by None h = rw h refl
    by (Some i) h = rw h refl

pub heard_reset : (d cause diagnostic : ℕ) (reason : Reason) (ports : List PortState) → all_heard (learnt_of (WasReset d cause diagnostic reason)) ports ≡ changed_on d (reset_by cause) ports
unfolding all_heard
heard_reset d cause diagnostic reason ports = by (holder d ports) refl
  where
    by : (o : Option ℕ) → holder d ports ≡ o → all_heard (learnt_of (WasReset d cause diagnostic reason)) ports ≡ changed_on d (reset_by cause) ports
    by None h = rw h refl
    by (Some i) h = rw h refl

pub heard_none : (ports : List PortState) → all_heard (all_learnt []) ports ≡ ports
unfolding all_heard
heard_none ports = refl

fold_append : {N P : Type 0} (f : P → N → P) (xs ys : List N) (p : P) → fold f p (xs ++ ys) ≡ fold f (fold f p xs) ys
fold_append f [] ys p = refl
fold_append f (x ∷ xs) ys p = fold_append f xs ys (f p x)

pub heard_more : (note : Note) (ns : List Note) (ports : List PortState) → all_heard (all_learnt (note ∷ ns)) ports ≡ all_heard (all_learnt ns) (all_heard (learnt_of note) ports)
unfolding all_heard
heard_more note ns ports = fold_append one_learnt (learnt_of note) (all_learnt ns) ports

-- ---- what is learnt

-- of a change of a port that has its call on the channel
abbrev LearnsBy : (channel : ℕ) → (PortState → PortState) → Type 0
LearnsBy d f =
    (p : PortState) → has_channel p.call d ≡ true → IsPort p
    → IsPort (f p) × ((c : ℕ) → has_channel (f p).call c ≡ true → (has_channel p.call c ≡ true) × ((f p).terminal.held ≡ p.terminal.held))

on_channel : (p : PortState) (d c : ℕ) → has_channel p.call d ≡ true → has_channel (Some d) c ≡ true → has_channel p.call c ≡ true
on_channel p d c on e = subst (λ (k : ℕ). has_channel p.call k ≡ true) (same_channel d c e) on

connected_learns : (d : ℕ) → LearnsBy d (connected_by d)
connected_learns d p on h = (
  record {
    free = λ e. absurd (none-some d (sym e));
    bare = λ e. absurd (true≢false e);
    empty = λ e. absurd (true≢false e);
    short = h.short;
  },
  λ c e. (on_channel p d c on e, refl),
)

cleared_learns : (d cause : ℕ) → LearnsBy d (cleared_by cause)
cleared_learns d cause p on h =
    let over = ended_is _ p.terminal in
    (port_over (calls.cleared cause p.terminal) p.idle_left over.0 over.1, λ c e. absurd (true≢false (sym e)))

reset_learns : (d cause : ℕ) → LearnsBy d (reset_by cause)
reset_learns d cause p on h =
    (port_same p (calls.reset cause p.terminal) p.call p.idle_left (refl, refl) (λ e. e) (λ e. e) h, λ c e. (e, refl))

-- the port that has its call on the channel learns, and no other one has
abbrev LearntCases : (channel : ℕ) → (PortState → PortState) → List PortState → List PortState → Type 0
LearntCases d f ports after =
    (j : ℕ) (q : PortState) → slice_get after j ≡ Some q
    → ((p : PortState) × IsOn ports j d p × (q ≡ f p)) ⊎ ((slice_get ports j ≡ Some q) × (has_channel q.call d ≡ true → ⊥))

learnt_cases : (d : ℕ) (f : PortState → PortState) (ports : List PortState) → AreAlone ports → LearntCases d f ports (changed_on d f ports)
learnt_cases d f ports alone = by (holder d ports) refl
  where
    by : (o : Option ℕ) → holder d ports ≡ o → LearntCases d f ports (changed_for o f ports)
    by None e j q at = inr (at, λ on. true≢false (sym on ∙ none_at (λ p. has_channel p.call d) ports e j q at))
    by (Some i) e j q at =
        let g = found_at (λ p. has_channel p.call d) ports i e in
        elim (changed_port ports i g.0 f j q g.1 at) [
          | inl m ↦ inl (g.0, (ap (λ (k : ℕ). slice_get ports k) m.0 ∙ g.1, g.2), m.1)
          | inr m ↦ inr (m.1, λ on. m.0 (alone j i d q g.0 (m.1, on) (g.1, g.2)))
        ]

learnt_back : (d : ℕ) (f : PortState → PortState) (ports : List PortState) → LearnsBy d f → AreAlone ports → ((j : ℕ) (q : PortState) → slice_get ports j ≡ Some q → IsPort q) → Back ports (changed_on d f ports)
learnt_back d f ports learns alone each = record {
  from = λ j q at.
      elim (learnt_cases d f ports alone j q at) [
        | inl m ↦
            let l = learns m.0 m.1.1 (each j m.0 m.1.0) in
            (subst (λ (z : PortState). IsPort z) (sym m.2) l.0, m.0, m.1.0, subst (λ (z : PortState). (c : ℕ) → has_channel z.call c ≡ true → (has_channel m.0.call c ≡ true) × (z.terminal.held ≡ m.0.terminal.held)) (sym m.2) l.1)
        | inr m ↦ (each j q m.0, q, m.0, λ c on. (on, refl))
      ];
}

-- ---- notes that are heard, one after the other

-- a text that is held for a call, or none for one that just came in
abbrev pub TextOrNew : Option ℕ → List PortState → ℕ → List ℕ → Type 0
TextOrNew incoming ports c t = TextOf ports c t ⊎ ((incoming ≡ Some c) × (t ≡ []))

-- these notes are still to be heard, and the layer is then this
pub record HeardHolds (role : Role) (l : Layer) (ns : List Note) (incoming : Option ℕ) (ports : List PortState) (b : Book) : Type 0 where
  pub each : (j : ℕ) (q : PortState) → slice_get ports j ≡ Some q → IsPort q
  pub alone : AreAlone ports
  pub tells : (c : ℕ) → (had : Bool) × Tells c had ns (call_at l c) × ((i : ℕ) (q : PortState) → IsOn ports i c q → had ≡ true)
  pub came : (c : ℕ) → incoming ≡ Some c → (ns ≡ []) × (call_at l c ≡ true) × ((i : ℕ) (q : PortState) → IsOn ports i c q → ⊥)
  pub last : IncomingLast ns
  pub book : BookHolds role (TextOrNew incoming ports) b

not_nil : {X : Type 0} (x : X) (xs : List X) (P : Type 0) → x ∷ xs ≡ [] → P
not_nil x xs P e = cc

-- a note of which something is learnt
learnt_holds : (role : Role) (l : Layer) (note : Note) (ns : List Note) (incoming : Option ℕ) (d : ℕ) (f : PortState → PortState) (ports : List PortState) (b x : Book) → LearnsBy d f
    → ((c : ℕ) (had : Bool) → Tells c had (note ∷ ns) (call_at l c) → ((i : ℕ) (q : PortState) → IsOn ports i c q → had ≡ true)
    → (now : Bool) × Tells c now ns (call_at l c) × ((i : ℕ) (q : PortState) → IsOn (changed_on d f ports) i c q → now ≡ true))
    → IncomingLast ns
    → ((X : ℕ → List ℕ → Type 0) → BookHolds role X b → BookHolds role X x)
    → HeardHolds role l (note ∷ ns) incoming ports b → HeardHolds role l ns incoming (changed_on d f ports) x
learnt_holds role l note ns incoming d f ports b x learns tells last book h =
    let back = learnt_back d f ports learns h.alone h.each in
    record {
      each = λ j q at. (back.from j q at).0;
      alone = alone_back ports (changed_on d f ports) back h.alone;
      tells = λ c. let t = h.tells c in tells c t.0 t.1 t.2;
      came = λ c e. not_nil note ns _ (h.came c e).0;
      last = last;
      book =
          narrowed role (TextOrNew incoming ports) (TextOrNew incoming (changed_on d f ports)) x
          (λ c t y. elim y [
            | inl o ↦ inl (text_back ports (changed_on d f ports) back c t o)
            | inr m ↦ inr m
          ]) (book (TextOrNew incoming ports) h.book);
    }

-- a note of which nothing is told of a call
plain_on : (l : Layer) (note : Note) (ns : List Note) (d : ℕ) (f : PortState → PortState) (ports : List PortState) → LearnsBy d f → AreAlone ports → ((j : ℕ) (q : PortState) → slice_get ports j ≡ Some q → IsPort q)
    → ((c : ℕ) (had : Bool) → Tells c had (note ∷ ns) (call_at l c) → Tells c had ns (call_at l c))
    → (c : ℕ) (had : Bool) → Tells c had (note ∷ ns) (call_at l c) → ((i : ℕ) (q : PortState) → IsOn ports i c q → had ≡ true)
    → (now : Bool) × Tells c now ns (call_at l c) × ((i : ℕ) (q : PortState) → IsOn (changed_on d f ports) i c q → now ≡ true)
plain_on l note ns d f ports learns alone each plain c had t on =
    (had, plain c had t, λ i q e. (let p = on_back ports (changed_on d f ports) (learnt_back d f ports learns alone each) i c q e in on i p.0 p.1))

closed_on : (l : Layer) (ns : List Note) (d cause diagnostic : ℕ) (reason : Reason) (ports : List PortState) → AreAlone ports → ((j : ℕ) (q : PortState) → slice_get ports j ≡ Some q → IsPort q)
    → (c : ℕ) (had : Bool) → Tells c had (Closed d cause diagnostic reason ∷ ns) (call_at l c) → ((i : ℕ) (q : PortState) → IsOn ports i c q → had ≡ true)
    → (now : Bool) × Tells c now ns (call_at l c) × ((i : ℕ) (q : PortState) → IsOn (changed_on d (cleared_by cause) ports) i c q → now ≡ true)
closed_on l ns d cause diagnostic reason ports alone each c had t on =
    elim (cases_eq d c) [
      | inl e ↦ (false, t.0 e, λ i q at. none_left i q e at)
      | inr ne ↦ (had, t.1 ne, λ i q at. (let p = on_back ports (changed_on d (cleared_by cause) ports) (learnt_back d (cleared_by cause) ports (cleared_learns d cause) alone each) i c q at in on i p.0 p.1))
    ]
  where
    none_left : (i : ℕ) (q : PortState) → d ≡ c → IsOn (changed_on d (cleared_by cause) ports) i c q → false ≡ true
    none_left i q e at =
        elim (learnt_cases d (cleared_by cause) ports alone i q at.0) [
          | inl m ↦ ap (λ (z : PortState). has_channel z.call c) (sym m.2) ∙ at.1
          | inr m ↦ absurd (m.1 (subst (λ (k : ℕ). has_channel q.call k ≡ true) (sym e) at.1))
        ]

-- one note
one_heard : (role : Role) (l : Layer) (note : Note) (ns : List Note) (incoming : Option ℕ) (ports : List PortState) (b : Book) → HeardHolds role l (note ∷ ns) incoming ports b
    → HeardHolds role l ns (last_incoming incoming (note ∷ [])) (all_heard (learnt_of note) ports) (told role note b)
one_heard role l (Incoming d parts) ns incoming ports b h =
    subst (λ (ps : List PortState). HeardHolds role l ns (Some d) ps (told role (Incoming d parts) b)) (sym (heard_none ports))
    (record {
      each = h.each;
      alone = h.alone;
      tells = λ c. tells c (h.tells c).0 (h.tells c).1 (h.tells c).2;
      came = λ c e. came c (same_Some d c e);
      last = subst (λ (xs : List Note). IncomingLast xs) (sym h.last) tt;
      book =
          opens_holds role (TextOrNew incoming ports) (TextOrNew (Some d) ports) b role d _ _ _ _ refl
          (λ c t y. elim y [
            | inl o ↦ inl (inl o)
            | inr m ↦ inr (refl, sym (same_Some d c m.0))
          ])
          (λ is t y. elim y [
            | inl o ↦ absurd (unheld o.0 o.1 (o.2, o.3))
            | inr m ↦ m.1
          ]) h.book;
    })
  where
    unheld : (i : ℕ) (q : PortState) → IsOn ports i d q → ⊥
    unheld i q on = true≢false (sym ((h.tells d).2 i q on) ∙ ((h.tells d).1.0 refl).0)

    tells : (c : ℕ) (had : Bool) → Tells c had (Incoming d parts ∷ ns) (call_at l c) → ((i : ℕ) (q : PortState) → IsOn ports i c q → had ≡ true)
        → (now : Bool) × Tells c now ns (call_at l c) × ((i : ℕ) (q : PortState) → IsOn ports i c q → now ≡ true)
    tells c had t on =
        elim (cases_eq d c) [
          | inl e ↦ (true, (t.0 e).1, λ i q at. refl)
          | inr ne ↦ (had, t.1 ne, on)
        ]

    came : (c : ℕ) → d ≡ c → (ns ≡ []) × (call_at l c ≡ true) × ((i : ℕ) (q : PortState) → IsOn ports i c q → ⊥)
    came c e = (
      h.last,
      subst (λ (k : ℕ). call_at l k ≡ true) e (subst (λ (xs : List Note). Tells d true xs (call_at l d)) h.last ((h.tells d).1.0 refl).1 refl),
      λ i q on. unheld i q (subst (λ (k : ℕ). IsOn ports i k q) (sym e) on),
    )
one_heard role l (Connected d) ns incoming ports b h =
    subst (λ (ps : List PortState). HeardHolds role l ns incoming ps b) (sym (heard_connected d ports))
    (learnt_holds role l (Connected d) ns incoming d (connected_by d) ports b b (connected_learns d)
    (plain_on l (Connected d) ns d (connected_by d) ports (connected_learns d) h.alone h.each (λ c had t. t)) h.last (λ X k. k) h)
one_heard role l (Closed d cause diagnostic reason) ns incoming ports b h =
    subst (λ (ps : List PortState). HeardHolds role l ns incoming ps (closes role d b)) (sym (heard_cleared d cause diagnostic reason ports))
    (learnt_holds role l (Closed d cause diagnostic reason) ns incoming d (cleared_by cause) ports b (closes role d b) (cleared_learns d cause)
    (closed_on l ns d cause diagnostic reason ports h.alone h.each) h.last (λ X k. closes_holds role X role d b k) h)
one_heard role l (WasReset d cause diagnostic reason) ns incoming ports b h =
    subst (λ (ps : List PortState). HeardHolds role l ns incoming ps (renews role d b)) (sym (heard_reset d cause diagnostic reason ports))
    (learnt_holds role l (WasReset d cause diagnostic reason) ns incoming d (reset_by cause) ports b (renews role d b) (reset_learns d cause)
    (plain_on l (WasReset d cause diagnostic reason) ns d (reset_by cause) ports (reset_learns d cause) h.alone h.each (λ c had t. t)) h.last
    (λ X k. quiet_at role X b role d with_epoch epoch_quiet k) h)
one_heard role l (InterruptConfirmed d) ns incoming ports b h =
    subst (λ (ps : List PortState). HeardHolds role l ns incoming ps b) (sym (heard_none ports))
    (record {
      each = h.each;
      alone = h.alone;
      tells = h.tells;
      came = λ c e. not_nil (InterruptConfirmed d) ns _ (h.came c e).0;
      last = h.last;
      book = h.book;
    })
one_heard role l (Covered d count) ns incoming ports b h =
    subst (λ (ps : List PortState). HeardHolds role l ns incoming ps (covers role d count b)) (sym (heard_none ports))
    (record {
      each = h.each;
      alone = h.alone;
      tells = h.tells;
      came = λ c e. not_nil (Covered d count) ns _ (h.came c e).0;
      last = h.last;
      book = quiet_at role (TextOrNew incoming ports) b role d (with_covered count) (covered_quiet count) h.book;
    })

incoming_more : (before : Option ℕ) (note : Note) (ns : List Note) → last_incoming before (note ∷ ns) ≡ last_incoming (last_incoming before (note ∷ [])) ns
incoming_more before (Incoming d parts) ns = refl
incoming_more before (Connected d) ns = refl
incoming_more before (Closed d cause diagnostic reason) ns = refl
incoming_more before (WasReset d cause diagnostic reason) ns = refl
incoming_more before (InterruptConfirmed d) ns = refl
incoming_more before (Covered d count) ns = refl

-- all of them
pub all_are_heard : (role : Role) (l : Layer) (ns : List Note) (incoming : Option ℕ) (ports : List PortState) (b : Book) → HeardHolds role l ns incoming ports b
    → HeardHolds role l [] (last_incoming incoming ns) (all_heard (all_learnt ns) ports) (all_told role ns b)
all_are_heard role l [] incoming ports b h = subst (λ (ps : List PortState). HeardHolds role l [] incoming ps b) (sym (heard_none ports)) h
all_are_heard role l (note ∷ ns) incoming ports b h =
    subst (λ (o : Option ℕ). HeardHolds role l [] o (all_heard (all_learnt (note ∷ ns)) ports) (all_told role ns (told role note b))) (sym (incoming_more incoming note ns))
    (subst (λ (ps : List PortState). HeardHolds role l [] (last_incoming (last_incoming incoming (note ∷ [])) ns) ps (all_told role ns (told role note b))) (sym (heard_more note ns ports))
    (all_are_heard role l ns (last_incoming incoming (note ∷ [])) (all_heard (learnt_of note) ports) (told role note b) (one_heard role l note ns incoming ports b h)))
