-- A packet layer tells of each of its channels what becomes of the call there.
use Rattle.std.proofs.Common.{◌≡◌, ℕ, zero, suc, ◌+◌, Bool, true, false, cond, ◌&&◌, List, [], ◌∷◌, ◌++◌, length, map, set, Option, Some, None, is_some, refl, sym, ap, subst, ◌∙◌, true≢false, inl, inr, arith}
use Rattle.std.specs.Prelude.{slice_get}
use Rattle.std.proofs.lemmas.Bool.{cases_eq}
use Rattle.std.proofs.lemmas.Option.{none-some, same_Some}
use Rattle.link_timers.specs.declared.role.Role.{Role}
use Rattle.link_timers.specs.declared.role.Role.TheVariants.{Dte, Dce}
use Rattle.data_transfer.specs.declared.flow.Flow.{Flow}
use Rattle.data_transfer.specs.Packets.{Body, CallParts, Received, Note, Reason}
use Rattle.data_transfer.specs.Packets.Body.{Restart, RestartConfirmation}
use Rattle.data_transfer.specs.Packets.Note.{Closed}
use Rattle.data_transfer.specs.Packets.Received.{Whole, Unknown, Faulty}
use Rattle.data_transfer.specs.Traffic.{says}
use Rattle.packet_channel.specs.Channel.{ChannelState, Channel, Step, Request, Refusal, closed_channel, moved, carried_out, unless, requested, refusal, has_flow, received, unreadable}
use Rattle.packet_channel.specs.Channel.ChannelState.{Ready, OwnWaiting, FarWaiting, Transfer, Collision, OwnClear}
use Rattle.packet_channel.specs.Channel.Request.{Accept, Clearing, Resetting, Sending, Interrupting, Stopping, Taking, Releasing, Confirming}
use Rattle.packet_layer.specs.Layer.{Phase, Layer, Timer, Next, ChannelNext, nth_channel, with_nth, channel_of, owing, after_step, unread, link_up, link_down, restart_packet, on_found, on_channel, on_received, runs, expired, next_owed, next_of, next_number, serve_found, serve, next_restart, next_in, next_packet, request, call, placed_on, placing, channel_given, free_channel, lowest_free, highest_free, raised, either_of, itself_if, is_free, is_ready, had_call, closing_notes}
use Rattle.packet_layer.specs.Layer.Phase.{NoSession, OwnRestart, PacketReady}
use Rattle.packet_layer.specs.Layer.Timer.{RestartTimer, CallTimer, ResetTimer, ClearTimer}
use Rattle.packet_layer.specs.Events.{after_hearing, on_octets, on_named}
use Rattle.data_transfer.specs.Octets.{heard}
use Rattle.record_laws.specs.Books.Headline.{has_call}
use Rattle.node_laws.proofs.Pads.Channels.{Tells, IncomingLast, NoneComes, StepTells, none_last, received_tells, unreadable_tells, expired_tells}

-- ---- lists of channels

set_same : (chs : List Channel) (i : ℕ) (ch x : Channel) → slice_get chs i ≡ Some ch → slice_get (set chs i x) i ≡ Some x
set_same [] i ch x e = absurd cc
set_same (q ∷ chs) zero ch x e = refl
set_same (q ∷ chs) (suc i) ch x e = set_same chs i ch x e

set_other : (chs : List Channel) (i j : ℕ) (x : Channel) → (i ≡ j → ⊥) → slice_get (set chs j x) i ≡ slice_get chs i
set_other [] i j x h = refl
set_other (q ∷ chs) zero zero x h = absurd (h refl)
set_other (q ∷ chs) zero (suc j) x h = refl
set_other (q ∷ chs) (suc i) zero x h = refl
set_other (q ∷ chs) (suc i) (suc j) x h = set_other chs i j x (λ e. h (ap suc e))

pub nth_same : (chs : List Channel) (c : ℕ) (ch x : Channel) → nth_channel chs c ≡ Some ch → nth_channel (with_nth chs c x) c ≡ Some x
nth_same chs zero ch x e = absurd cc
nth_same chs (suc i) ch x e = set_same chs i ch x e

nth_other : (chs : List Channel) (c d : ℕ) (x : Channel) → (c ≡ d → ⊥) → nth_channel (with_nth chs d x) c ≡ nth_channel chs c
nth_other chs zero d x h = refl
nth_other chs (suc i) zero x h = refl
nth_other chs (suc i) (suc j) x h = set_other chs i j x (λ e. h (ap suc e))

abbrev pub call_at : Layer → ℕ → Bool
call_at l c = has_call (channel_of l c)

-- ---- layers

-- a layer became `m`: of each channel its notes tell what became of the call there
pub record LayerTells (l m : Layer) : Type 0 where
  pub tells : (c : ℕ) → Tells c (call_at l c) m.notes (call_at m c)
  pub last : IncomingLast m.notes

like : (l m : Layer) → ((c : ℕ) → call_at m c ≡ call_at l c) → m.notes ≡ [] → LayerTells l m
like l m same none = record {
  tells = λ c. subst (λ (ns : List Note). Tells c (call_at l c) ns (call_at m c)) (sym none) (λ h. same c ∙ h);
  last = subst (λ (ns : List Note). IncomingLast ns) (sym none) tt;
}

-- ---- all calls are closed

none_closed : (chs : List Channel) (i : ℕ) → has_call (slice_get (map (λ ch. closed_channel) chs) i) ≡ false
none_closed [] i = refl
none_closed (ch ∷ chs) zero = refl
none_closed (ch ∷ chs) (suc i) = none_closed chs i

no_call_left : (chs : List Channel) (c : ℕ) → has_call (nth_channel (map (λ ch. closed_channel) chs) c) ≡ false
no_call_left chs zero = refl
no_call_left chs (suc i) = none_closed chs i

-- the channels from number k on, among them channel c at its place, where it had a call
closing_tells : (chs : List Channel) (k c : ℕ) (had : Bool) (reason : Reason) → (had ≡ true → (i : ℕ) × (c ≡ k + i) × (has_call (slice_get chs i) ≡ true)) → Tells c had (closing_notes k reason chs) false
closing_tells [] k c had reason at = λ h. absurd (true≢false (sym (at h).2))
closing_tells (ch ∷ chs) k c had reason at = by (had_call ch.state) refl (λ was found. closing_tells chs (suc k) c was reason found)
  where
    later : (i : ℕ) → c ≡ k + i → has_call (slice_get (ch ∷ chs) i) ≡ true → (had_call ch.state ≡ true → k ≡ c → ⊥) → (j : ℕ) × (c ≡ suc k + j) × (has_call (slice_get chs j) ≡ true)
    later zero e h not_here = absurd (not_here h (sym (omega arith)))
    later (suc j) e h not_here = (j, omega arith, h)

    by : (v : Bool) → had_call ch.state ≡ v
        → ((was : Bool) → (was ≡ true → (i : ℕ) × (c ≡ suc k + i) × (has_call (slice_get chs i) ≡ true)) → Tells c was (closing_notes (suc k) reason chs) false)
        → Tells c had (cond v (Closed k 9 0 reason ∷ closing_notes (suc k) reason chs) (closing_notes (suc k) reason chs)) false
    by true is rest = (
      λ e. rest false (λ h. absurd (true≢false (sym h))),
      λ ne. rest had (λ h. later (at h).0 (at h).1 (at h).2 (λ q e. ne e)),
    )
    by false is rest = rest had (λ h. later (at h).0 (at h).1 (at h).2 (λ q e. true≢false (sym q ∙ is)))

closing_none : (chs : List Channel) (k : ℕ) (reason : Reason) → NoneComes (closing_notes k reason chs)
closing_none [] k reason = tt
closing_none (ch ∷ chs) k reason = by (had_call ch.state) (closing_none chs (suc k) reason)
  where
    by : (v : Bool) → NoneComes (closing_notes (suc k) reason chs) → NoneComes (cond v (Closed k 9 0 reason ∷ closing_notes (suc k) reason chs) (closing_notes (suc k) reason chs))
    by true h = h
    by false h = h

closed_at : (chs : List Channel) (c : ℕ) (reason : Reason) → Tells c (has_call (nth_channel chs c)) (closing_notes 1 reason chs) false
closed_at chs zero reason = closing_tells chs 1 0 false reason (λ h. absurd (true≢false (sym h)))
closed_at chs (suc i) reason = closing_tells chs 1 (suc i) (has_call (slice_get chs i)) reason (λ h. (i, omega arith, h))

closed_tells : (l m : Layer) (reason : Reason) → m.channels ≡ map (λ ch. closed_channel) l.channels → m.notes ≡ closing_notes 1 reason l.channels → LayerTells l m
closed_tells l m reason e n = record {
  tells = λ c.
      subst (λ (ns : List Note). Tells c (call_at l c) ns (call_at m c)) (sym n)
      (subst (λ (v : Bool). Tells c (call_at l c) (closing_notes 1 reason l.channels) v)
      (sym (ap (λ (x : List Channel). has_call (nth_channel x c)) e ∙ no_call_left l.channels c)) (closed_at l.channels c reason));
  last = subst (λ (ns : List Note). IncomingLast ns) (sym n) (none_last (closing_notes 1 reason l.channels) (closing_none l.channels 1 reason));
}

pub up_tells : (l : Layer) → LayerTells l (link_up l)
up_tells l = closed_tells l (link_up l) _ refl refl

pub down_tells : (l : Layer) → LayerTells l (link_down l)
down_tells l = closed_tells l (link_down l) _ refl refl

pub up_none : (l : Layer) → NoneComes (link_up l).notes
up_none l = closing_none l.channels 1 _

pub down_none : (l : Layer) → NoneComes (link_down l).notes
down_none l = closing_none l.channels 1 _

-- ---- a step of a channel

step_tells : (l : Layer) (c : ℕ) (ch : Channel) (st : Step) → l.notes ≡ [] → channel_of l c ≡ Some ch → StepTells c ch st → LayerTells l (after_step l c st)
step_tells l c ch st none e s = record {
  tells = λ d. subst (λ (ns : List Note). Tells d (call_at l d) (ns ++ st.notes) (call_at (after_step l c st) d)) (sym none) (at d);
  last = subst (λ (ns : List Note). IncomingLast (ns ++ st.notes)) (sym none) s.last;
}
  where
    here : Tells c (call_at l c) st.notes (call_at (after_step l c st) c)
    here =
        subst (λ (v : Bool). Tells c v st.notes (call_at (after_step l c st) c)) (sym (ap has_call e))
        (subst (λ (v : Bool). Tells c (had_call ch.state) st.notes v) (sym (ap has_call (nth_same l.channels c ch (owing st) e))) s.own)

    at : (d : ℕ) → Tells d (call_at l d) st.notes (call_at (after_step l c st) d)
    at d =
        elim (cases_eq c d) [
          | inl q ↦ subst (λ (k : ℕ). Tells k (call_at l k) st.notes (call_at (after_step l c st) k)) q here
          | inr q ↦ s.others d q (call_at l d) (call_at (after_step l c st) d) (λ h. ap has_call (nth_other l.channels d c (owing st) (λ k. q (sym k))) ∙ h)
        ]

found_tells : (l : Layer) (c : ℕ) (f : Channel → Step) (found : Option Channel) → l.notes ≡ [] → channel_of l c ≡ found → ((ch : Channel) → StepTells c ch (f ch)) → LayerTells l (on_found l c f found)
found_tells l c f None none e s = like l l (λ d. refl) none
found_tells l c f (Some ch) none e s = step_tells l c ch (f ch) none e (s ch)

channel_tells : (phase : Phase) (l : Layer) (c : ℕ) (f : Channel → Step) → l.notes ≡ [] → ((ch : Channel) → StepTells c ch (f ch)) → LayerTells l (on_channel phase l c f)
channel_tells PacketReady l c f none s = found_tells l c f (channel_of l c) none refl s
channel_tells OwnRestart l c f none s = like l l (λ d. refl) none
channel_tells NoSession l c f none s = like l l (λ d. refl) none

-- ---- packets

-- layers with nothing to be read
abbrev closed_by : Layer → Reason → List Note
closed_by l reason = l.notes ++ closing_notes 1 reason l.channels

closed_notes : (l : Layer) (reason : Reason) → l.notes ≡ [] → closed_by l reason ≡ closing_notes 1 reason l.channels
closed_notes l reason none = ap (λ (ns : List Note). ns ++ closing_notes 1 reason l.channels) none

restart_tells : (phase : Phase) (body : Body) (l : Layer) → l.notes ≡ [] → LayerTells l (restart_packet phase body l)
restart_tells PacketReady (Restart cause diagnostic) l none = closed_tells l _ _ refl (closed_notes l _ none)
restart_tells PacketReady RestartConfirmation l none = closed_tells l _ _ refl (closed_notes l _ none)
restart_tells PacketReady body l none = like l l (λ d. refl) none
restart_tells OwnRestart (Restart cause diagnostic) l none = like l _ (λ d. refl) none
restart_tells OwnRestart RestartConfirmation l none = like l _ (λ d. refl) none
restart_tells OwnRestart body l none = like l l (λ d. refl) none
restart_tells NoSession body l none = like l l (λ d. refl) none

if_tells : (v : Bool) (l m n : Layer) → LayerTells l m → LayerTells l n → LayerTells l (cond v m n)
if_tells true l m n h k = h
if_tells false l m n h k = k

received_layer : (l : Layer) (r : Received) → l.notes ≡ [] → LayerTells l (on_received l r)
received_layer l (Whole p) none =
    if_tells _ l _ _ (restart_tells l.phase p.body l none)
    (channel_tells l.phase l p.channel (λ ch. received l.role l.flow p.channel ch p.body) none (λ ch. received_tells l.role l.flow p.channel ch p.body))
received_layer l (Unknown c) none = channel_tells l.phase l c (λ ch. unreadable l.role c true ch) none (λ ch. unreadable_tells l.role c true ch)
received_layer l (Faulty c) none = channel_tells l.phase l c (λ ch. unreadable l.role c false ch) none (λ ch. unreadable_tells l.role c false ch)

hearing_tells : (l : Layer) (o : Option Received) → l.notes ≡ [] → LayerTells l (after_hearing l o)
hearing_tells l None none = like l l (λ d. refl) none
hearing_tells l (Some r) none = received_layer l r none

-- what the layer had noted is dropped
of_unread : (l m : Layer) → LayerTells (unread l) m → LayerTells l m
of_unread l m h = record { tells = h.tells; last = h.last }

pub octets_tell : (l : Layer) (octets : List ℕ) → LayerTells l (on_octets l octets)
octets_tell l octets = of_unread l (on_octets l octets) (hearing_tells (unread l) (heard l.flow octets) refl)

-- ---- timers

expired_layer : (l : Layer) (t : Timer) → l.notes ≡ [] → LayerTells l (expired l t)
expired_layer l RestartTimer none = like l _ (λ d. refl) none
expired_layer l (CallTimer c) none = found_tells l c _ (channel_of l c) none refl (λ ch. expired_tells l.role c ch)
expired_layer l (ResetTimer c) none = found_tells l c _ (channel_of l c) none refl (λ ch. expired_tells l.role c ch)
expired_layer l (ClearTimer c) none = closed_tells l _ _ refl (closed_notes l _ none)

pub named_tells : (l : Layer) (t : Option Timer) → l.notes ≡ [] → LayerTells l (on_named l t)
named_tells l None none = like l l (λ d. refl) none
named_tells l (Some t) none = if_tells (runs l t) l _ l (of_unread l _ (expired_layer (unread l) t refl)) (like l l (λ d. refl) none)

-- ---- requests

-- what is not cleared is still there
carried_keeps : (ch : Channel) (r : Request) → ((cause diagnostic : ℕ) → r ≡ Clearing cause diagnostic → ⊥) → had_call ch.state ≡ true → had_call (carried_out ch r).channel.state ≡ true
carried_keeps ch Accept f h = refl
carried_keeps ch (Clearing cause diagnostic) f h = absurd (f cause diagnostic refl)
carried_keeps ch (Resetting cause diagnostic) f h = h
carried_keeps ch (Sending d) f h = h
carried_keeps ch (Interrupting octets) f h = h
carried_keeps ch (Stopping b) f h = h
carried_keeps ch Taking f h = h
carried_keeps ch (Releasing n) f h = h
carried_keeps ch Confirming f h = h

carried_notes : (ch : Channel) (r : Request) → (carried_out ch r).notes ≡ []
carried_notes ch Accept = refl
carried_notes ch (Clearing cause diagnostic) = refl
carried_notes ch (Resetting cause diagnostic) = refl
carried_notes ch (Sending d) = refl
carried_notes ch (Interrupting octets) = refl
carried_notes ch (Stopping b) = refl
carried_notes ch Taking = refl
carried_notes ch (Releasing n) = refl
carried_notes ch Confirming = refl

unless_keeps : (o : Option Refusal) (ch : Channel) (st : Step) → (had_call ch.state ≡ true → had_call st.channel.state ≡ true) → had_call ch.state ≡ true → had_call (unless o st ch).channel.state ≡ true
unless_keeps None ch st f h = f h
unless_keeps (Some r) ch st f h = h

unless_notes : (o : Option Refusal) (ch : Channel) (st : Step) → st.notes ≡ [] → (unless o st ch).notes ≡ []
unless_notes None ch st e = e
unless_notes (Some r) ch st e = refl

found_notes : (l : Layer) (c : ℕ) (r : Request) (found : Option Channel) → l.notes ≡ [] → (on_found l c (λ ch. requested l.role l.flow ch r) found).notes ≡ []
found_notes l c r None none = none
found_notes l c r (Some ch) none =
    ap (λ (ns : List Note). ns ++ (requested l.role l.flow ch r).notes) none ∙ unless_notes (refusal l.role l.flow ch r) ch (carried_out ch r) (carried_notes ch r)

-- a request tells nothing
pub request_notes : (l : Layer) (c : ℕ) (r : Request) → l.notes ≡ [] → (request l c r).notes ≡ []
request_notes l c r none = found_notes l c r (channel_of l c) none

found_other : (l : Layer) (c d : ℕ) (f : Channel → Step) (found : Option Channel) → (d ≡ c → ⊥) → call_at (on_found l c f found) d ≡ call_at l d
found_other l c d f None ne = refl
found_other l c d f (Some ch) ne = ap has_call (nth_other l.channels d c (owing (f ch)) ne)

-- another channel is as it was
pub request_other : (l : Layer) (c d : ℕ) (r : Request) → (d ≡ c → ⊥) → call_at (request l c r) d ≡ call_at l d
request_other l c d r ne = found_other l c d (λ ch. requested l.role l.flow ch r) (channel_of l c) ne

found_here : (l : Layer) (c : ℕ) (r : Request) (found : Option Channel) → channel_of l c ≡ found → ((cause diagnostic : ℕ) → r ≡ Clearing cause diagnostic → ⊥) → call_at l c ≡ true
    → call_at (on_found l c (λ ch. requested l.role l.flow ch r) found) c ≡ true
found_here l c r None e f h = h
found_here l c r (Some ch) e f h =
    ap has_call (nth_same l.channels c ch (owing (requested l.role l.flow ch r)) e)
    ∙ unless_keeps (refusal l.role l.flow ch r) ch (carried_out ch r) (carried_keeps ch r f) (sym (ap has_call e) ∙ h)

pub request_here : (l : Layer) (c : ℕ) (r : Request) → ((cause diagnostic : ℕ) → r ≡ Clearing cause diagnostic → ⊥) → call_at l c ≡ true → call_at (request l c r) c ≡ true
request_here l c r f h = found_here l c r (channel_of l c) refl f h

-- ---- a call that is placed

-- the channel is there, and free
abbrev FreeAt : List Channel → ℕ → Type 0
FreeAt chs c = (i : ℕ) × (c ≡ suc i) × (x : Channel) × (slice_get chs i ≡ Some x) × (is_free x ≡ true)

itself_free : (v : Bool) (ch : Channel) (chs : List Channel) (c : ℕ) → is_free ch ≡ v → itself_if v ≡ Some c → FreeAt (ch ∷ chs) c
itself_free true ch chs c is e = (0, sym (same_Some 1 c e), ch, refl, is)
itself_free false ch chs c is e = absurd (none-some c e)

raised_free : (o : Option ℕ) (ch : Channel) (chs : List Channel) (c : ℕ) → ((d : ℕ) → o ≡ Some d → FreeAt chs d) → raised o ≡ Some c → FreeAt (ch ∷ chs) c
raised_free None ch chs c f e = absurd (none-some c e)
raised_free (Some d) ch chs c f e =
    let g : FreeAt chs d = f d refl in
    let same : suc d ≡ c = same_Some (suc d) c e in
    (suc g.0, sym same ∙ ap suc g.1, g.2, g.3, g.4)

either_free : (o q : Option ℕ) (chs : List Channel) (c : ℕ) → ((d : ℕ) → o ≡ Some d → FreeAt chs d) → ((d : ℕ) → q ≡ Some d → FreeAt chs d) → either_of o q ≡ Some c → FreeAt chs c
either_free None q chs c f g e = g c e
either_free (Some d) q chs c f g e = f c e

lowest_is_free : (chs : List Channel) (c : ℕ) → lowest_free chs ≡ Some c → FreeAt chs c
lowest_is_free [] c e = absurd (none-some c e)
lowest_is_free (ch ∷ chs) c e =
    either_free (itself_if (is_free ch)) (raised (lowest_free chs)) (ch ∷ chs) c (λ d q. itself_free (is_free ch) ch chs d refl q)
    (λ d q. raised_free (lowest_free chs) ch chs d (λ k h. lowest_is_free chs k h) q) e

highest_is_free : (chs : List Channel) (c : ℕ) → highest_free chs ≡ Some c → FreeAt chs c
highest_is_free [] c e = absurd (none-some c e)
highest_is_free (ch ∷ chs) c e =
    either_free (raised (highest_free chs)) (itself_if (is_free ch)) (ch ∷ chs) c (λ d q. raised_free (highest_free chs) ch chs d (λ k h. highest_is_free chs k h) q)
    (λ d q. itself_free (is_free ch) ch chs d refl q) e

channel_is_free : (role : Role) (chs : List Channel) (c : ℕ) → free_channel role chs ≡ Some c → FreeAt chs c
channel_is_free Dte chs c e = highest_is_free chs c e
channel_is_free Dce chs c e = lowest_is_free chs c e

given_is_free : (phase : Phase) (l : Layer) (c : ℕ) → channel_given l phase ≡ Some c → FreeAt l.channels c
given_is_free PacketReady l c e = channel_is_free l.role l.channels c e
given_is_free OwnRestart l c e = absurd (none-some c e)
given_is_free NoSession l c e = absurd (none-some c e)

ready_none : (s : ChannelState) (v : Bool) → (is_ready s && v) ≡ true → had_call s ≡ false
ready_none Ready v h = refl
ready_none OwnClear v h = refl
ready_none OwnWaiting v h = absurd (true≢false (sym h))
ready_none FarWaiting v h = absurd (true≢false (sym h))
ready_none Transfer v h = absurd (true≢false (sym h))
ready_none Collision v h = absurd (true≢false (sym h))

-- the channel that is given to a call had none
pub given_none : (l : Layer) (c : ℕ) → channel_given l l.phase ≡ Some c → call_at l c ≡ false
given_none l c e =
    let f : FreeAt l.channels c = given_is_free l.phase l c e in
    ap (λ (k : ℕ). has_call (nth_channel l.channels k)) f.1 ∙ ap has_call f.3 ∙ ready_none f.2.state _ f.4

call_found : (l : Layer) (parts : CallParts) (c : ℕ) (ch : Channel) → channel_of l c ≡ Some ch → call_at (on_found l c (λ ch. placing parts ch) (channel_of l c)) c ≡ true
call_found l parts c ch e =
    ap (λ (o : Option Channel). call_at (on_found l c (λ ch. placing parts ch) o) c) e
    ∙ ap has_call (nth_same l.channels c ch (owing (placing parts ch)) e)

-- it has the call then
pub call_here : (l : Layer) (parts : CallParts) (c : ℕ) → channel_given l l.phase ≡ Some c → call_at (call l parts) c ≡ true
call_here l parts c e =
    let f : FreeAt l.channels c = given_is_free l.phase l c e in
    ap (λ (o : Option ℕ). call_at (placed_on l parts o) c) e
    ∙ call_found l parts c f.2 (ap (λ (k : ℕ). nth_channel l.channels k) f.1 ∙ f.3)

placed_keeps : (l : Layer) (parts : CallParts) (o : Option ℕ) (d : ℕ) → o ≡ channel_given l l.phase → call_at l d ≡ true → call_at (placed_on l parts o) d ≡ true
placed_keeps l parts None d e h = h
placed_keeps l parts (Some c) d e h =
    elim (cases_eq d c) [
      | inl q ↦ absurd (true≢false (sym h ∙ ap (λ (k : ℕ). call_at l k) q ∙ given_none l c (sym e)))
      | inr q ↦ found_other l c d (λ ch. placing parts ch) (channel_of l c) q ∙ h
    ]

pub call_keeps : (l : Layer) (parts : CallParts) (d : ℕ) → call_at l d ≡ true → call_at (call l parts) d ≡ true
call_keeps l parts d h = placed_keeps l parts (channel_given l l.phase) d refl h

call_found_notes : (l : Layer) (parts : CallParts) (c : ℕ) (found : Option Channel) → l.notes ≡ [] → (on_found l c (λ ch. placing parts ch) found).notes ≡ []
call_found_notes l parts c None none = none
call_found_notes l parts c (Some ch) none = ap (λ (ns : List Note). ns ++ []) none

call_placed_notes : (l : Layer) (parts : CallParts) (o : Option ℕ) → l.notes ≡ [] → (placed_on l parts o).notes ≡ []
call_placed_notes l parts None none = none
call_placed_notes l parts (Some c) none = call_found_notes l parts c (channel_of l c) none

pub call_notes : (l : Layer) (parts : CallParts) → l.notes ≡ [] → (call l parts).notes ≡ []
call_notes l parts none = call_placed_notes l parts (channel_given l l.phase) none

-- ---- what goes to the link

-- each channel has a call where it had one, and the same is noted
pub record SameCalls (l m : Layer) : Type 0 where
  pub calls : (c : ℕ) → call_at m c ≡ call_at l c
  pub notes : m.notes ≡ l.notes

same_calls : (l m : Layer) → m.channels ≡ l.channels → m.notes ≡ l.notes → SameCalls l m
same_calls l m e n = record { calls = λ c. ap (λ (chs : List Channel). has_call (nth_channel chs c)) e; notes = n }

flow_state : (flow : Flow) (ch : Channel) (v : Bool)
    → (cond {A = ChannelNext} v (record { channel = moved (says flow ch.traffic).traffic ch; body = (says flow ch.traffic).body }) (record { channel = ch; body = None })).channel.state ≡ ch.state
flow_state flow ch true = refl
flow_state flow ch false = refl

next_state : (flow : Flow) (owed : List Body) (ch : Channel) → (next_owed flow owed ch).channel.state ≡ ch.state
next_state flow (b ∷ bs) ch = refl
next_state flow [] ch = flow_state flow ch (has_flow ch)

put_same : (l : Layer) (c last : ℕ) (ch x : Channel) → channel_of l c ≡ Some ch → x.state ≡ ch.state → SameCalls l (record l { channels = with_nth l.channels c x; served_last = last })
put_same l c last ch x e s = record { calls = at; notes = refl }
  where
    here : has_call (nth_channel (with_nth l.channels c x) c) ≡ call_at l c
    here = ap has_call (nth_same l.channels c ch x e) ∙ ap (λ (z : ChannelState). had_call z) s ∙ sym (ap has_call e)

    at : (d : ℕ) → has_call (nth_channel (with_nth l.channels c x) d) ≡ call_at l d
    at d =
        elim (cases_eq c d) [
          | inl q ↦ subst (λ (k : ℕ). has_call (nth_channel (with_nth l.channels c x) k) ≡ call_at l k) q here
          | inr q ↦ ap has_call (nth_other l.channels d c x (λ k. q (sym k)))
        ]

next_if : (v : Bool) (l : Layer) (m n : Next) → SameCalls l m.layer → SameCalls l n.layer → SameCalls l (cond v m n).layer
next_if true l m n h k = h
next_if false l m n h k = k

serve_found_same : (l : Layer) (c : ℕ) (found : Option Channel) (others : Next) → channel_of l c ≡ found → SameCalls l others.layer → SameCalls l (serve_found l c found others).layer
serve_found_same l c None others e k = k
serve_found_same l c (Some ch) others e k =
    next_if (is_some (next_of l.flow ch).body) l _ others (put_same l c c ch (next_of l.flow ch).channel e (next_state l.flow ch.owed ch)) k

serve_same : (k : ℕ) (l : Layer) (c : ℕ) → SameCalls l (serve k l c).layer
serve_same zero l c = same_calls l l refl refl
serve_same (suc k) l c = serve_found_same l c (channel_of l c) (serve k l (next_number l c)) refl (serve_same k l (next_number l c))

restart_next : (owed : List Body) (l : Layer) → SameCalls l (next_restart owed l).layer
restart_next (b ∷ bs) l = same_calls l _ refl refl
restart_next [] l = serve_same (length l.channels) l (next_number l l.served_last)

next_in_same : (phase : Phase) (relink : Bool) (l : Layer) → SameCalls l (next_in phase relink l).layer
next_in_same NoSession relink l = same_calls l l refl refl
next_in_same OwnRestart true l = same_calls l l refl refl
next_in_same OwnRestart false l = restart_next l.owed l
next_in_same PacketReady true l = same_calls l l refl refl
next_in_same PacketReady false l = restart_next l.owed l

pub next_same : (l : Layer) → SameCalls l (next_packet l).layer
next_same l = next_in_same l.phase l.relink l
