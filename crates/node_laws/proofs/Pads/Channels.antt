-- What is told of a channel tells whether it has a call: one comes in only where there is none, and last of all.
use Rattle.std.proofs.Common.{◌≡◌, ℕ, Bool, true, false, cond, List, [], ◌∷◌, ◌++◌, refl, sym, ap, ◌∙◌, true≢false}
use Rattle.link_timers.specs.declared.role.Role.{Role}
use Rattle.link_timers.specs.declared.role.Role.TheVariants.{Dte, Dce}
use Rattle.data_transfer.specs.declared.flow.Flow.{Flow}
use Rattle.data_transfer.specs.Packets.{Body, Note}
use Rattle.data_transfer.specs.Packets.Body.{Call, Accepted, Clear, ClearConfirmation, Data, Interrupt, InterruptConfirmation, ReceiveReady, ReceiveNotReady, Reset, ResetConfirmation, Restart, RestartConfirmation}
use Rattle.data_transfer.specs.Packets.Note.{Incoming, Closed}
use Rattle.data_transfer.specs.Traffic.{Heard, hears}
use Rattle.data_transfer.specs.Traffic.Heard.{Keeps, Confirms, Wrong}
use Rattle.packet_channel.specs.Channel.{ChannelState, Channel, Step, quiet, clear_error, reset_error, far_cleared, after_heard, in_flow_ready, in_own_reset, in_ready, in_own_waiting, in_far_waiting, in_collision, in_own_clear, received_in, received, unreadable_in, unreadable}
use Rattle.packet_channel.specs.Channel.ChannelState.{Ready, OwnWaiting, FarWaiting, Transfer, Collision, OwnClear}
use Rattle.packet_layer.specs.Layer.{had_call}

-- ---- notes

-- of a channel that had a call or none it is told what becomes of it; a call comes in only where there is none, and one
-- that is there in the end is left
abbrev pub Tells : ℕ → Bool → List Note → Bool → Type 0
Tells c had [] left = had ≡ true → left ≡ true
Tells c had (Incoming d parts ∷ ns) left = (d ≡ c → (had ≡ false) × Tells c true ns left) × ((d ≡ c → ⊥) → Tells c had ns left)
Tells c had (Closed d cause diagnostic reason ∷ ns) left = (d ≡ c → Tells c false ns left) × ((d ≡ c → ⊥) → Tells c had ns left)
Tells c had (note ∷ ns) left = Tells c had ns left

-- a call that comes in is told last
abbrev pub IncomingLast : List Note → Type 0
IncomingLast [] = Unit {0}
IncomingLast (Incoming d parts ∷ ns) = ns ≡ []
IncomingLast (note ∷ ns) = IncomingLast ns

-- none comes in
abbrev pub NoneComes : List Note → Type 0
NoneComes [] = Unit {0}
NoneComes (Incoming d parts ∷ ns) = ⊥
NoneComes (note ∷ ns) = NoneComes ns

-- none comes in, and none is over
abbrev pub IsPlain : List Note → Type 0
IsPlain [] = Unit {0}
IsPlain (Incoming d parts ∷ ns) = ⊥
IsPlain (Closed d cause diagnostic reason ∷ ns) = ⊥
IsPlain (note ∷ ns) = IsPlain ns

pub none_last : (ns : List Note) → NoneComes ns → IncomingLast ns
none_last [] h = tt
none_last (Incoming d parts ∷ ns) h = absurd h
none_last (note ∷ ns) h = none_last ns h

plain_last : (ns : List Note) → IsPlain ns → IncomingLast ns
plain_last [] h = tt
plain_last (Incoming d parts ∷ ns) h = absurd h
plain_last (Closed d cause diagnostic reason ∷ ns) h = absurd h
plain_last (note ∷ ns) h = plain_last ns h

pub plain_tells : (c : ℕ) (had left : Bool) (ns : List Note) → IsPlain ns → (had ≡ true → left ≡ true) → Tells c had ns left
plain_tells c had left [] h f = f
plain_tells c had left (Incoming d parts ∷ ns) h f = absurd h
plain_tells c had left (Closed d cause diagnostic reason ∷ ns) h f = absurd h
plain_tells c had left (note ∷ ns) h f = plain_tells c had left ns h f

-- where a call is there, less may be told than where none is
lower : (c : ℕ) (left : Bool) (ns : List Note) → Tells c true ns left → Tells c false ns left
lower c left [] h = λ e. absurd (true≢false (sym e))
lower c left (Incoming d parts ∷ ns) h = (λ e. absurd (true≢false (h.0 e).0), λ e. lower c left ns (h.1 e))
lower c left (Closed d cause diagnostic reason ∷ ns) h = (h.0, λ e. lower c left ns (h.1 e))
lower c left (note ∷ ns) h = lower c left ns h

from_now : (c : ℕ) (had now left : Bool) (ns : List Note) → (had ≡ true → now ≡ true) → Tells c now ns left → Tells c had ns left
from_now c true true left ns f h = h
from_now c true false left ns f h = absurd (true≢false (sym (f refl)))
from_now c false true left ns f h = lower c left ns h
from_now c false false left ns f h = h

pub tells_append : (c : ℕ) (had now left : Bool) (xs ys : List Note) → Tells c had xs now → Tells c now ys left → Tells c had (xs ++ ys) left
tells_append c had now left [] ys f h = from_now c had now left ys f h
tells_append c had now left (Incoming d parts ∷ xs) ys f h =
    (λ e. ((f.0 e).0, tells_append c true now left xs ys (f.0 e).1 h), λ e. tells_append c had now left xs ys (f.1 e) h)
tells_append c had now left (Closed d cause diagnostic reason ∷ xs) ys f h =
    (λ e. tells_append c false now left xs ys (f.0 e) h, λ e. tells_append c had now left xs ys (f.1 e) h)
tells_append c had now left (note ∷ xs) ys f h = tells_append c had now left xs ys f h

pub last_append : (xs ys : List Note) → NoneComes xs → IncomingLast ys → IncomingLast (xs ++ ys)
last_append [] ys f h = h
last_append (Incoming d parts ∷ xs) ys f h = absurd f
last_append (note ∷ xs) ys f h = last_append xs ys f h

pub none_append : (xs ys : List Note) → NoneComes xs → NoneComes ys → NoneComes (xs ++ ys)
none_append [] ys f h = h
none_append (Incoming d parts ∷ xs) ys f h = absurd f
none_append (note ∷ xs) ys f h = none_append xs ys f h

-- ---- steps

-- a step of channel c tells it of that channel, and nothing of another
pub record StepTells (c : ℕ) (ch : Channel) (st : Step) : Type 0 where
  pub own : Tells c (had_call ch.state) st.notes (had_call st.channel.state)
  pub others : (d : ℕ) → (c ≡ d → ⊥) → (had left : Bool) → (had ≡ true → left ≡ true) → Tells d had st.notes left
  pub last : IncomingLast st.notes

plain_step : (c : ℕ) (ch : Channel) (st : Step) → IsPlain st.notes → (had_call ch.state ≡ true → had_call st.channel.state ≡ true) → StepTells c ch st
plain_step c ch st p f = record {
  own = plain_tells c (had_call ch.state) (had_call st.channel.state) st.notes p f;
  others = λ d ne had left g. plain_tells d had left st.notes p g;
  last = plain_last st.notes p;
}

same_state : (c : ℕ) (ch : Channel) (st : Step) → st.channel.state ≡ ch.state → IsPlain st.notes → StepTells c ch st
same_state c ch st e p = plain_step c ch st p (λ h. ap (λ (s : ChannelState). had_call s) e ∙ h)

quiet_tells : (c : ℕ) (ch : Channel) → StepTells c ch (quiet ch)
quiet_tells c ch = same_state c ch (quiet ch) refl tt

-- where there was none: for example a channel that is ready
none_there : (v : Bool) → v ≡ false → (P : Type 0) → v ≡ true → P
none_there v e P h = absurd (true≢false (sym h ∙ e))

pub clear_error_tells : (role : Role) (c diagnostic : ℕ) (told : Bool) (ch : Channel) → (told ≡ false → had_call ch.state ≡ false) → StepTells c ch (clear_error role c diagnostic told ch)
clear_error_tells role c diagnostic true ch f = record {
  own = (λ e h. absurd (true≢false (sym h)), λ ne. absurd (ne refl));
  others = λ d ne had left g. (λ e. absurd (ne e), λ other. g);
  last = tt;
}
clear_error_tells role c diagnostic false ch f = plain_step c ch (clear_error role c diagnostic false ch) tt (none_there (had_call ch.state) (f refl) (false ≡ true))

was_told : (P : Type 0) → true ≡ false → P
was_told P e = absurd (true≢false e)

reset_error_tells : (role : Role) (c diagnostic : ℕ) (ch : Channel) → StepTells c ch (reset_error role c diagnostic ch)
reset_error_tells role c diagnostic ch = same_state c ch (reset_error role c diagnostic ch) refl tt

far_cleared_tells : (c cause diagnostic : ℕ) (ch : Channel) → StepTells c ch (far_cleared c cause diagnostic ch)
far_cleared_tells c cause diagnostic ch = record {
  own = (λ e h. absurd (true≢false (sym h)), λ ne. absurd (ne refl));
  others = λ d ne had left g. (λ e. absurd (ne e), λ other. g);
  last = tt;
}

covered_plain : (v : Bool) (note : Note) → IsPlain (note ∷ []) → IsPlain (cond v [] (note ∷ []))
covered_plain true note h = tt
covered_plain false note h = h

heard_tells : (role : Role) (c : ℕ) (ch : Channel) (h : Heard) → StepTells c ch (after_heard role c ch h)
heard_tells role c ch (Keeps n t) = same_state c ch _ refl (covered_plain _ _ tt)
heard_tells role c ch (Confirms t) = same_state c ch _ refl tt
heard_tells role c ch (Wrong diagnostic) = reset_error_tells role c diagnostic ch

error_tells : (role : Role) (c diagnostic : ℕ) (ch : Channel) → StepTells c ch (clear_error role c diagnostic true ch)
error_tells role c diagnostic ch = clear_error_tells role c diagnostic true ch (was_told (had_call ch.state ≡ false))

-- ---- packets, by the call's state

flow_ready_tells : (role : Role) (flow : Flow) (c : ℕ) (ch : Channel) (body : Body) → StepTells c ch (in_flow_ready role flow c ch body)
flow_ready_tells role flow c ch (Clear cause diagnostic) = far_cleared_tells c cause diagnostic ch
flow_ready_tells role flow c ch (Reset cause diagnostic) = same_state c ch _ refl tt
flow_ready_tells role flow c ch ResetConfirmation = reset_error_tells role c 27 ch
flow_ready_tells role flow c ch (Data send receive d) = heard_tells role c ch (hears flow ch.traffic (Data send receive d))
flow_ready_tells role flow c ch (ReceiveReady receive) = heard_tells role c ch (hears flow ch.traffic (ReceiveReady receive))
flow_ready_tells role flow c ch (ReceiveNotReady receive) = heard_tells role c ch (hears flow ch.traffic (ReceiveNotReady receive))
flow_ready_tells role flow c ch (Interrupt octets) = heard_tells role c ch (hears flow ch.traffic (Interrupt octets))
flow_ready_tells role flow c ch InterruptConfirmation = heard_tells role c ch (hears flow ch.traffic InterruptConfirmation)
flow_ready_tells role flow c ch (Call parts) = error_tells role c _ ch
flow_ready_tells role flow c ch Accepted = error_tells role c _ ch
flow_ready_tells role flow c ch ClearConfirmation = error_tells role c _ ch
flow_ready_tells role flow c ch (Restart cause diagnostic) = error_tells role c _ ch
flow_ready_tells role flow c ch RestartConfirmation = error_tells role c _ ch

own_reset_tells : (role : Role) (c : ℕ) (ch : Channel) (body : Body) → StepTells c ch (in_own_reset role c ch body)
own_reset_tells role c ch (Clear cause diagnostic) = far_cleared_tells c cause diagnostic ch
own_reset_tells role c ch (Reset cause diagnostic) = same_state c ch _ refl tt
own_reset_tells role c ch ResetConfirmation = same_state c ch _ refl tt
own_reset_tells role c ch (Data send receive d) = quiet_tells c ch
own_reset_tells role c ch (ReceiveReady receive) = quiet_tells c ch
own_reset_tells role c ch (ReceiveNotReady receive) = quiet_tells c ch
own_reset_tells role c ch (Interrupt octets) = quiet_tells c ch
own_reset_tells role c ch InterruptConfirmation = quiet_tells c ch
own_reset_tells role c ch (Call parts) = error_tells role c _ ch
own_reset_tells role c ch Accepted = error_tells role c _ ch
own_reset_tells role c ch ClearConfirmation = error_tells role c _ ch
own_reset_tells role c ch (Restart cause diagnostic) = error_tells role c _ ch
own_reset_tells role c ch RestartConfirmation = error_tells role c _ ch

ready_tells : (role : Role) (c : ℕ) (ch : Channel) (body : Body) → had_call ch.state ≡ false → StepTells c ch (in_ready role c ch body)
ready_tells role c ch (Call parts) f = record {
  own = (λ e. (f, λ h. refl), λ ne. absurd (ne refl));
  others = λ d ne had left g. (λ e. absurd (ne e), λ other. g);
  last = refl;
}
ready_tells role c ch (Clear cause diagnostic) f = same_state c ch _ refl tt
ready_tells role c ch body f = clear_error_tells role c 20 false ch (λ e. f)

own_waiting_tells : (role : Role) (c : ℕ) (ch : Channel) (body : Body) → StepTells c ch (in_own_waiting role c ch body)
own_waiting_tells role c ch Accepted = plain_step c ch _ tt (λ h. refl)
own_waiting_tells Dte c ch (Call parts) = plain_step c ch _ tt (λ h. refl)
own_waiting_tells Dce c ch (Call parts) = record {
  own = (λ e. (λ d. (refl, λ h. refl), λ ne. absurd (ne refl)), λ ne. absurd (ne refl));
  others = λ d ne had left g. (λ e. absurd (ne e), λ other. (λ e. absurd (ne e), λ again. g));
  last = refl;
}
own_waiting_tells role c ch (Clear cause diagnostic) = far_cleared_tells c cause diagnostic ch
own_waiting_tells role c ch body = error_tells role c _ ch

far_waiting_tells : (role : Role) (c : ℕ) (ch : Channel) (body : Body) → StepTells c ch (in_far_waiting role c ch body)
far_waiting_tells role c ch (Clear cause diagnostic) = far_cleared_tells c cause diagnostic ch
far_waiting_tells role c ch body = error_tells role c _ ch

collision_tells : (role : Role) (c : ℕ) (ch : Channel) (body : Body) → StepTells c ch (in_collision role c ch body)
collision_tells Dte c ch Accepted = plain_step c ch _ tt (λ h. refl)
collision_tells Dce c ch Accepted = error_tells Dce c _ ch
collision_tells role c ch (Clear cause diagnostic) = far_cleared_tells c cause diagnostic ch
collision_tells role c ch body = error_tells role c _ ch

own_clear_tells : (c : ℕ) (ch : Channel) (body : Body) → had_call ch.state ≡ false → StepTells c ch (in_own_clear ch body)
own_clear_tells c ch (Clear cause diagnostic) f = plain_step c ch _ tt (none_there (had_call ch.state) f (false ≡ true))
own_clear_tells c ch ClearConfirmation f = plain_step c ch _ tt (none_there (had_call ch.state) f (false ≡ true))
own_clear_tells c ch body f = quiet_tells c ch

transfer_tells : (role : Role) (flow : Flow) (c : ℕ) (ch : Channel) (body : Body) (v : Bool)
    → StepTells c ch (cond v (in_own_reset role c ch body) (in_flow_ready role flow c ch body))
transfer_tells role flow c ch body true = own_reset_tells role c ch body
transfer_tells role flow c ch body false = flow_ready_tells role flow c ch body

received_in_tells : (s : ChannelState) (role : Role) (flow : Flow) (c : ℕ) (ch : Channel) (body : Body) → ch.state ≡ s → StepTells c ch (received_in s role flow c ch body)
received_in_tells Ready role flow c ch body e = ready_tells role c ch body (ap (λ (s : ChannelState). had_call s) e)
received_in_tells OwnWaiting role flow c ch body e = own_waiting_tells role c ch body
received_in_tells FarWaiting role flow c ch body e = far_waiting_tells role c ch body
received_in_tells Transfer role flow c ch body e = transfer_tells role flow c ch body ch.resetting
received_in_tells Collision role flow c ch body e = collision_tells role c ch body
received_in_tells OwnClear role flow c ch body e = own_clear_tells c ch body (ap (λ (s : ChannelState). had_call s) e)

pub received_tells : (role : Role) (flow : Flow) (c : ℕ) (ch : Channel) (body : Body) → StepTells c ch (received role flow c ch body)
received_tells role flow c ch body = received_in_tells ch.state role flow c ch body refl

-- ---- a packet that cannot be read

transfer_unreadable : (role : Role) (c d e : ℕ) (ch : Channel) (v : Bool) → StepTells c ch (cond v (clear_error role c d true ch) (reset_error role c e ch))
transfer_unreadable role c d e ch true = error_tells role c d ch
transfer_unreadable role c d e ch false = reset_error_tells role c e ch

unreadable_in_tells : (s : ChannelState) (role : Role) (c : ℕ) (unknown : Bool) (ch : Channel) → ch.state ≡ s → StepTells c ch (unreadable_in s role c unknown ch)
unreadable_in_tells Ready role c unknown ch e = clear_error_tells role c _ false ch (λ f. ap (λ (s : ChannelState). had_call s) e)
unreadable_in_tells OwnClear role c unknown ch e = quiet_tells c ch
unreadable_in_tells Transfer role c unknown ch e = transfer_unreadable role c _ _ ch ch.resetting
unreadable_in_tells s role c unknown ch e = error_tells role c _ ch

pub unreadable_tells : (role : Role) (c : ℕ) (unknown : Bool) (ch : Channel) → StepTells c ch (unreadable role c unknown ch)
unreadable_tells role c unknown ch = unreadable_in_tells ch.state role c unknown ch refl

-- a call that is there may expire
pub expired_tells : (role : Role) (c : ℕ) (ch : Channel) → StepTells c ch (clear_error role c 0 true ch)
expired_tells role c ch = error_tells role c 0 ch
