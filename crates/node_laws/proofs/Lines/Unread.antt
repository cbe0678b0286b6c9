-- Notes that were not read change nothing else of what a layer does.
use Rattle.std.specs.Prelude.{◌≡◌, ℕ, zero, suc, Bool, true, false, cond, List, [], ◌∷◌, length, Option, Some, None, is_some}
use Rattle.std.proofs.Common.{refl, sym, ap, ◌∙◌}
use Rattle.data_transfer.specs.Packets.{CallParts, Body}
use Rattle.packet_channel.specs.Channel.{Channel, Step, Request, Refusal, refusal, carried_out, unless, requested}
use Rattle.packet_channel.specs.Channel.Request.{Accept, Clearing, Resetting, Sending, Interrupting, Stopping, Taking, Releasing, Confirming}
use Rattle.packet_layer.specs.Layer.{Layer, Phase, Timer, Next, ChannelNext, channel_of, with_nth, after_step, on_found, unread, placing, placed_on, channel_given, call, request, runs, expired, on_timer, packet_of, next_of, next_number, serve_found, serve, next_restart, next_in, next_packet}
use Rattle.packet_layer.specs.Layer.Phase.{NoSession, OwnRestart, PacketReady}
use Rattle.packet_layer.specs.Layer.Timer.{RestartTimer, CallTimer, ResetTimer, ClearTimer}

-- ---- the user's calls, which tell nothing

found_unread : (l : Layer) (c : ℕ) (f : Channel → Step) (found : Option Channel) → ((ch : Channel) → (f ch).notes ≡ []) →
    unread (on_found l c f found) ≡ on_found (unread l) c f found
found_unread l c f None silent = refl
found_unread l c f (Some ch) silent = λ i. record (unread (after_step l c (f ch))) { notes = sym (silent ch) i }

silent_carried : (ch : Channel) (r : Request) → (carried_out ch r).notes ≡ []
silent_carried ch Accept = refl
silent_carried ch (Clearing cause diagnostic) = refl
silent_carried ch (Resetting cause diagnostic) = refl
silent_carried ch (Sending d) = refl
silent_carried ch (Interrupting octets) = refl
silent_carried ch (Stopping b) = refl
silent_carried ch Taking = refl
silent_carried ch (Releasing n) = refl
silent_carried ch Confirming = refl

silent_unless : (o : Option Refusal) (ch : Channel) (r : Request) → (unless o (carried_out ch r) ch).notes ≡ []
silent_unless None ch r = silent_carried ch r
silent_unless (Some refused) ch r = refl

pub request_unread : (l : Layer) (c : ℕ) (r : Request) → unread (request l c r) ≡ request (unread l) c r
request_unread l c r = found_unread l c (λ ch. requested l.role l.flow ch r) (channel_of l c) (λ ch. silent_unless (refusal l.role l.flow ch r) ch r)

given_same : (phase : Phase) (l : Layer) → channel_given l phase ≡ channel_given (unread l) phase
given_same NoSession l = refl
given_same OwnRestart l = refl
given_same PacketReady l = refl

placed_unread : (l : Layer) (parts : CallParts) (o : Option ℕ) → unread (placed_on l parts o) ≡ placed_on (unread l) parts o
placed_unread l parts None = refl
placed_unread l parts (Some c) = found_unread l c (λ ch. placing parts ch) (channel_of l c) (λ ch. refl)

pub call_unread : (l : Layer) (parts : CallParts) → unread (call l parts) ≡ call (unread l) parts
call_unread l parts =
    placed_unread l parts (channel_given l l.phase)
    ∙ ap (λ (o : Option ℕ). placed_on (unread l) parts o) (given_same l.phase l)

-- ---- timers

runs_same : (l : Layer) (t : Timer) → runs l t ≡ runs (unread l) t
runs_same l RestartTimer = refl
runs_same l (CallTimer c) = refl
runs_same l (ResetTimer c) = refl
runs_same l (ClearTimer c) = refl

either_unread : (b : Bool) (x l : Layer) → unread (cond b x l) ≡ unread (cond b x (unread l))
either_unread true x l = refl
either_unread false x l = refl

pub timer_unread : (l : Layer) (t : Timer) → unread (on_timer l t) ≡ unread (on_timer (unread l) t)
timer_unread l t =
    either_unread (runs l t) (expired (unread l) t) l
    ∙ ap (λ (b : Bool). unread (cond b (expired (unread l) t) (unread l))) (runs_same l t)

-- ---- the next packet

abbrev pub SameNext : Next → Next → Type 0
SameNext a b = (unread a.layer ≡ b.layer) × (a.packet ≡ b.packet)

served_same : (l : Layer) (c : ℕ) (n : ChannelNext) (v : Bool) (a b : Next) → SameNext a b →
    SameNext (cond v (record { layer = record l { channels = with_nth l.channels c n.channel; served_last = c }; packet = packet_of c n.body }) a)
    (cond v (record { layer = record (unread l) { channels = with_nth l.channels c n.channel; served_last = c }; packet = packet_of c n.body }) b)
served_same l c n true a b h = (refl, refl)
served_same l c n false a b h = h

found_same : (l : Layer) (c : ℕ) (found : Option Channel) (a b : Next) → SameNext a b → SameNext (serve_found l c found a) (serve_found (unread l) c found b)
found_same l c None a b h = h
found_same l c (Some ch) a b h = served_same l c (next_of l.flow ch) (is_some (next_of l.flow ch).body) a b h

serve_same : (k : ℕ) (l : Layer) (c : ℕ) → SameNext (serve k l c) (serve k (unread l) c)
serve_same zero l c = (refl, refl)
serve_same (suc k) l c =
    found_same l c (channel_of l c) (serve k l (next_number l c)) (serve k (unread l) (next_number l c)) (serve_same k l (next_number l c))

restart_same : (owed : List Body) (l : Layer) → SameNext (next_restart owed l) (next_restart owed (unread l))
restart_same [] l = serve_same (length l.channels) l (next_number l l.served_last)
restart_same (b ∷ bs) l = (refl, refl)

in_same : (phase : Phase) (relink : Bool) (l : Layer) → SameNext (next_in phase relink l) (next_in phase relink (unread l))
in_same NoSession relink l = (refl, refl)
in_same OwnRestart true l = (refl, refl)
in_same OwnRestart false l = restart_same l.owed l
in_same PacketReady true l = (refl, refl)
in_same PacketReady false l = restart_same l.owed l

pub next_unread : (l : Layer) → SameNext (next_packet l) (next_packet (unread l))
next_unread l = in_same l.phase l.relink l
