-- No act of a packet layer changes the flow control parameters of its line.
use Rattle.std.proofs.Common.{◌≡◌, ℕ, zero, suc, Bool, true, false, List, [], ◌∷◌, length, refl}
use Rattle.std.specs.Prelude.{◌==◌, if◌then◌else◌, Option, Some, None, is_some}
use Rattle.link_timers.specs.declared.timers.TimerId.{TimerId}
use Rattle.data_transfer.specs.Packets.{CallParts, Body, Received}
use Rattle.data_transfer.specs.Packets.Body.{Restart, RestartConfirmation}
use Rattle.data_transfer.specs.Packets.Received.{Whole, Unknown, Faulty}
use Rattle.packet_codec.specs.Diagnostic.{no_information}
use Rattle.packet_channel.specs.Channel.{Channel, Step, Request, received, unreadable, requested, clear_error, placing}
use Rattle.packet_layer.specs.Layer.{Layer, Phase, Timer, Next, ChannelNext, next_of, channel_of, channel_given, unread, on_found}
use Rattle.packet_layer.specs.Layer.{on_channel, on_received, restart_packet, expired, runs, placed_on}
use Rattle.packet_layer.specs.Layer.{next_number, serve, serve_found, next_restart, next_in, next_packet}
use Rattle.packet_layer.specs.Layer as machine
use Rattle.packet_layer.specs.Layer.Phase.{NoSession, OwnRestart, PacketReady}
use Rattle.packet_layer.specs.Layer.Timer.{RestartTimer, CallTimer, ResetTimer, ClearTimer}
use Rattle.data_transfer.specs.Octets.{heard}
use Rattle.packet_layer.specs.Events.{after_hearing, on_octets, on_named, timer_named}

-- the same line
abbrev SameFlow : Layer → Layer → Type 0
SameFlow l new = new.flow ≡ l.flow

by_test : (P : Layer → Type 0) (test : Bool) (a b : Layer) → P a → P b → P (if test then a else b)
by_test P true a b is other = is
by_test P false a b is other = other

found_same : (l : Layer) (c : ℕ) (f : Channel → Step) (found : Option Channel) → SameFlow l (on_found l c f found)
found_same l c f None = refl
found_same l c f (Some ch) = refl

-- ---- what a user asks

pub flow_request : (l : Layer) (c : ℕ) (r : Request) → (machine.request l c r).flow ≡ l.flow
flow_request l c r = found_same l c (λ ch. requested l.role l.flow ch r) (channel_of l c)

placed_same : (l : Layer) (parts : CallParts) (given : Option ℕ) → SameFlow l (placed_on l parts given)
placed_same l parts None = refl
placed_same l parts (Some c) = found_same l c (λ ch. placing parts ch) (channel_of l c)

pub flow_call : (l : Layer) (parts : CallParts) → (machine.call l parts).flow ≡ l.flow
flow_call l parts = placed_same l parts (channel_given l l.phase)

-- ---- what comes from the link

restart_same : (phase : Phase) (b : Body) (l : Layer) → SameFlow l (restart_packet phase b l)
restart_same PacketReady (Restart cause diagnostic) l = refl
restart_same PacketReady RestartConfirmation l = refl
restart_same OwnRestart (Restart cause diagnostic) l = refl
restart_same OwnRestart RestartConfirmation l = refl
restart_same phase b l = refl

channel_same : (phase : Phase) (l : Layer) (c : ℕ) (f : Channel → Step) → SameFlow l (on_channel phase l c f)
channel_same PacketReady l c f = found_same l c f (channel_of l c)
channel_same OwnRestart l c f = refl
channel_same NoSession l c f = refl

received_same : (l : Layer) (r : Received) → SameFlow l (on_received l r)
received_same l (Whole p) =
    by_test (SameFlow l) (p.channel == 0) (restart_packet l.phase p.body l)
    (on_channel l.phase l p.channel (λ ch. received l.role l.flow p.channel ch p.body)) (restart_same l.phase p.body l)
    (channel_same l.phase l p.channel (λ ch. received l.role l.flow p.channel ch p.body))
received_same l (Unknown c) = channel_same l.phase l c (λ ch. unreadable l.role c true ch)
received_same l (Faulty c) = channel_same l.phase l c (λ ch. unreadable l.role c false ch)

heard_same : (l : Layer) (r : Option Received) → SameFlow l (after_hearing l r)
heard_same l None = refl
heard_same l (Some r) = received_same l r

pub flow_on_octets : (l : Layer) (octets : List ℕ) → (on_octets l octets).flow ≡ l.flow
flow_on_octets l octets = heard_same (unread l) (heard l.flow octets)

-- ---- timers

expired_same : (l : Layer) (t : Timer) → SameFlow l (expired l t)
expired_same l RestartTimer = refl
expired_same l (CallTimer c) = found_same l c (λ ch. clear_error l.role c no_information true ch) (channel_of l c)
expired_same l (ResetTimer c) = found_same l c (λ ch. clear_error l.role c no_information true ch) (channel_of l c)
expired_same l (ClearTimer c) = refl

named_same : (l : Layer) (t : Option Timer) → SameFlow l (on_named l t)
named_same l None = refl
named_same l (Some t) = by_test (SameFlow l) (runs l t) (expired (unread l) t) l (expired_same (unread l) t) refl

pub flow_on_named : (l : Layer) (id : TimerId) → (on_named l (timer_named l.role id)).flow ≡ l.flow
flow_on_named l id = named_same l (timer_named l.role id)

-- ---- what goes to the link

served_same : (l : Layer) (c : ℕ) (n : ChannelNext) (says : Bool) (others : Next) → SameFlow l others.layer →
    SameFlow l (if says then record {
      layer = record l { channels = machine.with_nth l.channels c n.channel; served_last = c };
      packet = machine.packet_of c n.body;
    } else others).layer
served_same l c n true others same = refl
served_same l c n false others same = same

serve_same : (count : ℕ) (l : Layer) (c : ℕ) → SameFlow l (serve count l c).layer
serve_same zero l c = refl
serve_same (suc count) l c = go (channel_of l c) (serve_same count l (next_number l c))
  where
    go : (found : Option Channel) → SameFlow l (serve count l (next_number l c)).layer →
        SameFlow l (serve_found l c found (serve count l (next_number l c))).layer
    go None rest = rest
    go (Some ch) rest =
        served_same l c (next_of l.flow ch) (is_some (next_of l.flow ch).body) (serve count l (next_number l c)) rest

owed_same : (owed : List Body) (l : Layer) → SameFlow l (next_restart owed l).layer
owed_same (b ∷ bs) l = refl
owed_same [] l = serve_same (length l.channels) l (next_number l l.served_last)

phase_same : (phase : Phase) (relink : Bool) (l : Layer) → SameFlow l (next_in phase relink l).layer
phase_same NoSession relink l = refl
phase_same OwnRestart true l = refl
phase_same PacketReady true l = refl
phase_same OwnRestart false l = owed_same l.owed l
phase_same PacketReady false l = owed_same l.owed l

pub flow_next : (l : Layer) → (next_packet l).layer.flow ≡ l.flow
flow_next l = phase_same l.phase l.relink l
