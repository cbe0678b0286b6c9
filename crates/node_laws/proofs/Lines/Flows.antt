-- Nothing that happens at a packet layer changes the flow control of its line.
use Rattle.std.specs.Prelude.{◌≡◌, ℕ, Bool, true, false, List, Option, Some, None}
use Rattle.std.proofs.Common.{refl}
use Rattle.data_transfer.specs.Packets.{CallParts, Received}
use Rattle.data_transfer.specs.Packets.Received.{Whole, Unknown, Faulty}
use Rattle.packet_channel.specs.Channel.{Request, unreadable, requested}
use Rattle.packet_layer.specs.Layer.{Layer, Phase, Timer, channel_of, channel_given, unread, call, request, on_channel, on_timer, next_packet}
use Rattle.packet_layer.specs.Layer.Phase.{NoSession, OwnRestart, PacketReady}
use Rattle.packet_layer.specs.Events.{after_hearing, on_octets}
use Rattle.data_transfer.specs.Octets.{heard}
use Rattle.packet_laws.proofs.Line.Moves.{found_same, placed_same, timer_same}
use Rattle.packet_laws.proofs.Line.Arriving.{packet_same}
use Rattle.packet_laws.proofs.Line.Offering.{next_same}

unreadable_flow : (phase : Phase) (unknown : Bool) (l : Layer) (c : ℕ) → (on_channel phase l c (λ ch. unreadable l.role c unknown ch)).flow ≡ l.flow
unreadable_flow PacketReady unknown l c = (found_same l 0 c (λ ch. unreadable l.role c unknown ch) (channel_of l c)).1
unreadable_flow OwnRestart unknown l c = refl
unreadable_flow NoSession unknown l c = refl

hearing_flow : (o : Option Received) (l : Layer) → (after_hearing (unread l) o).flow ≡ l.flow
hearing_flow None l = refl
hearing_flow (Some (Whole p)) l = (packet_same l 0 p).1
hearing_flow (Some (Unknown c)) l = unreadable_flow l.phase true (unread l) c
hearing_flow (Some (Faulty c)) l = unreadable_flow l.phase false (unread l) c

pub octets_flow : (l : Layer) (octets : List ℕ) → (on_octets l octets).flow ≡ l.flow
octets_flow l octets = hearing_flow (heard l.flow octets) l

pub timer_flow : (l : Layer) (t : Timer) → (on_timer l t).flow ≡ l.flow
timer_flow l t = (timer_same l 0 t).1

pub call_flow : (l : Layer) (parts : CallParts) → (call l parts).flow ≡ l.flow
call_flow l parts = (placed_same l 0 parts (channel_given l l.phase)).1

pub request_flow : (l : Layer) (c : ℕ) (r : Request) → (request l c r).flow ≡ l.flow
request_flow l c r = (found_same l 0 c (λ ch. requested l.role l.flow ch r) (channel_of l c)).1

pub next_flow : (l : Layer) → (next_packet l).layer.flow ≡ l.flow
next_flow l = (next_same l 0).1
