-- Ends of a line whose layer asks for no relink: so is each after an event.
use Rattle.std.specs.Prelude.{◌≡◌, ℕ, zero, suc, Bool, true, false, cond, List, [], ◌∷◌, length, Option, Some, None, is_some}
use Rattle.std.proofs.Common.{refl, ◌∙◌}
use Rattle.link_timers.specs.declared.timers.TimerId.{TimerId}
use Rattle.lapb.specs.Machine.{can_offer}
use Rattle.data_transfer.specs.Packets.{Body, CallParts}
use Rattle.data_transfer.specs.Traffic.{Taken}
use Rattle.packet_channel.specs.Channel.{Channel, Refusal, Request}
use Rattle.packet_layer.specs.Layer.{Phase, Layer, channel_of, next_packet, next_in, next_restart, next_number, next_of, serve, serve_found, Next, front_on, call_refusal, request_refusal}
use Rattle.packet_layer.specs.Layer.Phase.{NoSession, OwnRestart, PacketReady}
use Rattle.packet_end.specs.PacketEnd.{PacketEnd, begun, runs_at, after_timer, relinked, relinked_if_due, with_next, offered, all_offered, finished, asked, called}
use Rattle.packet_host.specs.Host.{ended, unless_refused, refuse_refusal, after_call, after_request, after_refuse, after_say, let_go, taken_as, after_take, after_expiry}
use Rattle.data_transfer.specs.Cutting.{cut}
use Rattle.packet_host.specs.Saying.{queued, message, say_refusal}

abbrev pub AsksNone : PacketEnd → Type 0
AsksNone e = e.layer.relink ≡ false

-- ---- what goes to the link asks for nothing

either : {X : Type 0} (P : X → Type 0) (v : Bool) (x y : X) → P x → P y → P (cond v x y)
either P true x y g h = g
either P false x y g h = h

found_relink : (l : Layer) (d : ℕ) (o : Option Channel) (others : Next) → others.layer.relink ≡ l.relink → (serve_found l d o others).layer.relink ≡ l.relink
found_relink l d None others h = h
found_relink l d (Some ch) others h = either (λ (n : Next). n.layer.relink ≡ l.relink) (is_some (next_of l.flow ch).body) _ others refl h

serve_relink : (k : ℕ) (l : Layer) (d : ℕ) → (serve k l d).layer.relink ≡ l.relink
serve_relink zero l d = refl
serve_relink (suc k) l d = found_relink l d (channel_of l d) (serve k l (next_number l d)) (serve_relink k l (next_number l d))

restart_relink : (owed : List Body) (l : Layer) → (next_restart owed l).layer.relink ≡ l.relink
restart_relink (b ∷ bs) l = refl
restart_relink [] l = serve_relink (length l.channels) l (next_number l l.served_last)

in_relink : (phase : Phase) (asks : Bool) (l : Layer) → (next_in phase asks l).layer.relink ≡ l.relink
in_relink NoSession asks l = refl
in_relink OwnRestart true l = refl
in_relink OwnRestart false l = restart_relink l.owed l
in_relink PacketReady true l = refl
in_relink PacketReady false l = restart_relink l.owed l

-- ---- the end of an event

offered_asks : (most : ℕ) (e : PacketEnd) → AsksNone e → AsksNone (offered most e)
offered_asks zero e h = h
offered_asks (suc most) e h =
    either AsksNone (can_offer e.line.link) (cond (is_some (next_packet e.layer).packet) (offered most (with_next e (next_packet e.layer))) e) e
    (either AsksNone (is_some (next_packet e.layer).packet) (offered most (with_next e (next_packet e.layer))) e
    (offered_asks most (with_next e (next_packet e.layer)) (in_relink e.layer.phase e.layer.relink e.layer ∙ h)) h)
    h

if_due_asks : (v : Bool) (e : PacketEnd) → e.layer.relink ≡ v → AsksNone (cond v (relinked e) e)
if_due_asks true e h = refl
if_due_asks false e h = h

pub finished_asks : (e : PacketEnd) → AsksNone (finished e)
unfolding finished all_offered
finished_asks e = offered_asks 7 (relinked_if_due e) (if_due_asks e.layer.relink e refl)

-- ---- events of a host

unless_asks : (o : Option Refusal) (x e : PacketEnd) → AsksNone e → AsksNone (unless_refused o (ended x) e)
unless_asks None x e h = finished_asks (begun x)
unless_asks (Some r) x e h = h

pub calls_ask : (e : PacketEnd) (parts : CallParts) → AsksNone e → AsksNone (after_call e parts)
calls_ask e parts h = unless_asks (call_refusal e.layer e.layer.phase) (called e parts) e h

pub requests_ask : (e : PacketEnd) (channel : ℕ) (r : Request) → AsksNone e → AsksNone (after_request e channel r)
requests_ask e channel r h = unless_asks (request_refusal e.layer channel r) (asked e channel r) e h

pub refuses_ask : (e : PacketEnd) (channel : ℕ) → AsksNone e → AsksNone (after_refuse e channel)
refuses_ask e channel h = unless_asks (refuse_refusal e channel) (asked e channel (Request.Clearing 0 0)) e h

pub says_ask : (e : PacketEnd) (channel : ℕ) (octets : List ℕ) (qualified delivery : Bool) → AsksNone e → AsksNone (after_say e channel octets qualified delivery)
says_ask e channel octets qualified delivery h = unless_asks (say_refusal e.layer channel octets qualified) (queued channel (cut e.layer.flow.size (message octets qualified delivery)) e) e h

taken_asks : (o : Option Taken) (channel : ℕ) (e : PacketEnd) → AsksNone e → AsksNone (taken_as o channel e)
taken_asks None channel e h = h
taken_asks (Some x) channel e h = finished_asks (begun (let_go x channel (asked e channel Request.Taking)))

pub takes_ask : (e : PacketEnd) (channel : ℕ) → AsksNone e → AsksNone (after_take e channel)
takes_ask e channel h = taken_asks (front_on e.layer channel) channel e h

pub expiry_asks : (e : PacketEnd) (id : TimerId) → AsksNone e → AsksNone (after_expiry e id)
expiry_asks e id h = either AsksNone (runs_at e id) (finished (after_timer (begun e) id)) e (finished_asks _) h
