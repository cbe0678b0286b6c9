-- What goes to the link: the channels one by one, round.
use Rattle.std.proofs.Common.{◌≡◌, ℕ, zero, suc, ◌+◌, ◌-◌, ◌<◌, true, false, List, set, refl, sym, ap, ◌∙◌, arith}
use Rattle.std.specs.Prelude.{Option, Some, None, Result, is_some, slice_get}
use Rattle.data_transfer.specs.declared.flow.Flow.{Flow}
use Rattle.data_transfer.specs.Packets.{Body, Packet, Received}
use Rattle.packet_channel.specs.Channel.{Channel}
use Rattle.packet_layer.specs.Layer.{Layer, Next, channel_of, next_of, next_number, packet_of, serve, serve_found, served}
use Rattle.packet_codec.specs.Packet.{PacketValue}
use Rattle.packet_codec.specs.declared.fault.PacketFault.{PacketFault}
use Rattle.data_transfer.specs.Octets.{written, ReadsAs, body_of, content_of, heard_by}
use Rattle.packet_layer.specs.Events.{written_packet, ReadsBack, IsHeard}
use Rattle.packet_layer.proofs.Places.{channel_at}

abbrev pub nothing : Layer → Next
nothing l = record { layer = l; packet = None }

body_goes_on : (l : Layer) (c : ℕ) (ch : Channel) (b : Option Body) (others : Next) → is_some (served l c (record { channel = ch; body = b }) (nothing l)).packet ≡ false → served l c (record { channel = ch; body = b }) others ≡ others
body_goes_on l c ch None others h = refl
body_goes_on l c ch (Some b) others h = absurd (cc)

found_goes_on : (l : Layer) (c : ℕ) (found : Option Channel) (others : Next) → is_some (serve_found l c found (nothing l)).packet ≡ false → serve_found l c found others ≡ others
found_goes_on l c None others h = refl
found_goes_on l c (Some ch) others h = body_goes_on l c (next_of l.flow ch).channel (next_of l.flow ch).body others h

body_stops : (l : Layer) (c : ℕ) (ch : Channel) (b : Option Body) (others : Next) → is_some (served l c (record { channel = ch; body = b }) (nothing l)).packet ≡ true → served l c (record { channel = ch; body = b }) others ≡ served l c (record { channel = ch; body = b }) (nothing l)
body_stops l c ch None others h = absurd (cc)
body_stops l c ch (Some b) others h = refl

found_stops : (l : Layer) (c : ℕ) (found : Option Channel) (others : Next) → is_some (serve_found l c found (nothing l)).packet ≡ true → serve_found l c found others ≡ serve_found l c found (nothing l)
found_stops l c None others h = absurd (cc)
found_stops l c (Some ch) others h = body_stops l c (next_of l.flow ch).channel (next_of l.flow ch).body others h

pub goes_on_from : (m : ℕ) (k : ℕ) (l : Layer) (c : ℕ) → m ≡ suc k → is_some (serve 1 l c).packet ≡ false → serve m l c ≡ serve k l (next_number l c)
goes_on_from zero k l c e h = absurd (omega arith)
goes_on_from (suc m) k l c e h = let same : m ≡ k = omega arith in found_goes_on l c (channel_of l c) (serve m l (next_number l c)) h ∙ ap (λ n. serve n l (next_number l c)) same

-- a channel that has nothing is passed over
pub goes_on : (count i : ℕ) (l : Layer) (c : ℕ) → i < count → is_some (serve 1 l c).packet ≡ false → serve (count - (i + 1)) l (next_number l c) ≡ serve (count - i) l c
goes_on count i l c h silent = sym (goes_on_from (count - i) (count - (i + 1)) l c (omega arith) silent)

pub stops_from : (m : ℕ) (l : Layer) (c : ℕ) → 0 < m → is_some (serve 1 l c).packet ≡ true → serve m l c ≡ serve 1 l c
stops_from zero l c h says = absurd (omega arith)
stops_from (suc m) l c h says = found_stops l c (channel_of l c) (serve m l (next_number l c)) says

-- the first that has something is served
pub stops : (count i : ℕ) (l : Layer) (c : ℕ) → i < count → is_some (serve 1 l c).packet ≡ true → serve (count - i) l c ≡ serve 1 l c
stops count i l c h says = stops_from (count - i) l c (omega arith) says

body_silent : (l : Layer) (c : ℕ) (ch : Channel) (b : Option Body) → is_some b ≡ false → served l c (record { channel = ch; body = b }) (nothing l) ≡ nothing l
body_silent l c ch None h = refl
body_silent l c ch (Some b) h = absurd (cc)

body_says : (l : Layer) (c : ℕ) (ch : Channel) (b : Option Body) → is_some b ≡ true → served l c (record { channel = ch; body = b }) (nothing l) ≡ record { layer = record l { channels = Rattle.packet_layer.specs.Layer.with_nth l.channels c ch; served_last = c }; packet = packet_of c b }
body_says l c ch None h = absurd (cc)
body_says l c ch (Some b) h = refl

found_at : (l : Layer) (c place : ℕ) (ch : Channel) → place + 1 ≡ c → slice_get l.channels place ≡ Some ch → serve 1 l c ≡ served l c (next_of l.flow ch) (nothing l)
found_at l c place ch e h = rw (channel_at l.channels c place e, h) refl

pub silent_at : (l : Layer) (c place : ℕ) (ch : Channel) → place + 1 ≡ c → slice_get l.channels place ≡ Some ch → is_some (next_of l.flow ch).body ≡ false → serve 1 l c ≡ nothing l
silent_at l c place ch e h silent = found_at l c place ch e h ∙ body_silent l c (next_of l.flow ch).channel (next_of l.flow ch).body silent

with_nth_at : (chs : List Channel) (c place : ℕ) (ch : Channel) → place + 1 ≡ c → Rattle.packet_layer.specs.Layer.with_nth chs c ch ≡ set chs place ch
with_nth_at chs zero place ch e = absurd (omega arith)
with_nth_at chs (suc i) place ch e = let same : i ≡ place = omega arith in ap (λ n. set chs n ch) same

pub says_at : (l : Layer) (c place : ℕ) (ch : Channel) → place + 1 ≡ c → slice_get l.channels place ≡ Some ch → is_some (next_of l.flow ch).body ≡ true → serve 1 l c ≡ record { layer = record l { channels = set l.channels place (next_of l.flow ch).channel; served_last = c }; packet = packet_of c (next_of l.flow ch).body }
says_at l c place ch e h says =
    found_at l c place ch e h
    ∙ body_says l c (next_of l.flow ch).channel (next_of l.flow ch).body says
    ∙ ap (λ chs. record { layer = record l { channels = chs; served_last = c }; packet = packet_of c (next_of l.flow ch).body }) (with_nth_at l.channels c place (next_of l.flow ch).channel e)

-- a channel that has nothing leaves all as it was
pub silent_same : (l : Layer) (c : ℕ) → is_some (serve 1 l c).packet ≡ false → serve 1 l c ≡ nothing l
silent_same l c h = found_goes_on l c (channel_of l c) (nothing l) h

-- what is written of the packet of a channel
pub written_none : (flow : Flow) (b : Option Body) (c : ℕ) (old : List ℕ) → is_some b ≡ false → written flow c b old ≡ old
written_none flow None c old h = refl
written_none flow (Some b) c old h = absurd (cc)

pub written_of : (flow : Flow) (b : Option Body) (c : ℕ) (old : List ℕ) → written flow c b old ≡ written_packet flow (packet_of c b) old
written_of flow None c old = refl
written_of flow (Some b) c old = refl

pub said_of : (b : Option Body) (c : ℕ) → is_some (packet_of c b) ≡ is_some b
said_of None c = refl
said_of (Some b) c = refl

-- what is written of a channel's packet reads back
pub reads_of : (flow : Flow) (b : Option Body) (c : ℕ) (octets : List ℕ) → ReadsAs flow c b octets → ReadsBack flow (packet_of c b) octets
reads_of flow None c octets h = h
reads_of flow (Some b) c octets h = h

same_body : (b : Body) → body_of (content_of b) ≡ b
same_body (Body.Call parts) = refl
same_body Body.Accepted = refl
same_body (Body.Clear cause diagnostic) = refl
same_body Body.ClearConfirmation = refl
same_body (Body.Data send receive d) = refl
same_body (Body.Interrupt octets) = refl
same_body Body.InterruptConfirmation = refl
same_body (Body.ReceiveReady receive) = refl
same_body (Body.ReceiveNotReady receive) = refl
same_body (Body.Reset cause diagnostic) = refl
same_body Body.ResetConfirmation = refl
same_body (Body.Restart cause diagnostic) = refl
same_body Body.RestartConfirmation = refl

-- what reads back is what the far end hears
pub heard_of_reading : (flow : Flow) (p : Option Packet) (octets : List ℕ) → ReadsBack flow p octets → IsHeard flow p octets
heard_of_reading flow None octets h = h
heard_of_reading flow (Some p) octets h = ap (λ (r : Result PacketValue PacketFault). heard_by octets r) h ∙ ap (λ (b : Body). Some (Received.Whole (record { channel = p.channel; body = b }))) (same_body p.body)
