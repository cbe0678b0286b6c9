-- Packets that go to the link leave nothing to be told.
use Rattle.std.proofs.Common.{◌≡◌, ℕ, zero, suc, Bool, true, false, cond, ◌∙◌, List, [], ◌∷◌, refl, length, Option, Some, None, is_some}
use Rattle.lapb.specs.Machine.{can_offer}
use Rattle.data_transfer.specs.Packets.{Body, Note}
use Rattle.packet_channel.specs.Channel.{Channel}
use Rattle.packet_layer.specs.Layer.{Layer, Phase, Next, channel_of, next_of, next_number, serve, serve_found, served, next_restart, next_in, next_packet}
use Rattle.packet_end.specs.PacketEnd.{PacketEnd, offered, all_offered, with_next}

served_read : (l : Layer) (c : ℕ) (ch : Channel) (b : Option Body) (others : Next) → others.layer.notes ≡ l.notes →
    (served l c (record { channel = ch; body = b }) others).layer.notes ≡ l.notes
served_read l c ch None others same = same
served_read l c ch (Some b) others same = refl

found_read : (l : Layer) (c : ℕ) (found : Option Channel) (others : Next) → others.layer.notes ≡ l.notes →
    (serve_found l c found others).layer.notes ≡ l.notes
found_read l c None others same = same
found_read l c (Some ch) others same = served_read l c (next_of l.flow ch).channel (next_of l.flow ch).body others same

serve_read : (count : ℕ) (l : Layer) (c : ℕ) → (serve count l c).layer.notes ≡ l.notes
serve_read zero l c = refl
serve_read (suc count) l c = found_read l c (channel_of l c) (serve count l (next_number l c)) (serve_read count l (next_number l c))

restart_read : (owed : List Body) (l : Layer) → (next_restart owed l).layer.notes ≡ l.notes
restart_read (b ∷ bs) l = refl
restart_read [] l = serve_read (length l.channels) l (next_number l l.served_last)

in_read : (phase : Phase) (relink : Bool) (l : Layer) → (next_in phase relink l).layer.notes ≡ l.notes
in_read Phase.NoSession relink l = refl
in_read Phase.OwnRestart true l = refl
in_read Phase.OwnRestart false l = restart_read l.owed l
in_read Phase.PacketReady true l = refl
in_read Phase.PacketReady false l = restart_read l.owed l

either : (P : PacketEnd → Type 0) (b : Bool) (x y : PacketEnd) → P x → P y → P (cond b x y)
either P true x y p q = p
either P false x y p q = q

offered_read : (most : ℕ) (e : PacketEnd) (notes : List Note) → e.layer.notes ≡ notes → (offered most e).layer.notes ≡ notes
offered_read zero e notes same = same
offered_read (suc most) e notes same =
    either (λ f. f.layer.notes ≡ notes) (can_offer e.line.link)
    (cond (is_some (next_packet e.layer).packet) (offered most (with_next e (next_packet e.layer))) e) e
    (either (λ f. f.layer.notes ≡ notes) (is_some (next_packet e.layer).packet)
    (offered most (with_next e (next_packet e.layer))) e
    (offered_read most (with_next e (next_packet e.layer)) notes (in_read e.layer.phase e.layer.relink e.layer ∙ same)) same) same

pub all_offered_read : (e : PacketEnd) → e.layer.notes ≡ [] → (all_offered e).layer.notes ≡ []
unfolding all_offered
all_offered_read e read = offered_read 7 e [] read
