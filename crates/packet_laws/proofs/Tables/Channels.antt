-- Channels by their parts, what is made of them by what comes, and what the layer makes of that.
use Rattle.std.proofs.Common.{◌≡◌, ℕ, zero, suc, Bool, true, false, List, ap, subst, ◌∙◌, arith}
use Rattle.std.proofs.lemmas.Bool.{ne_eqb}
use Rattle.std.specs.Prelude.{◌==◌, cond, Option, Some, None, IfSome}
use Rattle.link_timers.specs.declared.role.Role.{Role}
use Rattle.data_transfer.specs.declared.flow.Flow.{Flow}
use Rattle.data_transfer.specs.Packets.{Body, Packet, Received}
use Rattle.data_transfer.specs.Packets.Received.{Whole, Unknown, Faulty}
use Rattle.data_transfer.specs.Traffic.{Traffic}
use Rattle.packet_channel.specs.Channel.{ChannelState, Channel, Step, received, unreadable}
use Rattle.packet_layer.specs.Layer.{Phase, Layer, nth_channel, channel_of, after_step, on_found, on_channel, restart_packet, unread, on_packet}
use Rattle.packet_layer.specs.Layer.Phase.{PacketReady}
use Rattle.packet_laws.specs.Tables.States.{channel_named}
use Rattle.packet_laws.specs.Tables.TableClauses.{ComesOn}

abbrev pub channel_in : ChannelState → Bool → List Body → Traffic → Channel
channel_in s resetting owed t = record { state = s; resetting = resetting; owed = owed; traffic = t }

abbrev pub packet_on : ℕ → Body → Packet
packet_on c b = record { channel = c; body = b }

-- the step of a channel by what comes
abbrev pub step_by : Role → Flow → Channel → Received → Step
step_by role flow ch (Whole p) = received role flow p.channel ch p.body
step_by role flow ch (Unknown c) = unreadable role c true ch
step_by role flow ch (Faulty c) = unreadable role c false ch

-- a fact of the value that there is
pub of_some : {X : Type 0} (o : Option X) (x : X) (P : X → Type 0) → o ≡ Some x → IfSome o P → P x
of_some None x P e h = absurd (cc)
of_some (Some y) x P e h = let same : y ≡ x = cc in subst P same h

-- a channel of the line has not the number 0
pub is_not_zero : (chs : List Channel) (c : ℕ) (ch : Channel) → nth_channel chs c ≡ Some ch → (c == 0) ≡ false
is_not_zero chs zero ch e = absurd (cc)
is_not_zero chs (suc i) ch e = ne_eqb (suc i) 0 (λ q. let no : ⊥ = omega arith in no)

found_step : (l : Layer) (c : ℕ) (ch : Channel) (f : Channel → Step) → l.phase ≡ PacketReady → channel_of l c ≡ Some ch → on_channel l.phase l c f ≡ after_step l c (f ch)
found_step l c ch f ready found = ap (λ (ph : Phase). on_channel ph l c f) ready ∙ ap (λ (o : Option Channel). on_found l c f o) found

pub comes_step : (l : Layer) (r : Received) (ch : Channel) → ComesOn l r ch → on_packet l r ≡ after_step (unread l) (channel_named r) (step_by l.role l.flow ch r)
comes_step l (Whole p) ch at =
    ap (λ (z : Bool). cond z (restart_packet l.phase p.body (unread l)) (on_channel l.phase (unread l) p.channel (λ x. received l.role l.flow p.channel x p.body))) (is_not_zero l.channels p.channel ch at.found)
    ∙ found_step (unread l) p.channel ch (λ x. received l.role l.flow p.channel x p.body) at.ready at.found
comes_step l (Unknown c) ch at = found_step (unread l) c ch (λ x. unreadable l.role c true x) at.ready at.found
comes_step l (Faulty c) ch at = found_step (unread l) c ch (λ x. unreadable l.role c false x) at.ready at.found
