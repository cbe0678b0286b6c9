-- The present epoch of each channel of a packet layer, which no layer stores: it grows by what is asked and heard on
-- its channel, and restarts with each reset and each end of a call.
use Rattle.std.specs.Prelude.{ℕ, Bool, true, false, if◌then◌else◌, ◌==◌, Option, Some, None}
use Rattle.link_timers.specs.declared.role.Role.{Role}
use Rattle.data_transfer.specs.declared.flow.Flow.{Flow}
use Rattle.data_transfer.specs.Packets.{Body, Received}
use Rattle.data_transfer.specs.Packets.Body.{Clear, ClearConfirmation, Reset, ResetConfirmation, Restart}
use Rattle.data_transfer.specs.Packets.Body.{RestartConfirmation}
use Rattle.data_transfer.specs.Packets.Received.{Whole, Unknown, Faulty}
use Rattle.data_transfer.specs.Traffic.{Traffic, Heard, hears}
use Rattle.packet_channel.specs.Channel.{ChannelState, Channel, Request, Refusal, refusal, requested, received, unreadable}
use Rattle.packet_channel.specs.Channel.ChannelState.{Transfer}
use Rattle.packet_layer.specs.Layer.{Phase, Layer, Timer, channel_of, runs}
use Rattle.packet_layer.specs.Layer.Phase.{PacketReady}
use Rattle.packet_layer.specs.Layer.Timer.{RestartTimer, CallTimer, ResetTimer, ClearTimer}
use Rattle.packet_laws.specs.History.{Epoch, empty_epoch, logged, logged_heard}

-- ---- on one channel

-- an epoch restarts where this end owes the packet that asks for a reset or a clear, or the one that confirms it
abbrev pub begun_by : Option Body → Epoch → Epoch
begun_by (Some (Clear cause diagnostic)) e = empty_epoch
begun_by (Some ClearConfirmation) e = empty_epoch
begun_by (Some (Reset cause diagnostic)) e = empty_epoch
begun_by (Some ResetConfirmation) e = empty_epoch
begun_by owes e = e

-- a request that is not refused is logged in it
abbrev pub grown_unless : Option Refusal → Traffic → Request → Epoch → Epoch
grown_unless None t r e = logged t r e
grown_unless (Some refused) t r e = e

abbrev pub after_request : Role → Flow → Request → Channel → Epoch → Epoch
after_request role flow r ch e =
    begun_by (requested role flow ch r).owes (grown_unless (refusal role flow ch r) ch.traffic r e)

-- a packet that is heard in d1 covers what its P(R) covers
abbrev pub grown_by : ChannelState → (resetting : Bool) → Heard → Epoch → Epoch
grown_by Transfer false h e = logged_heard h e
grown_by state resetting h e = e

abbrev pub after_packet : Role → (flow : Flow) (channel : ℕ) → Body → Channel → Epoch → Epoch
after_packet role flow c b ch e =
    begun_by (received role flow c ch b).owes (grown_by ch.state ch.resetting (hears flow ch.traffic b) e)

abbrev pub after_unreadable : Role → (channel : ℕ) → (unknown : Bool) → Channel → Epoch → Epoch
after_unreadable role c unknown ch e = begun_by (unreadable role c unknown ch).owes e

-- ---- of a layer, by the numbers of its channels

abbrev pub Epochs : Type 0
Epochs = ℕ → Epoch

abbrev pub all_begun : Epochs
all_begun = λ c. empty_epoch

-- the epoch of channel c goes on so, if the line has this channel
abbrev pub on_found : Option Channel → ℕ → (Channel → Epoch → Epoch) → Epochs → Epochs
on_found None c f es = es
on_found (Some ch) c f es = λ d. if d == c then f ch (es d) else es d

-- where something comes from the link, in r1 alone
abbrev pub on_channel : Phase → Option Channel → ℕ → (Channel → Epoch → Epoch) → Epochs → Epochs
on_channel PacketReady found c f es = on_found found c f es
on_channel phase found c f es = es

-- a restart ends all calls, but for the packet that answers the own one
abbrev pub on_restart : Phase → Body → Epochs → Epochs
on_restart PacketReady (Restart cause diagnostic) es = all_begun
on_restart PacketReady RestartConfirmation es = all_begun
on_restart phase b es = es

abbrev pub on_received : Layer → Received → Epochs → Epochs
on_received l (Whole p) es =
    if p.channel == 0
    then on_restart l.phase p.body es
    else on_channel l.phase (channel_of l p.channel) p.channel
    (λ ch e. after_packet l.role l.flow p.channel p.body ch e) es
on_received l (Unknown c) es = on_channel l.phase (channel_of l c) c (λ ch e. after_unreadable l.role c true ch e) es
on_received l (Faulty c) es = on_channel l.phase (channel_of l c) c (λ ch e. after_unreadable l.role c false ch e) es

abbrev pub on_hearing : Layer → Option Received → Epochs → Epochs
on_hearing l None es = es
on_hearing l (Some r) es = on_received l r es

-- an expiry of a timer clears a call or, where a clear was not confirmed, restarts
abbrev pub on_expiry : Layer → Timer → Epochs → Epochs
on_expiry l RestartTimer es = es
on_expiry l (CallTimer c) es = on_found (channel_of l c) c (λ ch e. empty_epoch) es
on_expiry l (ResetTimer c) es = on_found (channel_of l c) c (λ ch e. empty_epoch) es
on_expiry l (ClearTimer c) es = all_begun

abbrev pub on_timer : Layer → Option Timer → Epochs → Epochs
on_timer l None es = es
on_timer l (Some t) es = if runs l t then on_expiry l t es else es
