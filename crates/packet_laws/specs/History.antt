-- The history of a channel at the two ends of a line, epoch by epoch. No node stores it: the laws speak of it.
use Rattle.std.specs.Prelude.{ℕ, ◌+◌, Bool, true, false, if◌then◌else◌, ◌&&◌, ◌==◌, List, [], ◌∷◌, ◌++◌, Option, Some}
use Rattle.std.specs.Prelude.{None}
use Rattle.link_timers.specs.declared.role.Role.{Role}
use Rattle.data_transfer.specs.declared.flow.Flow.{Flow}
use Rattle.data_transfer.specs.Packets.{CallParts, Datum, Body, Packet}
use Rattle.data_transfer.specs.Packets.Body.{Clear, ClearConfirmation, Reset, ResetConfirmation, Restart}
use Rattle.data_transfer.specs.Packets.Body.{RestartConfirmation}
use Rattle.data_transfer.specs.Traffic.{Traffic, Taken, Heard, front, may_release, hears}
use Rattle.data_transfer.specs.Traffic.Taken.{TakenInterrupt, TakenPacket}
use Rattle.data_transfer.specs.Traffic.Heard.{Keeps, Wrong}
use Rattle.packet_channel.specs.Channel.{ChannelState, Channel, Request, Refusal, received, requested, refusal}
use Rattle.packet_channel.specs.Channel.ChannelState.{Transfer}
use Rattle.packet_channel.specs.Channel.Request.{Accept, Sending, Interrupting, Taking, Releasing}
use Rattle.packet_layer.specs.Layer.{Phase, Layer, Timer, channel_of, runs}
use Rattle.packet_layer.specs.Layer.Phase.{PacketReady}
use Rattle.packet_layer.specs.Layer.Timer.{RestartTimer, CallTimer, ResetTimer, ClearTimer}

-- one epoch of one end: the packets that `send` accepted and `take` gave, the interrupts likewise, how many of the
-- packets sent a received P(R) covered, and how many of those taken were released
pub record Epoch : Type 0 where
  pub sent : List Datum
  pub taken : List Datum
  pub interrupts_sent : List (List ℕ)
  pub interrupts_taken : List (List ℕ)
  pub covered : ℕ
  pub released : ℕ
  -- the call that this end placed in this use of the channel, if it did, and whether it accepted one in it
  pub called : Option CallParts
  pub answered : Bool

abbrev pub empty_epoch : Epoch
empty_epoch = record {
  sent = [];
  taken = [];
  interrupts_sent = [];
  interrupts_taken = [];
  covered = 0;
  released = 0;
  called = None;
  answered = false;
}

-- how an epoch grows: by a request that was not refused, by a packet heard in d1
abbrev pub with_taken : Option Taken → Epoch → Epoch
with_taken None e = e
with_taken (Some (TakenInterrupt octets)) e = record e { interrupts_taken = e.interrupts_taken ++ octets ∷ [] }
with_taken (Some (TakenPacket d)) e = record e { taken = e.taken ++ d ∷ [] }

abbrev pub logged : Traffic → Request → Epoch → Epoch
logged t (Sending d) e = record e { sent = e.sent ++ d ∷ [] }
logged t (Interrupting octets) e = record e { interrupts_sent = e.interrupts_sent ++ octets ∷ [] }
logged t Taking e = with_taken (front t) e
logged t (Releasing n) e = if may_release n t then record e { released = e.released + n } else e
logged t _ e = e

abbrev pub logged_heard : Heard → Epoch → Epoch
logged_heard (Keeps n t) e = record e { covered = e.covered + n }
logged_heard _ e = e

-- the epochs of a channel in one session of the link, by three numbers: of the restart, of the use of the channel since
-- it, of the reset in that use. The next restart, use or epoch begins where the end owes the packet that asks for it or
-- the one that confirms it; a packet that answers the end's own request begins none
pub record History : Type 0 where
  pub restart : ℕ
  pub use_ : ℕ
  pub epoch : ℕ
  pub epochs : ℕ → ℕ → ℕ → Epoch

abbrev pub new_history : History
new_history = record { restart = 0; use_ = 0; epoch = 0; epochs = λ r u g. empty_epoch }

abbrev pub is_now : History → ℕ → ℕ → ℕ → Bool
is_now st r u g = (r == st.restart) && ((u == st.use_) && (g == st.epoch))

abbrev pub grown : (Epoch → Epoch) → History → History
grown f st = record st { epochs = λ r u g. if is_now st r u g then f (st.epochs r u g) else st.epochs r u g }

-- a call placed is known in the whole use, and so is that one was accepted
abbrev pub is_use : History → ℕ → ℕ → Bool
is_use st r u = (r == st.restart) && (u == st.use_)

abbrev pub in_whole_use : (Epoch → Epoch) → History → History
in_whole_use f st = record st { epochs = λ r u g. if is_use st r u then f (st.epochs r u g) else st.epochs r u g }

abbrev pub with_call : CallParts → Epoch → Epoch
with_call parts e = record e { called = Some parts }

abbrev pub placed : CallParts → History → History
placed parts st = in_whole_use (λ e. with_call parts e) st

abbrev pub with_answer : Epoch → Epoch
with_answer e = record e { answered = true }

abbrev pub call_accepted : History → History
call_accepted st = in_whole_use (λ e. with_answer e) st

abbrev pub next_restart_of : History → History
next_restart_of st = record st { restart = st.restart + 1; use_ = 0; epoch = 0 }

abbrev pub next_use_of : History → History
next_use_of st = record st { use_ = st.use_ + 1; epoch = 0 }

abbrev pub next_epoch_of : History → History
next_epoch_of st = record st { epoch = st.epoch + 1 }

abbrev pub opened : Option Body → History → History
opened (Some (Restart cause diagnostic)) st = next_restart_of st
opened (Some RestartConfirmation) st = next_restart_of st
opened (Some (Clear cause diagnostic)) st = next_use_of st
opened (Some ClearConfirmation) st = next_use_of st
opened (Some (Reset cause diagnostic)) st = next_epoch_of st
opened (Some ResetConfirmation) st = next_epoch_of st
opened _ st = st

-- ---- the history of channel c over what happens to the layer

abbrev pub grown_unless : Option Refusal → (Epoch → Epoch) → History → History
grown_unless None f st = grown f st
grown_unless (Some r) f st = st

abbrev pub accepted_unless : Option Refusal → History → History
accepted_unless None st = call_accepted st
accepted_unless (Some r) st = st

abbrev pub requested_history : Role → Flow → Channel → Request → History → History
requested_history role flow ch Accept st = accepted_unless (refusal role flow ch Accept) st
requested_history role flow ch r st =
    opened (requested role flow ch r).owes (grown_unless (refusal role flow ch r) (λ e. logged ch.traffic r e) st)

abbrev pub heard_history : ChannelState → Bool → Heard → History → History
heard_history Transfer false (Wrong diagnostic) st = st
heard_history Transfer false h st = grown (λ e. logged_heard h e) st
heard_history s b h st = st

abbrev pub received_history : Role → Flow → ℕ → Channel → Body → History → History
received_history role flow c ch body st =
    opened (received role flow c ch body).owes (heard_history ch.state ch.resetting (hears flow ch.traffic body) st)

abbrev pub found_history : Option Channel → (Channel → History → History) → History → History
found_history None f st = st
found_history (Some ch) f st = f ch st

abbrev pub request_history : Layer → ℕ → Request → ℕ → History → History
request_history l d r c st =
    if c == d then found_history (channel_of l d) (λ ch s. requested_history l.role l.flow ch r s) st else st

abbrev pub call_history : CallParts → Option ℕ → ℕ → History → History
call_history parts None c st = st
call_history parts (Some d) c st = if c == d then placed parts st else st

abbrev pub restart_history : Phase → Body → History → History
restart_history PacketReady (Restart cause diagnostic) st = next_restart_of st
restart_history PacketReady RestartConfirmation st = next_restart_of st
restart_history phase body st = st

abbrev pub channel_history : Phase → Option Channel → (Channel → History → History) → History → History
channel_history PacketReady found f st = found_history found f st
channel_history phase found f st = st

abbrev pub packet_history : Layer → Packet → ℕ → History → History
packet_history l p c st =
    if p.channel == 0
    then restart_history l.phase p.body st
    else if c == p.channel
    then channel_history l.phase (channel_of l p.channel)
    (λ ch s. received_history l.role l.flow p.channel ch p.body s) st
    else st

abbrev pub expired_history : Timer → ℕ → History → History
expired_history RestartTimer c st = st
expired_history (CallTimer d) c st = if c == d then next_use_of st else st
expired_history (ResetTimer d) c st = if c == d then next_use_of st else st
expired_history (ClearTimer d) c st = next_restart_of st

abbrev pub timer_history : Layer → Timer → ℕ → History → History
timer_history l t c st = if runs l t then expired_history t c st else st
