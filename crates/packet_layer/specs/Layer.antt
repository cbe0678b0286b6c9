-- The packet layer of one line: its logical channels, the restart procedure (X.25 3 and table C-1), timers, what is
-- owed to the link.
use Rattle.std.specs.Prelude.{ℕ, zero, suc, ◌-◌, Bool, true, false, if◌then◌else◌, ◌&&◌, ◌==◌, nat_le, List, []}
use Rattle.std.specs.Prelude.{◌∷◌, ◌++◌, length, map, set, slice_get, replicate, Option, Some, None, is_some, not}
use Rattle.std.specs.List.{list_all}
use Rattle.link_timers.specs.declared.role.Role.{Role}
use Rattle.link_timers.specs.declared.role.Role.TheVariants.{Dte, Dce}
use Rattle.packet_codec.specs.ClearCause as clear_cause
use Rattle.packet_codec.specs.RestartCause as restart_cause
use Rattle.packet_codec.specs.Diagnostic.{no_information, not_allowed_in_r1}
use Rattle.data_transfer.specs.Packets.{CallParts, Body, Packet, Received, Note, Reason}
use Rattle.data_transfer.specs.Packets.Body.{Restart, RestartConfirmation}
use Rattle.data_transfer.specs.Packets.Received.{Whole, Unknown, Faulty}
use Rattle.data_transfer.specs.Packets.Note.{Closed}
use Rattle.data_transfer.specs.Packets.Reason.{LinkLost, FarRestart, LocalFault}
use Rattle.data_transfer.specs.Traffic.{Taken, front}
use Rattle.packet_channel.specs.Channel.{Channel, Step, Request, Refusal, closed_channel, entered, error_cause}
use Rattle.packet_channel.specs.Channel.{clear_error, received, unreadable, requested, refusal, has_flow, in_transfer}
use Rattle.packet_channel.specs.Channel.{refused_if, may_accept}
use Rattle.packet_channel.specs.Channel.ChannelState.{Transfer}
pub use Rattle.packet_channel.specs.Channel.{is_full, with_owed, passes_limit, owing, had_call, waits_for_call}
pub use Rattle.packet_channel.specs.Channel.{waits_for_clear, ChannelNext, next_owed, next_of, is_ready, is_free}
pub use Rattle.packet_channel.specs.Channel.{placing, channel_rests}
use Rattle.data_transfer.specs.declared.flow.Flow.{Flow}

-- no session of the link; r2 of a DTE or r3 of a DCE; r1
pub data Phase : Type 0 where
  NoSession : Phase
  OwnRestart : Phase
  PacketReady : Phase

-- a packet layer: its role, the flow control of its channels, the channels 1, 2 and so on, the phase of the restart
-- procedure, the restart packets owed, the channel served last, whether the link has to be set up anew, and the notes
-- not yet read
pub record Layer : Type 0 where
  pub role : Role
  pub flow : Flow
  pub channels : List Channel
  pub phase : Phase
  pub owed : List Body
  pub served_last : ℕ
  pub relink : Bool
  pub notes : List Note

-- ---- channels by number

abbrev pub nth_channel : List Channel → ℕ → Option Channel
nth_channel chs zero = None
nth_channel chs (suc i) = slice_get chs i

abbrev pub channel_of : Layer → ℕ → Option Channel
channel_of l c = nth_channel l.channels c

abbrev pub with_nth : List Channel → ℕ → Channel → List Channel
with_nth chs zero ch = chs
with_nth chs (suc i) ch = set chs i ch

-- ---- making

abbrev pub standing_channels : Bool → List Channel → List Channel
standing_channels true (ch ∷ chs) = entered Transfer ch ∷ chs
standing_channels standing chs = chs

abbrev pub start_phase : Bool → Phase
start_phase true = PacketReady
start_phase false = NoSession

-- `standing`: the line is made in r1 with a call on channel 1
abbrev pub made : Role → (channels : ℕ) (flow : Flow) → (standing : Bool) → Layer
made role channels flow standing = record {
  role = role;
  flow = flow;
  channels = standing_channels standing (replicate channels closed_channel);
  phase = start_phase standing;
  owed = [];
  served_last = 0;
  relink = false;
  notes = [];
}

-- ---- what a layer owes. A fifth owed packet asks for a relink, after which nothing goes to the link until
-- `link_down` or `link_up`

abbrev pub set_if : Bool → Bool → Bool
set_if true old = true
set_if false old = old

-- the layer after a step of channel c
abbrev pub after_step : Layer → ℕ → Step → Layer
after_step l c st = record l {
  channels = with_nth l.channels c (owing st);
  relink = set_if (passes_limit st.channel.owed st.owes) l.relink;
  notes = l.notes ++ st.notes;
}

abbrev pub owes_restart : Option Body → Layer → Layer
owes_restart o l = record l { owed = with_owed l.owed o; relink = set_if (passes_limit l.owed o) l.relink }

-- ---- restart: all calls close, in rising order of channels

abbrev pub closing_notes : ℕ → Reason → List Channel → List Note
closing_notes c reason [] = []
closing_notes c reason (ch ∷ chs) =
    if had_call ch.state
    then Closed c clear_cause.out_of_order no_information reason ∷ closing_notes (suc c) reason chs
    else closing_notes (suc c) reason chs

abbrev pub all_closed : Reason → Layer → Layer
all_closed reason l =
    record l { channels = map (λ ch. closed_channel) l.channels; notes = l.notes ++ closing_notes 1 reason l.channels }

-- this end begins a restart
abbrev pub restarting : ℕ → ℕ → Layer → Layer
restarting cause diagnostic l =
    owes_restart (Some (Restart cause diagnostic)) (record l { phase = OwnRestart; served_last = 0 })

-- what was noted and not read is dropped by what changes the layer next: a packet, an expiry, the link
abbrev pub unread : Layer → Layer
unread l = record l { notes = [] }

-- ---- the link's session begins and ends

abbrev pub start_cause : Role → ℕ
start_cause Dte = restart_cause.dte_originated
start_cause Dce = restart_cause.network_operational

abbrev pub link_up : Layer → Layer
link_up l =
    restarting (start_cause l.role) no_information
    (record (all_closed LinkLost (unread l)) { owed = []; relink = false })

abbrev pub link_down : Layer → Layer
link_down l =
    record (all_closed LinkLost (unread l)) { phase = NoSession; owed = []; served_last = 0; relink = false }

-- ---- packets from the link

abbrev pub restart_packet : Phase → Body → Layer → Layer
restart_packet PacketReady (Restart cause diagnostic) l =
    owes_restart (Some RestartConfirmation) (record (all_closed FarRestart l) { served_last = 0 })
restart_packet PacketReady RestartConfirmation l =
    restarting (error_cause l.role restart_cause.local_procedure_error) not_allowed_in_r1 (all_closed LocalFault l)
restart_packet OwnRestart (Restart cause diagnostic) l = record l { phase = PacketReady; served_last = 0 }
restart_packet OwnRestart RestartConfirmation l = record l { phase = PacketReady; served_last = 0 }
restart_packet phase _ l = l

abbrev pub on_found : Layer → ℕ → (Channel → Step) → Option Channel → Layer
on_found l c f None = l
on_found l c f (Some ch) = after_step l c (f ch)

-- a step of channel c by what comes from the link: none but in r1, on a channel of the line
abbrev pub on_channel : Phase → Layer → ℕ → (Channel → Step) → Layer
on_channel PacketReady l c f = on_found l c f (channel_of l c)
on_channel phase l c f = l

-- restart packets, and they alone, have channel 0
abbrev pub packet_in : Layer → Packet → Layer
packet_in l p =
    if p.channel == 0
    then restart_packet l.phase p.body l
    else on_channel l.phase l p.channel (λ ch. received l.role l.flow p.channel ch p.body)

abbrev pub on_received : Layer → Received → Layer
on_received l (Whole p) = packet_in l p
on_received l (Unknown c) = on_channel l.phase l c (λ ch. unreadable l.role c true ch)
on_received l (Faulty c) = on_channel l.phase l c (λ ch. unreadable l.role c false ch)

abbrev pub on_packet : Layer → Received → Layer
on_packet l r = on_received (unread l) r

-- ---- timers: T20/T10 of the restart, and by channel T21/T11 of the call, T22/T12 of the reset, T23/T13 of the clear

pub data Timer : Type 0 where
  RestartTimer : Timer
  CallTimer : (channel : ℕ) → Timer
  ResetTimer : (channel : ℕ) → Timer
  ClearTimer : (channel : ℕ) → Timer

abbrev pub in_own_restart : Phase → Bool
in_own_restart OwnRestart = true
in_own_restart _ = false

abbrev pub runs_at : (Channel → Bool) → Phase → Option Channel → Bool
runs_at test PacketReady (Some ch) = test ch
runs_at test phase found = false

abbrev pub runs : Layer → Timer → Bool
runs l RestartTimer = in_own_restart l.phase
runs l (CallTimer c) = runs_at (λ ch. waits_for_call l.role ch.state) l.phase (channel_of l c)
runs l (ResetTimer c) = runs_at (λ ch. in_transfer ch.state && ch.resetting) l.phase (channel_of l c)
runs l (ClearTimer c) = runs_at (λ ch. waits_for_clear ch.state) l.phase (channel_of l c)

abbrev pub expired : Layer → Timer → Layer
expired l RestartTimer = record l { relink = true }
expired l (CallTimer c) = on_found l c (λ ch. clear_error l.role c no_information true ch) (channel_of l c)
expired l (ResetTimer c) = on_found l c (λ ch. clear_error l.role c no_information true ch) (channel_of l c)
expired l (ClearTimer c) =
    restarting (error_cause l.role restart_cause.local_procedure_error) no_information (all_closed LocalFault l)

abbrev pub on_timer : Layer → Timer → Layer
on_timer l t = if runs l t then expired (unread l) t else l

-- ---- what goes to the link: restart packets before all others; then the channels take turns, beginning behind the
-- one that had the last turn, and the first with anything gives a control packet or, owing none, what its traffic
-- says

pub record Next : Type 0 where
  pub layer : Layer
  pub packet : Option Packet

abbrev pub packet_of : ℕ → Option Body → Option Packet
packet_of c None = None
packet_of c (Some b) = Some (record { channel = c; body = b })

abbrev pub next_number : Layer → ℕ → ℕ
next_number l c = if nat_le (length l.channels) c then 1 else suc c

abbrev pub served : Layer → ℕ → ChannelNext → Next → Next
served l c n others =
    if is_some n.body
    then record {
      layer = record l { channels = with_nth l.channels c n.channel; served_last = c };
      packet = packet_of c n.body;
    }
    else others

abbrev pub serve_found : Layer → ℕ → Option Channel → Next → Next
serve_found l c None others = others
serve_found l c (Some ch) others = served l c (next_of l.flow ch) others

-- the first of k channels from c on, round
abbrev pub serve : ℕ → Layer → ℕ → Next
serve zero l c = record { layer = l; packet = None }
serve (suc k) l c = serve_found l c (channel_of l c) (serve k l (next_number l c))

abbrev pub next_restart : List Body → Layer → Next
next_restart (b ∷ bs) l = record { layer = record l { owed = bs }; packet = packet_of 0 (Some b) }
next_restart [] l = serve (length l.channels) l (next_number l l.served_last)

abbrev pub next_in : Phase → Bool → Layer → Next
next_in NoSession relink l = record { layer = l; packet = None }
next_in phase true l = record { layer = l; packet = None }
next_in phase false l = next_restart l.owed l

abbrev pub next_packet : Layer → Next
next_packet l = next_in l.phase l.relink l

-- ---- calls of the user

abbrev pub raised : Option ℕ → Option ℕ
raised None = None
raised (Some n) = Some (suc n)

abbrev pub either_of : Option ℕ → Option ℕ → Option ℕ
either_of None o = o
either_of (Some n) o = Some n

abbrev pub itself_if : Bool → Option ℕ
itself_if true = Some 1
itself_if false = None

abbrev pub lowest_free : List Channel → Option ℕ
lowest_free [] = None
lowest_free (ch ∷ chs) = either_of (itself_if (is_free ch)) (raised (lowest_free chs))

abbrev pub highest_free : List Channel → Option ℕ
highest_free [] = None
highest_free (ch ∷ chs) = either_of (raised (highest_free chs)) (itself_if (is_free ch))

abbrev pub free_channel : Role → List Channel → Option ℕ
free_channel Dte chs = highest_free chs
free_channel Dce chs = lowest_free chs

-- the channel that a call is given, if any
abbrev pub channel_given : Layer → Phase → Option ℕ
channel_given l PacketReady = free_channel l.role l.channels
channel_given l phase = None

abbrev pub placed_on : Layer → CallParts → Option ℕ → Layer
placed_on l parts None = l
placed_on l parts (Some c) = on_found l c (λ ch. placing parts ch) (channel_of l c)

abbrev pub call : Layer → CallParts → Layer
call l parts = placed_on l parts (channel_given l l.phase)

abbrev pub call_refusal : Layer → Phase → Option Refusal
call_refusal l PacketReady = if is_some (free_channel l.role l.channels) then None else Some Refusal.NoChannel
call_refusal l phase = Some Refusal.NotReady

-- a request on a channel; a refused one changes nothing
abbrev pub request : Layer → ℕ → Request → Layer
request l c r = on_found l c (λ ch. requested l.role l.flow ch r) (channel_of l c)

abbrev pub refusal_at : Role → Flow → Request → Option Channel → Option Refusal
refusal_at role flow r None = Some Refusal.NoCall
refusal_at role flow r (Some ch) = refusal role flow ch r

abbrev pub request_refusal : Layer → ℕ → Request → Option Refusal
request_refusal l c r = refusal_at l.role l.flow r (channel_of l c)

-- ---- questions

-- whether a call that came in can be accepted
abbrev pub can_accept_at : Role → Option Channel → Bool
can_accept_at role None = false
can_accept_at role (Some ch) = may_accept role ch.state

abbrev pub can_accept : Layer → ℕ → Bool
can_accept l c = can_accept_at l.role (channel_of l c)

-- why data may not be queued, however much waits
abbrev pub flow_refusal_at : Option Channel → Option Refusal
flow_refusal_at None = Some Refusal.NoCall
flow_refusal_at (Some ch) =
    refused_if (not (in_transfer ch.state)) Refusal.NoCall (refused_if ch.resetting Refusal.IsResetting None)

abbrev pub flow_refusal : Layer → ℕ → Option Refusal
flow_refusal l c = flow_refusal_at (channel_of l c)

-- how many more packets can wait to be sent: none where nothing can be queued
abbrev pub room_at : Option Channel → ℕ
room_at None = 0
room_at (Some ch) = if has_flow ch then 8 - length ch.traffic.waiting else 0

abbrev pub room : Layer → ℕ → ℕ
room l c = room_at (channel_of l c)

-- what `take` gives, if anything
abbrev pub front_at : Option Channel → Option Taken
front_at None = None
front_at (Some ch) = front ch.traffic

abbrev pub front_on : Layer → ℕ → Option Taken
front_on l c = front_at (channel_of l c)

-- in a call, every packet with D = 1 of the present epoch was covered
abbrev pub confirmed_at : Option Channel → Bool
confirmed_at None = false
confirmed_at (Some ch) = in_transfer ch.state && (ch.traffic.undelivered == 0)

abbrev pub confirmed : Layer → ℕ → Bool
confirmed l c = confirmed_at (channel_of l c)

abbrev pub at_rest : Layer → Bool
at_rest l = (length l.owed == 0) && list_all channel_rests l.channels
