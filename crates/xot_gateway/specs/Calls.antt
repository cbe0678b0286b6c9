-- The calls of a line: the table of its channels and that of connections.
use Rattle.std.specs.Prelude.{◌≡◌, ℕ, zero, suc, ◌-◌, ◌==◌, Bool, true, false, ◌&&◌, is_none, is_some, List, length, min, set, slice_get, replicate, position, Option, Some, None, Result, Ok, Err, option_and_then, if◌then◌else◌, nat_lt}
use Rattle.packet_codec.specs.ClearCause.{number_busy, out_of_order}
use Rattle.packet_codec.specs.declared.fault.PacketFault.{PacketFault}
use Rattle.packet_codec.specs.Packet.{PacketValue, ContentValue, CallRequest, ClearRequest, ClearConfirmation, RestartRequest, RestartConfirmation}
use Rattle.xot_gateway.specs.declared.line.XotLine.{XotLine}
use Rattle.xot_gateway.specs.declared.states.ChannelState.{ChannelState}
use Rattle.xot_gateway.specs.declared.states.ChannelState.TheVariants.{Ready, ToClear, Clearing, ToConfirm}
use Rattle.xot_gateway.specs.declared.connection.Connection.{Connection}
use Rattle.xot_gateway.specs.declared.connection.ConnectionCall.{ConnectionCall}
use Rattle.xot_gateway.specs.declared.connection.ConnectionCall.TheVariants.{Call}
use Rattle.xot_gateway.specs.declared.calls.LineState.{LineState}
use Rattle.xot_gateway.specs.declared.calls.LineState.TheVariants as line_is
use Rattle.xot_gateway.specs.declared.calls.XotCalls.{XotCalls}
use Rattle.xot_gateway.specs.declared.calls.Work.{Work}
use Rattle.xot_gateway.specs.declared.calls.Work.TheVariants as work
use Rattle.xot_gateway.specs.declared.calls.Order.{Order}
use Rattle.xot_gateway.specs.declared.calls.Order.TheVariants as order
use Rattle.xot_gateway.specs.Packets.{clear_on, confirmation_on, restart_of, restart_confirmation_of}
use Rattle.xot_gateway.specs.Connections.{Serving, absent, alone_after, called, fresh, granted, heard_on, is_absent, is_on, leaves_when, listens, next_connection, next_packet, next_served, restarted, wished, with_octets}
use Rattle.xot_gateway.specs.declared.connection.Wish.{Wish}
use Rattle.xot_gateway.specs.declared.connection.Wish.TheVariants as wish

-- ---- one of many

abbrev pub changed : {A : Type 0} → (number : ℕ) → (A → A) → Option A → List A → List A
changed number change None xs = xs
changed number change (Some x) xs = set xs number (change x)

-- the one of this number changes so, if there is one, and no other
abbrev pub changed_at : {A : Type 0} → (number : ℕ) → (A → A) → List A → List A
changed_at number change xs = changed number change (slice_get xs number) xs

-- ---- the channels

-- the place of a channel, which is counted from 1
abbrev pub place_of : (channel : ℕ) → Option ℕ
place_of channel = if channel == 0 then None else if nat_lt (channel - 1) 256 then Some (channel - 1) else None

-- the channel of a call that has lost its connection is in this state
abbrev pub left_by : ConnectionCall → Option ChannelState → List ChannelState → List ChannelState
left_by (Call place phase) (Some state) channels = set channels place state
left_by call leaves channels = channels

abbrev pub is_ready : Option ChannelState → Bool
is_ready (Some Ready) = true
is_ready _ = false

-- p1: no call, and nothing that is owed to the line
abbrev pub is_free : List ChannelState → List Connection → (place : ℕ) → Bool
is_free channels connections place =
    is_ready (slice_get channels place) && is_none (position (is_on place) connections)

-- a DTE takes the highest free channel (X.25 4.1.2)
abbrev pub highest_free : List ChannelState → List Connection → (below : ℕ) → Option ℕ
highest_free channels connections zero = None
highest_free channels connections (suc place) =
    if is_free channels connections place then Some place else highest_free channels connections place

abbrev pub or_busy : Option ℕ → Result ℕ ℕ
or_busy None = Err number_busy
or_busy (Some place) = Ok place

-- while the line is not in r1, no channel is free
abbrev pub free_in : LineState → List ChannelState → List Connection → Result ℕ ℕ
free_in line_is.Ready channels connections =
    or_busy (highest_free channels connections (min (length channels) 255))
free_in state channels connections = Err out_of_order

-- a packet of the line on a channel whose call has no connection
abbrev pub alone_heard : ContentValue → ChannelState → ChannelState
alone_heard (ClearRequest cause diagnostic) Ready = ToConfirm
alone_heard (ClearRequest cause diagnostic) (ToClear own) = ToConfirm
alone_heard (ClearRequest cause diagnostic) Clearing = Ready
alone_heard ClearConfirmation Clearing = Ready
alone_heard content state = state

abbrev pub is_call : ContentValue → Bool
is_call (CallRequest c) = true
is_call content = false

abbrev pub absent_one : Connection → Bool
absent_one c = is_absent c.socket

-- ---- a packet of the line on the channel of a place

pub record Tables : Type 0 where
  pub channels : List ChannelState
  pub connections : List Connection

abbrev pub taken : (place : ℕ) → Option ChannelState → List ChannelState → List ChannelState
taken place None channels = channels
taken place (Some state) channels = set channels place state

-- a Call on a free channel gets a connection, or is cleared with cause 1 if there is none for it
abbrev pub with_call : XotLine → ContentValue → (octets : List ℕ) → (place : ℕ) → Tables → Option ℕ → Tables
with_call line content octets place t None = record t { channels = set t.channels place (ToClear number_busy) }
with_call line content octets place t (Some number) = record {
  channels = taken place (called line content octets place).leaves t.channels;
  connections = set t.connections number (called line content octets place).connection;
}

abbrev pub leaves_at : XotLine → ContentValue → (octets : List ℕ) → (place : ℕ) → Option Connection → Option ChannelState
leaves_at line content octets place None = None
leaves_at line content octets place (Some c) = (heard_on line content octets place c).leaves

abbrev pub heard_at : XotLine → ContentValue → (octets : List ℕ) → (place number : ℕ) → Tables → Tables
heard_at line content octets place number t = record {
  channels = taken place (leaves_at line content octets place (slice_get t.connections number)) t.channels;
  connections = changed_at number (λ c. (heard_on line content octets place c).connection) t.connections;
}

-- the connection of a call hears it alone; without one, the channel does
abbrev pub with_packet : XotLine → ContentValue → (octets : List ℕ) → (place : ℕ) → Tables → Option ℕ → Tables
with_packet line content octets place t (Some number) = heard_at line content octets place number t
with_packet line content octets place t None =
    if is_call content && is_ready (slice_get t.channels place)
    then with_call line content octets place t (position absent_one t.connections)
    else record t { channels = changed_at place (alone_heard content) t.channels }

abbrev pub on_channel : XotLine → ContentValue → (octets : List ℕ) → (place : ℕ) → Tables → Tables
on_channel line content octets place t = with_packet line content octets place t (position (is_on place) t.connections)

-- ---- restart (X.25 3)

-- after a Restart of the line, and whether its calls end by it: one in r2 is a confirmation
abbrev pub after_restart : LineState → LineState
after_restart line_is.Down = line_is.Down
after_restart line_is.Restarting = line_is.Ready
after_restart _ = line_is.ToConfirm

-- after a Restart Confirmation, which is an error but in r2
abbrev pub after_confirmation : LineState → LineState
after_confirmation line_is.Restarting = line_is.Ready
after_confirmation line_is.Ready = line_is.ToRestart
after_confirmation state = state

abbrev pub ends_calls : (before after : LineState) → Bool
ends_calls line_is.Restarting after = false
ends_calls before line_is.ToConfirm = true
ends_calls before line_is.ToRestart = true
ends_calls before after = false

-- ---- what each call of the gateway does

-- each connection changes so
pub record AllChange (change : Connection → Connection) (before after : List Connection) : Type 0 where
  pub count : length after ≡ length before
  pub each : (number : ℕ) (c : Connection) → slice_get before number ≡ Some c → slice_get after number ≡ Some (change c)

-- as made
pub record IsMade (line : XotLine) (channels connections : ℕ) (calls : XotCalls) : Type 0 where
  pub same_line : calls.line ≡ line
  pub down : calls.state ≡ line_is.Down
  pub no_call : calls.channels.items ≡ replicate channels Ready
  pub none_there : calls.connections.items ≡ replicate connections absent

abbrev pub is_line_ready : LineState → Bool
is_line_ready line_is.Ready = true
is_line_ready state = false

abbrev pub tables : XotCalls → Tables
tables calls = record { channels = calls.channels.items; connections = calls.connections.items }

-- the line, its state and its channels stay
pub record OthersStay (before after : XotCalls) : Type 0 where
  pub line : after.line ≡ before.line
  pub state : after.state ≡ before.state
  pub channels : after.channels.items ≡ before.channels.items

-- each call is cleared with cause 9, and no channel owes the line anything
pub record AllEnd (state : LineState) (before after : XotCalls) : Type 0 where
  pub line : after.line ≡ before.line
  pub state_is : after.state ≡ state
  pub channels : after.channels.items ≡ replicate (length before.channels.items) Ready
  pub connections : AllChange (restarted before.line) before.connections.items after.connections.items

abbrev pub RestartsBy : (ends : Bool) → LineState → (before after : XotCalls) → Type 0
RestartsBy true state before after = AllEnd state before after
RestartsBy false state before after = after ≡ record before { state = state }

abbrev pub Restarts : LineState → (before after : XotCalls) → Type 0
Restarts state before after = RestartsBy (ends_calls before.state state) state before after

-- a packet on the channel of a place
pub record HearsOn (place : ℕ) (content : ContentValue) (octets : List ℕ) (before after : XotCalls) : Type 0 where
  pub line : after.line ≡ before.line
  pub state : after.state ≡ before.state
  pub channels : after.channels.items ≡ (on_channel before.line content octets place (tables before)).channels
  pub connections : after.connections.items ≡ (on_channel before.line content octets place (tables before)).connections

-- what a Restart or its confirmation leaves, if it is one
abbrev pub state_after : LineState → ContentValue → Option LineState
state_after state (RestartRequest cause diagnostic) = Some (after_restart state)
state_after state RestartConfirmation = Some (after_confirmation state)
state_after state content = None

-- packets of calls are heard in r1 alone
abbrev pub heard_place : LineState → (channel : ℕ) → Option ℕ
heard_place line_is.Ready channel = place_of channel
heard_place state channel = None

abbrev pub HearsAt : Option ℕ → ContentValue → (octets : List ℕ) → (before after : XotCalls) → Type 0
HearsAt None content octets before after = after ≡ before
HearsAt (Some place) content octets before after = HearsOn place content octets before after

abbrev pub HearsBy : Option LineState → ContentValue → (channel : ℕ) → (octets : List ℕ) → (before after : XotCalls) → Type 0
HearsBy (Some state) content channel octets before after = Restarts state before after
HearsBy None content channel octets before after =
    HearsAt (heard_place before.state channel) content octets before after

abbrev pub HearsContent : ContentValue → (channel : ℕ) → (octets : List ℕ) → (before after : XotCalls) → Type 0
HearsContent content channel octets before after =
    HearsBy (state_after before.state content) content channel octets before after

-- octets that are no packet are dropped
abbrev pub Hears : (octets : List ℕ) → Result PacketValue PacketFault → (before after : XotCalls) → Type 0
Hears octets (Ok p) before after = HearsContent p.content p.channel octets before after
Hears octets (Err fault) before after = after ≡ before

abbrev pub attached : Option ℕ → List Connection → List Connection
attached None connections = connections
attached (Some number) connections = set connections number fresh

abbrev pub come : List ℕ → Connection → Connection
come octets c = if listens c then with_octets octets c else c

-- a connection is lost: its call is cleared on the line
abbrev pub lost_by : Option Connection → List ChannelState → List ChannelState
lost_by None channels = channels
lost_by (Some c) channels = left_by c.call (alone_after c.call) channels

pub record Loses (number : ℕ) (before after : XotCalls) : Type 0 where
  pub line : after.line ≡ before.line
  pub state : after.state ≡ before.state
  pub channels : after.channels.items ≡ lost_by (slice_get before.connections.items number) before.channels.items
  pub connections : after.connections.items ≡ changed_at number (λ _. absent) before.connections.items

-- the next packet of a connection is taken, if the whole of it came
abbrev pub free_of : XotCalls → Result ℕ ℕ
free_of calls = free_in calls.state calls.channels.items calls.connections.items

abbrev pub served_at : ℕ → XotCalls → Option Serving
served_at number calls =
    option_and_then (λ c. next_served calls.line (free_of calls) c) (slice_get calls.connections.items number)

abbrev pub served_by : Option Connection → Option Serving → List ChannelState → List ChannelState
served_by (Some c) (Some s) channels = left_by c.call s.leaves channels
served_by c s channels = channels

abbrev pub work_of : Option Serving → Work
work_of None = work.Nothing
work_of (Some s) = if is_some s.packet then work.Sends else work.Taken

pub record Serves (number : ℕ) (answer : Work) (old new : List ℕ) (before after : XotCalls) : Type 0 where
  pub line : after.line ≡ before.line
  pub state : after.state ≡ before.state
  pub channels : after.channels.items ≡ served_by (slice_get before.connections.items number) (served_at number before) before.channels.items
  pub connections : after.connections.items
      ≡ changed_at number (λ c. next_connection c (next_served before.line (free_of before) c)) before.connections.items
  pub out : new ≡ next_packet old (served_at number before)
  pub answered : answer ≡ work_of (served_at number before)

-- ---- what the gateway owes to the line

abbrev pub owes : ChannelState → Bool
owes (ToClear cause) = true
owes ToConfirm = true
owes state = false

abbrev pub within_octet : ℕ → Option ℕ
within_octet place = if nat_lt place 256 then Some place else None

abbrev pub first_owed : List ChannelState → Option ℕ
first_owed channels = option_and_then within_octet (position owes channels)

abbrev pub paid : ChannelState → ChannelState
paid (ToClear cause) = Clearing
paid ToConfirm = Ready
paid state = state

abbrev pub with_paid : Option ℕ → List ChannelState → List ChannelState
with_paid None channels = channels
with_paid (Some place) channels = changed_at place paid channels

abbrev pub owed_in : XotLine → (place : ℕ) → Option ChannelState → (old : List ℕ) → List ℕ
owed_in line place (Some (ToClear cause)) old = clear_on line place cause
owed_in line place (Some ToConfirm) old = confirmation_on line place
owed_in line place state old = old

abbrev pub owed_packet : XotLine → Option ℕ → List ChannelState → (old : List ℕ) → List ℕ
owed_packet line None channels old = old
owed_packet line (Some place) channels old = owed_in line place (slice_get channels place) old

pub record PaysChannel (answer : Bool) (old new : List ℕ) (before after : XotCalls) : Type 0 where
  pub line : after.line ≡ before.line
  pub state : after.state ≡ before.state
  pub connections : after.connections.items ≡ before.connections.items
  pub channels : after.channels.items ≡ with_paid (first_owed before.channels.items) before.channels.items
  pub out : new ≡ owed_packet before.line (first_owed before.channels.items) before.channels.items old
  pub answered : answer ≡ is_some (first_owed before.channels.items)

pub record PaysLine (state : LineState) (packet : List ℕ) (answer : Bool) (new : List ℕ) (before after : XotCalls) : Type 0 where
  pub changed_to : after ≡ record before { state = state }
  pub out : new ≡ packet
  pub answered : answer ≡ true

pub record PaysNothing (answer : Bool) (old new : List ℕ) (before after : XotCalls) : Type 0 where
  pub same : after ≡ before
  pub out : new ≡ old
  pub answered : answer ≡ false

-- a Restart or its confirmation, else what the first channel owes
abbrev pub PaysIn : LineState → (answer : Bool) → (old new : List ℕ) → (before after : XotCalls) → Type 0
PaysIn line_is.Down answer old new before after = PaysNothing answer old new before after
PaysIn line_is.Restarting answer old new before after = PaysNothing answer old new before after
PaysIn line_is.ToRestart answer old new before after =
    PaysLine line_is.Restarting (restart_of before.line) answer new before after
PaysIn line_is.ToConfirm answer old new before after =
    PaysLine line_is.Ready (restart_confirmation_of before.line) answer new before after
PaysIn line_is.Ready answer old new before after = PaysChannel answer old new before after

abbrev pub PaysOwed : (answer : Bool) → (old new : List ℕ) → (before after : XotCalls) → Type 0
PaysOwed answer old new before after = PaysIn before.state answer old new before after

-- ---- what is to be done with connections

abbrev pub is_wish : Wish → Bool
is_wish wish.Rests = false
is_wish some = true

abbrev pub has_wish : Connection → Bool
has_wish c = is_wish (wished c)

abbrev pub order_for : (number : ℕ) → Wish → Option Order
order_for number wish.Rests = None
order_for number wish.Connects = Some (order.Connect number)
order_for number wish.Closes = Some (order.Close number)

abbrev pub order_at : Option ℕ → List Connection → Option Order
order_at None connections = None
order_at (Some number) connections = option_and_then (λ c. order_for number (wished c)) (slice_get connections number)

-- that of the first one that something is to be done with
abbrev pub order_among : List Connection → Option Order
order_among connections = order_at (position has_wish connections) connections

abbrev pub granted_at : Option ℕ → List Connection → List Connection
granted_at None connections = connections
granted_at (Some number) connections = changed_at number (λ c. granted (wished c) c) connections

abbrev pub ordered : List Connection → List Connection
ordered connections = granted_at (position has_wish connections) connections

-- the channel of a call whose connection is closed before its end
abbrev pub left_at : Option Connection → List ChannelState → List ChannelState
left_at None channels = channels
left_at (Some c) channels = left_by c.call (leaves_when (wished c) c.call) channels

abbrev pub granted_channels : Option ℕ → List Connection → List ChannelState → List ChannelState
granted_channels None connections channels = channels
granted_channels (Some number) connections channels = left_at (slice_get connections number) channels
