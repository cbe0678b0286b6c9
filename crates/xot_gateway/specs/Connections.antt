-- A connection and its call, and what happens to them (RFC 1613): one call, one connection.
use Rattle.std.specs.Prelude.{is_some, unwrap_or, ℕ, Bool, true, false, ◌&&◌, ◌==◌, not, List, ◌∷◌, ◌++◌, length, drop, is_none, Option, Some, None, Result, Ok, Err, if◌then◌else◌}
use Rattle.link_timers.specs.Timers.{lowered, is_due}
use Rattle.packet_codec.specs.ClearCause.{invalid_facility, out_of_order, remote_procedure_error, local_procedure_error}
use Rattle.packet_codec.specs.declared.fault.PacketFault.{PacketFault}
use Rattle.packet_codec.specs.Packet.{PacketValue, ContentValue, CallRequest, ClearRequest, ClearConfirmation}
use Rattle.xot_codec.specs.declared.facilities.LineFlow.{LineFlow}
use Rattle.xot_codec.specs.Facilities.{refusal}
use Rattle.xot_codec.specs.Xot as xot
use Rattle.xot_codec.specs.Xot.{First, part, whole, first_packet, new_stream, packet_form, takes_packet}
use Rattle.xot_gateway.specs.declared.line.XotLine.{XotLine}
use Rattle.xot_gateway.specs.declared.states.Phase.{Phase}
use Rattle.xot_gateway.specs.declared.states.Phase.TheVariants.{DteWaiting, DceWaiting, DteClear, DceClear}
use Rattle.xot_gateway.specs.declared.states.Refusal.{Refusal}
use Rattle.xot_gateway.specs.declared.states.Refusal.TheVariants.{Facilities, Procedure}
use Rattle.xot_gateway.specs.declared.states.Move.{Move}
use Rattle.xot_gateway.specs.declared.states.Move.TheVariants.{Drops, Passes, Confirms, Refuses}
use Rattle.xot_gateway.specs.declared.states.ChannelState.{ChannelState}
use Rattle.xot_gateway.specs.declared.states.ChannelState.TheVariants.{Ready, ToClear, Clearing, ToConfirm}
use Rattle.xot_gateway.specs.declared.states.FirstMove.{FirstMove}
use Rattle.xot_gateway.specs.declared.states.FirstMove.TheVariants as first_is
use Rattle.xot_gateway.specs.declared.connection.Connection.{Connection}
use Rattle.xot_gateway.specs.declared.connection.Socket.{Socket}
use Rattle.xot_gateway.specs.declared.connection.Socket.TheVariants.{Absent, Wanted, Opening, Standing}
use Rattle.xot_gateway.specs.declared.connection.ConnectionCall.{ConnectionCall}
use Rattle.xot_gateway.specs.declared.connection.ConnectionCall.TheVariants.{NoCall, Call, Cleared, Confirmed, Ending, Broken}
use Rattle.xot_gateway.specs.declared.connection.Served as code
use Rattle.xot_gateway.specs.declared.connection.Wish.{Wish}
use Rattle.xot_gateway.specs.declared.connection.Wish.TheVariants.{Rests, Connects, Closes}
use Rattle.xot_gateway.specs.States.{line_move, connection_move, fault_move}
use Rattle.xot_gateway.specs.Packets.{read_on, prepared, accepted_facilities, over_line, over_connection, clear_on, confirmation_on}

-- how long the other side may take where it is to act: a minute
abbrev pub peer_ticks : ℕ
peer_ticks = 1200

abbrev pub absent : Connection
absent = record { socket = Absent; call = NoCall; left = None; stream = new_stream }

-- one that came, and is to bring a Call
abbrev pub fresh : Connection
fresh = record { socket = Standing; call = NoCall; left = Some peer_ticks; stream = new_stream }

-- one that is wanted for a Call of the line
abbrev pub wanted : Connection
wanted = record { socket = Wanted; call = NoCall; left = None; stream = new_stream }

-- the other side is to act in p7 alone
abbrev pub left_in : Phase → Option ℕ
left_in DceClear = Some peer_ticks
left_in _ = None

abbrev pub in_phase : Connection → (place : ℕ) → Phase → Connection
in_phase c place phase = record c { call = Call place phase; left = left_in phase }

-- the call has ended, and the other side is to act
abbrev pub after_call : Connection → ConnectionCall → Connection
after_call c state = record c { call = state; left = Some peer_ticks }

-- nothing more is written
abbrev pub broken : Connection → Connection
broken c = record c { call = Broken; left = None }

-- a packet is added to what is written; without room for it the connection is broken
abbrev pub told : Connection → List ℕ → Connection
told c octets =
    if takes_packet c.stream octets
    then record c { stream = record c.stream { output = c.stream.output ++ packet_form octets } }
    else broken c

-- ---- the channel of a call whose connection is gone

-- a call is cleared with cause 9, out of order; a Clear that went to the line is still to be confirmed there, and one
-- of the line is confirmed
abbrev pub alone_in : Phase → ChannelState
alone_in DteClear = Clearing
alone_in DceClear = ToConfirm
alone_in _ = ToClear out_of_order

abbrev pub alone_after : ConnectionCall → Option ChannelState
alone_after (Call place phase) = Some (alone_in phase)
alone_after _ = None

-- ---- a packet of the line on the channel of the call

-- the connection after it, and what its channel is in if it has no connection any more
pub record Step : Type 0 where
  pub connection : Connection
  pub leaves : Option ChannelState

abbrev pub stays : Connection → Step
stays c = record { connection = c; leaves = None }

abbrev pub heard_by : XotLine → ContentValue → (octets : List ℕ) → (place : ℕ) → Connection → Move → Step
heard_by line content octets place c (Passes phase) =
    let next = in_phase c place phase in
    let packet = over_connection line.flow content octets in record {
      connection = told next packet;
      leaves = if takes_packet next.stream packet then None else Some (alone_in phase);
    }
heard_by line content octets place c Confirms =
    record { connection = told (after_call c Confirmed) (confirmation_on line place); leaves = Some Ready }
heard_by line content octets place c _ = stays c

abbrev pub heard : XotLine → ContentValue → (octets : List ℕ) → (place : ℕ) → Phase → Connection → Step
heard line content octets place phase c = heard_by line content octets place c (line_move phase content)

abbrev pub heard_in : XotLine → ContentValue → (octets : List ℕ) → (place : ℕ) → Connection → ConnectionCall → Step
heard_in line content octets place c (Call own phase) = heard line content octets place phase c
heard_in line content octets place c _ = stays c

abbrev pub heard_on : XotLine → ContentValue → (octets : List ℕ) → (place : ℕ) → Connection → Step
heard_on line content octets place c = heard_in line content octets place c c.call

-- a Call of the line on a free channel
abbrev pub called : XotLine → ContentValue → (octets : List ℕ) → (place : ℕ) → Step
called line content octets place = heard_by line content octets place wanted (Passes DceWaiting)

-- ---- a packet of the connection

-- the connection after it, what goes to the line, and what its channel is in if it has no connection any more
pub record Serving : Type 0 where
  pub connection : Connection
  pub packet : Option (List ℕ)
  pub leaves : Option ChannelState

abbrev pub quiet : Connection → Serving
quiet c = record { connection = c; packet = None; leaves = None }

-- the code's answer: whether a packet goes to the line, and what its channel is in
abbrev pub answer_of : Serving → code.Served
answer_of s = record { sends = is_some s.packet; leaves = s.leaves }

-- what the place of a packet for the line has then
abbrev pub packet_after : (old : List ℕ) → Serving → List ℕ
packet_after old s = unwrap_or s.packet old

abbrev pub cause_at_connection : Refusal → ℕ
cause_at_connection Facilities = invalid_facility
cause_at_connection Procedure = local_procedure_error

abbrev pub cause_at_line : Refusal → ℕ
cause_at_line Facilities = invalid_facility
cause_at_line Procedure = remote_procedure_error

-- the call is cleared on both sides
abbrev pub refused : XotLine → (place : ℕ) → Connection → Refusal → Serving
refused line place c refusal = record {
  connection = told (after_call c Cleared) (clear_on line place (cause_at_connection refusal));
  packet = None;
  leaves = Some (ToClear (cause_at_line refusal));
}

abbrev pub served_by : XotLine → ContentValue → (octets : List ℕ) → (place : ℕ) → Connection → Move → Serving
served_by line content octets place c (Passes phase) =
    record { connection = in_phase c place phase; packet = Some (over_line content octets); leaves = None }
served_by line content octets place c Confirms =
    record { connection = after_call c Ending; packet = Some (confirmation_on line place); leaves = Some Ready }
served_by line content octets place c (Refuses refusal) = refused line place c refusal
served_by line content octets place c Drops = quiet c

-- octets that are no packet
abbrev pub faulty : XotLine → (place : ℕ) → Connection → Move → Serving
faulty line place c (Refuses refusal) = refused line place c refusal
faulty line place c move = quiet c

abbrev pub in_call : XotLine → (place : ℕ) → Phase → (octets : List ℕ) → Connection → Result PacketValue PacketFault → Serving
in_call line place phase octets c (Ok p) =
    served_by line p.content octets place c
    (connection_move phase (is_none (refusal line.flow (accepted_facilities octets))) p.content)
in_call line place phase octets c (Err fault) = faulty line place c (fault_move phase)

-- the first packet of a connection is to be a Call, for which there is a free place, or a cause why not. PVC set-up
-- (F5) is not carried
abbrev pub called_at : Result ℕ ℕ → FirstMove
called_at (Ok place) = first_is.Calls place
called_at (Err cause) = first_is.Clears cause

abbrev pub is_pvc_set_up : (octets : List ℕ) → Bool
is_pvc_set_up (first ∷ second ∷ third ∷ rest) = third == 0xf5
is_pvc_set_up octets = false

abbrev pub first_content : LineFlow → (free : Result ℕ ℕ) → ContentValue → FirstMove
first_content flow free (CallRequest c) =
    if is_none (refusal flow c.facilities) then called_at free else first_is.Clears invalid_facility
first_content flow free (ClearRequest cause diagnostic) = first_is.Confirms
first_content flow free content = first_is.Clears local_procedure_error

abbrev pub first_move : LineFlow → (free : Result ℕ ℕ) → (octets : List ℕ) → Result PacketValue PacketFault → FirstMove
first_move flow free octets (Ok p) = first_content flow free p.content
first_move flow free octets (Err fault) =
    if is_pvc_set_up octets then first_is.Clears invalid_facility else first_is.Clears local_procedure_error

abbrev pub opened_by : XotLine → (octets : List ℕ) → Result PacketValue PacketFault → Connection → FirstMove → Serving
opened_by line octets (Ok p) c (first_is.Calls place) =
    record { connection = in_phase c place DteWaiting; packet = Some (over_line p.content octets); leaves = None }
opened_by line octets (Err fault) c (first_is.Calls place) = quiet c
opened_by line octets read c (first_is.Clears cause) =
    quiet (told (after_call c Cleared) (clear_on line 0 cause))
opened_by line octets read c first_is.Confirms = quiet (told (after_call c Confirmed) (confirmation_on line 0))

abbrev pub first_served : XotLine → (free : Result ℕ ℕ) → (octets : List ℕ) → Connection → Serving
first_served line free octets c =
    let read = read_on line octets in opened_by line octets read c (first_move line.flow free octets read)

-- a Clear or its confirmation ends what the gateway cleared
abbrev pub ends : ContentValue → Bool
ends (ClearRequest cause diagnostic) = true
ends ClearConfirmation = true
ends _ = false

abbrev pub is_end : Result PacketValue PacketFault → Bool
is_end (Ok p) = ends p.content
is_end (Err fault) = false

-- the packet that came, prepared, by what the call is in
abbrev pub served_in : XotLine → (free : Result ℕ ℕ) → (octets : List ℕ) → Connection → ConnectionCall → Serving
served_in line free octets c NoCall = first_served line free octets c
served_in line free octets c (Call place phase) = in_call line place phase octets c (read_on line octets)
served_in line free octets c Cleared = quiet (if is_end (read_on line octets) then after_call c Ending else c)
served_in line free octets c _ = quiet c

-- the place of its channel: that of its call, or the free one
abbrev pub place_in : Result ℕ ℕ → ConnectionCall → ℕ
place_in free (Call place phase) = place
place_in (Ok place) state = place
place_in (Err cause) state = 0

abbrev pub served : XotLine → (free : Result ℕ ℕ) → (packet : List ℕ) → Connection → Serving
served line free packet c = served_in line free (prepared (place_in free c.call) packet) c c.call

-- ---- what came next

abbrev pub with_rest : List ℕ → Connection → Connection
with_rest rest c = record c { stream = record c.stream { input = rest } }

-- the first packet of what came, if the whole of it is there; octets of no packet break the connection
abbrev pub by_first : XotLine → (free : Result ℕ ℕ) → Connection → First → Option Serving
by_first line free c part = None
by_first line free c (whole packet rest) = Some (served line free packet (with_rest rest c))
by_first line free c (xot.broken fault) =
    Some (record { connection = broken c; packet = None; leaves = alone_after c.call })

abbrev pub next_served : XotLine → (free : Result ℕ ℕ) → Connection → Option Serving
next_served line free c = by_first line free c (first_packet c.stream.input)

abbrev pub next_connection : Connection → Option Serving → Connection
next_connection c None = c
next_connection c (Some s) = s.connection

abbrev pub next_answer : Option Serving → Option code.Served
next_answer None = None
next_answer (Some s) = Some (answer_of s)

abbrev pub next_packet : (old : List ℕ) → Option Serving → List ℕ
next_packet old None = old
next_packet old (Some s) = packet_after old s

-- ---- the connection itself

abbrev pub has_use : ConnectionCall → Bool
has_use NoCall = true
has_use (Call place phase) = true
has_use Cleared = true
has_use _ = false

abbrev pub is_broken : ConnectionCall → Bool
is_broken Broken = true
is_broken _ = false

abbrev pub is_at : (place : ℕ) → ConnectionCall → Bool
is_at place (Call own phase) = own == place
is_at place _ = false

-- it has a call on the channel of this place
abbrev pub is_on : (place : ℕ) → Connection → Bool
is_on place c = is_at place c.call

abbrev pub is_absent : Socket → Bool
is_absent Absent = true
is_absent _ = false

abbrev pub is_standing : Socket → Bool
is_standing Standing = true
is_standing _ = false

abbrev pub opened_from : Socket → Connection → Connection
opened_from Opening c = record c { socket = Standing }
opened_from _ c = c

-- what comes is of use
abbrev pub listens : Connection → Bool
listens c = is_standing c.socket && has_use c.call

-- what waits is to be written
abbrev pub writes : Connection → Bool
writes c = is_standing c.socket && not (is_broken c.call)

-- it stands
abbrev pub opened : Connection → Connection
opened c = opened_from c.socket c

-- octets came
abbrev pub with_octets : List ℕ → Connection → Connection
with_octets octets c = record c { stream = record c.stream { input = c.stream.input ++ octets } }

-- octets were written
abbrev pub written : (count : ℕ) → Connection → Connection
written count c = record c { stream = record c.stream { output = drop count c.stream.output } }

-- the line restarts: a call is cleared with cause 9, out of order; a Clear of the connection is confirmed, and one that
-- went to the connection stands
abbrev pub restarted_in : XotLine → Connection → ConnectionCall → Connection
restarted_in line c (Call place DteClear) = told (after_call c Confirmed) (confirmation_on line place)
restarted_in line c (Call place DceClear) = record c { call = Cleared }
restarted_in line c (Call place phase) = told (after_call c Cleared) (clear_on line place out_of_order)
restarted_in line c _ = c

abbrev pub restarted : XotLine → Connection → Connection
restarted line c = restarted_in line c c.call

-- ticks pass
abbrev pub elapsed : (ticks : ℕ) → Connection → Connection
elapsed ticks c = record c { left = lowered ticks c.left }

-- ---- what is to be done with it

-- it is closed if the other side was to act and did not, if it is broken, and if its call has ended and all is written
abbrev pub wish_in : Socket → (due written_out : Bool) → ConnectionCall → Wish
wish_in Absent due written_out state = Rests
wish_in socket true written_out state = Closes
wish_in socket false written_out Broken = Closes
wish_in Standing false written_out Ending = if written_out then Closes else Rests
wish_in socket false written_out Ending = Closes
wish_in Wanted false written_out state = Connects
wish_in socket false written_out state = Rests

abbrev pub wished : Connection → Wish
wished c = wish_in c.socket (is_due c.left) (length c.stream.output == 0) c.call

-- what the channel of the call is in then, if there is a call
abbrev pub leaves_when : Wish → ConnectionCall → Option ChannelState
leaves_when Closes state = alone_after state
leaves_when wish state = None

abbrev pub granted : Wish → Connection → Connection
granted Rests c = c
granted Connects c = record c { socket = Opening }
granted Closes c = absent
