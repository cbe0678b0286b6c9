-- The packet layer follows the state tables: clause by clause, what its machine does where a table has a row.
use Rattle.std.specs.Prelude.{◌≡◌, ◌≢◌, ◌↔◌, ℕ, true, false, Some, None, IsSome}
use Rattle.link_timers.specs.declared.role.Role.{Role}
use Rattle.call_states.specs.declared.table.CallNote.TheVariants.{InDataTransfer}
use Rattle.call_states.specs.declared.table.CallStep.{CallStep}
use Rattle.call_states.specs.declared.table.UserAct.{UserAct}
use Rattle.call_states.specs.declared.table.UserAct.TheVariants as acts
use Rattle.reset_restart.specs.declared.reset.ResetEvent.TheVariants.{UserReset}
use Rattle.reset_restart.specs.declared.reset.ResetStep.{ResetStep}
use Rattle.reset_restart.specs.declared.restart.RestartState.{RestartState}
use Rattle.reset_restart.specs.declared.restart.RestartStep.{RestartStep}
use Rattle.reset_restart.specs.Restart.{restart_step}
use Rattle.packet_codec.specs.declared.packet_type.PacketType.{PacketType}
use Rattle.packet_codec.specs.Reading.{is_on_channel}
use Rattle.data_transfer.specs.Packets.{CallParts, Body, Packet, Received}
use Rattle.data_transfer.specs.Packets.Received.{Whole}
use Rattle.data_transfer.specs.Traffic.{hears}
use Rattle.packet_channel.specs.Channel.{Channel, Step, Request, after_heard}
use Rattle.packet_layer.specs.Layer.{Phase, Layer, channel_of, channel_given, after_step, unread, on_packet, call}
use Rattle.packet_layer.specs.Layer.{request, request_refusal}
use Rattle.packet_laws.specs.Tables.States.{call_state, restart_state, type_of, channel_named, body_read, call_act}
use Rattle.packet_laws.specs.Tables.States.{packet_asked}
use Rattle.packet_laws.specs.Tables.Rows.{act_row, call_row, reset_row, reset_row_of}
use Rattle.packet_laws.specs.Tables.Notes.{TellsTransfer}
use Rattle.packet_laws.specs.Tables.Follows.{FollowsCall, FollowsReset, FollowsRestart}

-- ---- packets on a channel

-- in r1, something comes on a channel of the line
pub record ComesOn (l : Layer) (r : Received) (ch : Channel) : Type 0 where
  pub ready : l.phase ≡ Phase.PacketReady
  pub found : channel_of l (channel_named r) ≡ Some ch

-- the layer drops the notes that nobody read and makes a step of the channel, of which P holds. What the step owes
-- comes behind what is owed already; a fifth packet is dropped, and asks for a relink
abbrev pub Steps : Layer → Received → (Step → Type 0) → Type 0
Steps l r P = (done : Step) × (on_packet l r ≡ after_step (unread l) (channel_named r) done) × P done

-- whatever comes meets a row of the call table, in every state
abbrev pub EachPacket : Type 0
EachPacket = (role : Role) (ch : Channel) (r : Received) → IsSome (call_row role ch r)

-- a row of the reset table is followed
abbrev pub ResetPackets : Type 0
ResetPackets =
    (l : Layer) (r : Received) (ch : Channel) (row : ResetStep) → ComesOn l r ch → reset_row l.role ch r ≡ Some row
    → Steps l r (λ done. FollowsReset l.role (channel_named r) (body_read r) ch row done)

-- where there is none, the row of the call table is followed
abbrev pub CallPackets : Type 0
CallPackets =
    (l : Layer) (r : Received) (ch : Channel) (row : CallStep) → ComesOn l r ch
    → reset_row l.role ch r ≡ None → call_row l.role ch r ≡ Some row → row.note ≢ InDataTransfer
    → Steps l r (λ done. FollowsCall l.role (channel_named r) (body_read r) ch row done)

-- or, where that row leaves the packet to data transfer, numbers and interrupts decide, in the state of the row. It is
-- told which packets are covered further, that the interrupt is confirmed, and a reset by a procedure error
abbrev pub DataPackets : Type 0
DataPackets =
    (l : Layer) (p : Packet) (ch : Channel) (row : CallStep) → ComesOn l (Whole p) ch
    → reset_row l.role ch (Whole p) ≡ None → call_row l.role ch (Whole p) ≡ Some row → row.note ≡ InDataTransfer
    → Steps l (Whole p) (λ done. (done ≡ after_heard l.role p.channel ch (hears l.flow ch.traffic p.body))
    × (call_state l.role done.channel.state ≡ row.state)
    × TellsTransfer l.flow p.channel ch.traffic p.body done)

-- ---- what the user does

-- the channel that a call is given has a row for it, which is followed
abbrev pub CallsPlaced : Type 0
CallsPlaced =
    (l : Layer) (parts : CallParts) (c : ℕ) → channel_given l l.phase ≡ Some c
    → (ch : Channel) × (row : CallStep) × (done : Step) × (channel_of l c ≡ Some ch)
    × (act_row l.role ch acts.Call ≡ Some row)
    × (call l parts ≡ after_step l c done) × FollowsCall l.role c None ch row done
    × (done.owes ≡ Some (Body.Call parts))

-- an accept and a clear are refused exactly where the call table has no row for them; where it has one, it is followed,
-- and the packet owed is the one that was asked for
pub record ActsByCallTable (l : Layer) (c : ℕ) (ch : Channel) (r : Request) (act : UserAct) : Type 0 where
  pub allowed : (request_refusal l c r ≡ None) ↔ IsSome (act_row l.role ch act)
  pub follows :
      (row : CallStep) → act_row l.role ch act ≡ Some row
      → (done : Step) × (request l c r ≡ after_step l c done) × FollowsCall l.role c None ch row done
      × (done.owes ≡ packet_asked r)

abbrev pub CallActs : Type 0
CallActs =
    (l : Layer) (c : ℕ) (ch : Channel) (r : Request) (act : UserAct) → channel_of l c ≡ Some ch → call_act r ≡ Some act
    → ActsByCallTable l c ch r act

-- so is a reset, by the reset table; outside data transfer this has no row
pub record ActsByResetTable (l : Layer) (c : ℕ) (ch : Channel) (r : Request) : Type 0 where
  pub allowed : (request_refusal l c r ≡ None) ↔ IsSome (reset_row_of l.role ch UserReset)
  pub follows :
      (row : ResetStep) → reset_row_of l.role ch UserReset ≡ Some row
      → (done : Step) × (request l c r ≡ after_step l c done) × FollowsReset l.role c None ch row done
      × (done.owes ≡ packet_asked r)

abbrev pub ResetActs : Type 0
ResetActs =
    (l : Layer) (c : ℕ) (ch : Channel) (cause diagnostic : ℕ) → channel_of l c ≡ Some ch
    → ActsByResetTable l c ch (Request.Resetting cause diagnostic)

-- ---- restarts

-- a packet on the channel that its type may have: 0 for restart packets, another for all else
abbrev pub RestartPackets : Type 0
RestartPackets =
    (l : Layer) (p : Packet) (state : RestartState) (row : RestartStep)
    → is_on_channel (type_of p.body) p.channel ≡ true
    → restart_state l.role l.phase ≡ Some state → restart_step l.role state (type_of p.body) ≡ Some row
    → FollowsRestart l row (on_packet l (Whole p))

-- what cannot be read follows the row, if there is one, that a packet of another type has: in the own restart it is
-- discarded
abbrev pub RestartUnreadable : Type 0
RestartUnreadable =
    (l : Layer) (r : Received) (kind : PacketType) (state : RestartState) (row : RestartStep)
    → body_read r ≡ None → is_on_channel kind 0 ≡ false
    → restart_state l.role l.phase ≡ Some state → restart_step l.role state kind ≡ Some row
    → FollowsRestart l row (on_packet l r)
