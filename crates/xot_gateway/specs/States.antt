-- What a packet becomes, by the phase of its call (X.25 4.1 to 4.4 and Annex B).
use Rattle.std.specs.Prelude.{Bool, true, false, if◌then◌else◌}
use Rattle.packet_codec.specs.Packet.{ContentValue, CallAccepted, ClearRequest, ClearConfirmation, Data, Interrupt, InterruptConfirmation, ReceiveReady, ReceiveNotReady, ResetRequest, ResetConfirmation}
use Rattle.xot_gateway.specs.declared.states.Phase.{Phase}
use Rattle.xot_gateway.specs.declared.states.Phase.TheVariants.{DteWaiting, DceWaiting, DataTransfer, DteClear, DceClear}
use Rattle.xot_gateway.specs.declared.states.Refusal.TheVariants.{Facilities, Procedure}
use Rattle.xot_gateway.specs.declared.states.Move.{Move}
use Rattle.xot_gateway.specs.declared.states.Move.TheVariants.{Drops, Passes, Confirms, Refuses}

-- Data, flow control, interrupts and resets
abbrev pub is_transfer : ContentValue → Bool
is_transfer (Data d) = true
is_transfer (Interrupt octets) = true
is_transfer InterruptConfirmation = true
is_transfer (ReceiveReady receive) = true
is_transfer (ReceiveNotReady receive) = true
is_transfer (ResetRequest cause diagnostic) = true
is_transfer ResetConfirmation = true
is_transfer _ = false

-- in p4 those pass, and nothing else but a Clear
abbrev pub transfer_move : (other : Move) → ContentValue → Move
transfer_move other content = if is_transfer content then Passes DataTransfer else other

-- a Clear or a Clear Confirmation ends a call that is being cleared, and nothing else comes through
abbrev pub clearing_move : ContentValue → Move
clearing_move (ClearRequest cause diagnostic) = Confirms
clearing_move ClearConfirmation = Confirms
clearing_move _ = Drops

-- a packet of the line: a call that is not cleared is cleared by a Clear
abbrev pub line_move : Phase → ContentValue → Move
line_move DceClear content = Drops
line_move DteClear content = clearing_move content
line_move DteWaiting (ClearRequest cause diagnostic) = Passes DceClear
line_move DteWaiting CallAccepted = Passes DataTransfer
line_move DteWaiting content = Drops
line_move DceWaiting (ClearRequest cause diagnostic) = Passes DceClear
line_move DceWaiting content = Drops
line_move DataTransfer (ClearRequest cause diagnostic) = Passes DceClear
line_move DataTransfer content = transfer_move Drops content

-- a packet of the connection, where the facilities of a Call Accepted are carried or not
abbrev pub connection_move : Phase → (carried : Bool) → ContentValue → Move
connection_move DteClear carried content = Drops
connection_move DceClear carried content = clearing_move content
connection_move DteWaiting carried (ClearRequest cause diagnostic) = Passes DteClear
connection_move DteWaiting carried content = Refuses Procedure
connection_move DceWaiting carried (ClearRequest cause diagnostic) = Passes DteClear
connection_move DceWaiting carried CallAccepted = if carried then Passes DataTransfer else Refuses Facilities
connection_move DceWaiting carried content = Refuses Procedure
connection_move DataTransfer carried (ClearRequest cause diagnostic) = Passes DteClear
connection_move DataTransfer carried content = transfer_move (Refuses Procedure) content

-- octets of the connection that are no packet
abbrev pub fault_move : Phase → Move
fault_move DteClear = Drops
fault_move DceClear = Drops
fault_move _ = Refuses Procedure
