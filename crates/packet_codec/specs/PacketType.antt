-- The types of packets as a list may have them.
use Rattle.std.specs.Prelude.{ℕ, ◌==◌, Bool, List}
use Rattle.std.specs.List.{list_any}
use Rattle.packet_codec.specs.declared.packet_type.PacketType.{PacketType}
use Rattle.packet_codec.specs.declared.packet_type.PacketType.TheVariants as types
use Rattle.packet_codec.specs.Packet.{ContentValue, CallRequest, CallAccepted, ClearRequest, ClearConfirmation, Data}
use Rattle.packet_codec.specs.Packet.{Interrupt, InterruptConfirmation, ReceiveReady, ReceiveNotReady, ResetRequest}
use Rattle.packet_codec.specs.Packet.{ResetConfirmation, RestartRequest, RestartConfirmation}

-- the type of a packet that says this
abbrev pub content_type : ContentValue → PacketType
content_type (CallRequest c) = types.CallRequest
content_type CallAccepted = types.CallAccepted
content_type (ClearRequest cause diagnostic) = types.ClearRequest
content_type ClearConfirmation = types.ClearConfirmation
content_type (Data d) = types.Data
content_type (Interrupt octets) = types.Interrupt
content_type InterruptConfirmation = types.InterruptConfirmation
content_type (ReceiveReady receive) = types.ReceiveReady
content_type (ReceiveNotReady receive) = types.ReceiveNotReady
content_type (ResetRequest cause diagnostic) = types.ResetRequest
content_type ResetConfirmation = types.ResetConfirmation
content_type (RestartRequest cause diagnostic) = types.RestartRequest
content_type RestartConfirmation = types.RestartConfirmation

abbrev pub type_number : PacketType → ℕ
type_number types.CallRequest = 1
type_number types.CallAccepted = 2
type_number types.ClearRequest = 3
type_number types.ClearConfirmation = 4
type_number types.Data = 5
type_number types.Interrupt = 6
type_number types.InterruptConfirmation = 7
type_number types.ReceiveReady = 8
type_number types.ReceiveNotReady = 9
type_number types.ResetRequest = 10
type_number types.ResetConfirmation = 11
type_number types.RestartRequest = 12
type_number types.RestartConfirmation = 13

-- one of these types
abbrev pub is_among : List PacketType → PacketType → Bool
is_among kinds kind = list_any (λ k. type_number k == type_number kind) kinds
