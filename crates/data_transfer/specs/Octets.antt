-- Packets and their octets: what the layer hears of received octets, and the octets in which a packet goes to the link.
use Rattle.std.specs.Prelude.{◌≡◌, ℕ, Bool, true, false, List, Option, Some, None, Result, Ok, Err}
use Rattle.packet_codec.specs.declared.fault.PacketFault.{PacketFault}
use Rattle.packet_codec.specs.declared.fault.PacketFault.TheVariants.{TooShort, BadFormatId, UnknownType, BadLength}
use Rattle.packet_codec.specs.declared.fault.PacketFault.TheVariants.{BadAddress, DataTooLong}
use Rattle.packet_codec.specs.Packet.{PacketValue, ContentValue, CallValue, DataValue, spelling}
use Rattle.packet_codec.specs.Packet.{ContentValue as content}
use Rattle.packet_codec.specs.Reading.{reading, named_channel}
use Rattle.data_transfer.specs.declared.flow.Flow.{Flow}
use Rattle.data_transfer.specs.Packets.{CallParts, Datum, Body, Received}
use Rattle.data_transfer.specs.Packets.{Body as body}

-- ---- packets as the codec and as the layer names them

abbrev pub parts_of : CallValue → CallParts
parts_of c = record { called = c.called; calling = c.calling; facilities = c.facilities; user_part = c.user_data }

abbrev pub value_of_parts : CallParts → CallValue
value_of_parts p = record { called = p.called; calling = p.calling; facilities = p.facilities; user_data = p.user_part }

abbrev pub datum_of : DataValue → Datum
datum_of d = record { octets = d.user_data; more = d.more; qualified = d.qualified; delivery = d.delivery }

abbrev pub value_of_datum : (send receive : ℕ) → Datum → DataValue
value_of_datum send receive d =
    record {
      qualified = d.qualified;
      delivery = d.delivery;
      more = d.more;
      send = send;
      receive = receive;
      user_data = d.octets;
    }

abbrev pub body_of : ContentValue → Body
body_of (content.CallRequest c) = body.Call (parts_of c)
body_of content.CallAccepted = body.Accepted
body_of (content.ClearRequest cause diagnostic) = body.Clear cause diagnostic
body_of content.ClearConfirmation = body.ClearConfirmation
body_of (content.Data d) = body.Data d.send d.receive (datum_of d)
body_of (content.Interrupt octets) = body.Interrupt octets
body_of content.InterruptConfirmation = body.InterruptConfirmation
body_of (content.ReceiveReady receive) = body.ReceiveReady receive
body_of (content.ReceiveNotReady receive) = body.ReceiveNotReady receive
body_of (content.ResetRequest cause diagnostic) = body.Reset cause diagnostic
body_of content.ResetConfirmation = body.ResetConfirmation
body_of (content.RestartRequest cause diagnostic) = body.Restart cause diagnostic
body_of content.RestartConfirmation = body.RestartConfirmation

abbrev pub content_of : Body → ContentValue
content_of (body.Call parts) = content.CallRequest (value_of_parts parts)
content_of body.Accepted = content.CallAccepted
content_of (body.Clear cause diagnostic) = content.ClearRequest cause diagnostic
content_of body.ClearConfirmation = content.ClearConfirmation
content_of (body.Data send receive d) = content.Data (value_of_datum send receive d)
content_of (body.Interrupt octets) = content.Interrupt octets
content_of body.InterruptConfirmation = content.InterruptConfirmation
content_of (body.ReceiveReady receive) = content.ReceiveReady receive
content_of (body.ReceiveNotReady receive) = content.ReceiveNotReady receive
content_of (body.Reset cause diagnostic) = content.ResetRequest cause diagnostic
content_of body.ResetConfirmation = content.ResetConfirmation
content_of (body.Restart cause diagnostic) = content.RestartRequest cause diagnostic
content_of body.RestartConfirmation = content.RestartConfirmation

-- ---- octets to the link

-- the octets of a packet that goes to the link, or what stood there before where none goes
abbrev pub written : Flow → ℕ → Option Body → List ℕ → List ℕ
written flow channel None old = old
written flow channel (Some b) old =
    spelling (record { numbering = flow.numbering; channel = channel; content = content_of b })

-- they read back as that packet
abbrev pub ReadsAs : Flow → ℕ → Option Body → List ℕ → Type 0
ReadsAs flow channel None octets = Unit {0}
ReadsAs flow channel (Some b) octets =
    reading flow.numbering flow.size octets
    ≡ Ok (record { numbering = flow.numbering; channel = channel; content = content_of b })

-- ---- octets from the link. Too few octets and another format are ignored; an unknown type and the other faults
-- count as a packet that the state of the channel does not allow

abbrev pub unreadable_as : Bool → Option ℕ → Option Received
unreadable_as unknown None = None
unreadable_as true (Some channel) = Some (Received.Unknown channel)
unreadable_as false (Some channel) = Some (Received.Faulty channel)

abbrev pub heard_by : List ℕ → Result PacketValue PacketFault → Option Received
heard_by octets (Ok p) = Some (Received.Whole (record { channel = p.channel; body = body_of p.content }))
heard_by octets (Err TooShort) = None
heard_by octets (Err BadFormatId) = None
heard_by octets (Err UnknownType) = unreadable_as true (named_channel octets)
heard_by octets (Err BadLength) = unreadable_as false (named_channel octets)
heard_by octets (Err BadAddress) = unreadable_as false (named_channel octets)
heard_by octets (Err DataTooLong) = unreadable_as false (named_channel octets)

abbrev pub heard : Flow → List ℕ → Option Received
heard flow octets = heard_by octets (reading flow.numbering flow.size octets)
