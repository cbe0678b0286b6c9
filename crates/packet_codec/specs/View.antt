-- The value that a Packet of the code stands for.
use Rattle.std.specs.Prelude.{Result, Ok, Err}
use Rattle.packet_codec.specs.declared.fault.PacketFault.{PacketFault}
use Rattle.packet_codec.specs.declared.packet.Packet.{Packet}
use Rattle.packet_codec.specs.declared.packet.Content.{Content}
use Rattle.packet_codec.specs.declared.packet.Content.TheVariants as content
use Rattle.packet_codec.specs.declared.packet.CallData.{CallData}
use Rattle.packet_codec.specs.declared.packet.DataPacket.{DataPacket}
use Rattle.packet_codec.specs.Digits.{digits_or_none}
use Rattle.packet_codec.specs.Packet.{PacketValue, ContentValue, CallValue, DataValue, CallRequest, CallAccepted}
use Rattle.packet_codec.specs.Packet.{ClearRequest, ClearConfirmation, Data, Interrupt, InterruptConfirmation}
use Rattle.packet_codec.specs.Packet.{ReceiveReady, ReceiveNotReady, ResetRequest, ResetConfirmation, RestartRequest}
use Rattle.packet_codec.specs.Packet.{RestartConfirmation}

abbrev pub call_view : CallData → CallValue
call_view c = record {
  called = c.called;
  calling = digits_or_none c.calling;
  facilities = c.facilities.now;
  user_data = c.user_data.now;
}

abbrev pub data_view : DataPacket → DataValue
data_view d = record {
  qualified = d.qualified;
  delivery = d.delivery;
  more = d.more;
  send = d.send;
  receive = d.receive;
  user_data = d.user_data.now;
}

abbrev pub content_view : Content → ContentValue
content_view (content.CallRequest c) = CallRequest (call_view c)
content_view content.CallAccepted = CallAccepted
content_view (content.ClearRequest cause diagnostic) = ClearRequest cause diagnostic
content_view content.ClearConfirmation = ClearConfirmation
content_view (content.Data d) = Data (data_view d)
content_view (content.Interrupt octets) = Interrupt octets.now
content_view content.InterruptConfirmation = InterruptConfirmation
content_view (content.ReceiveReady receive) = ReceiveReady receive
content_view (content.ReceiveNotReady receive) = ReceiveNotReady receive
content_view (content.ResetRequest cause diagnostic) = ResetRequest cause diagnostic
content_view content.ResetConfirmation = ResetConfirmation
content_view (content.RestartRequest cause diagnostic) = RestartRequest cause diagnostic
content_view content.RestartConfirmation = RestartConfirmation

abbrev pub view : Packet → PacketValue
view p = record { numbering = p.numbering; channel = p.channel; content = content_view p.content }

-- what read_packet answers, as values
abbrev pub answer_view : Result Packet PacketFault → Result PacketValue PacketFault
answer_view (Ok p) = Ok (view p)
answer_view (Err fault) = Err fault

abbrev pub content_answer_view : Result Content PacketFault → Result ContentValue PacketFault
content_answer_view (Ok content) = Ok (content_view content)
content_answer_view (Err fault) = Err fault
