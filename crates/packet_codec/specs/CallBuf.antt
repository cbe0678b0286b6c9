-- What a call block says that is kept in place.
use Rattle.packet_codec.specs.declared.call_buf.CallBuf.TheInside.{Inside}
use Rattle.packet_codec.specs.Digits.{digits_or_none}
use Rattle.packet_codec.specs.Packet.{CallValue, IsCallValue}

abbrev pub kept_call : Inside → CallValue
kept_call c = record {
  called = c.called;
  calling = digits_or_none c.calling;
  facilities = c.facilities.items;
  user_data = c.user_data.items;
}

abbrev pub IsKeptCall : Inside → Type 0
IsKeptCall c = IsCallValue (kept_call c)
