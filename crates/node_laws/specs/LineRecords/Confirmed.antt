-- What it means that delivery is confirmed at an end of a line.
use Rattle.std.specs.Prelude.{◌≡◌, ℕ, true, slice_get, Some}
use Rattle.link_timers.specs.declared.role.Role.{Role}
use Rattle.packet_channel.specs.Channel.{Channel, in_transfer}
use Rattle.packet_layer.specs.Layer.{Layer, channel_of, confirmed}
use Rattle.node_laws.specs.Lines.NodeLine.{Line}
use Rattle.call_records.specs.Records.{RecordValue}
use Rattle.call_records.specs.Book.{Book, slot_at}
use Rattle.record_laws.specs.Books.Delivery.{IsAllCovered}
use Rattle.node_laws.specs.LineRecords.Kept.{Setting, Kept, end_at}

-- the layer says of a channel that delivery is confirmed where each packet with D = 1 of the last epoch that this
-- record sent is covered, and in data transfer there alone
pub record SaysConfirmed (l : Layer) (channel : ℕ) (r : RecordValue) : Type 0 where
  pub covered : confirmed l channel ≡ true → IsAllCovered r.sent
  pub said : (ch : Channel) → channel_of l channel ≡ Some ch → in_transfer ch.state ≡ true → IsAllCovered r.sent
      → confirmed l channel ≡ true

-- so it says of each channel that has a present record
abbrev pub ConfirmedLaw : Type 0
ConfirmedLaw = (s : Setting) (b : Book) (l : Line) (role : Role) (channel number : ℕ) (r : RecordValue) → Kept s b l
    → (slot_at role channel b).present ≡ Some number → slice_get b.records number ≡ Some r
    → SaysConfirmed (end_at role l).layer channel r
