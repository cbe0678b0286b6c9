-- What the records of a line count and what its packet layers count: nothing that these let pass is cut or left out.
use Rattle.std.specs.Prelude.{◌≡◌, ℕ, ◌+◌, true, List, length, slice_get, Some}
use Rattle.link_timers.specs.declared.role.Role.{Role}
use Rattle.data_transfer.specs.Traffic.{in_flight, unreleased}
use Rattle.packet_channel.specs.Channel.{Channel, in_transfer}
use Rattle.packet_layer.specs.Layer.{Layer, channel_of, unread}
use Rattle.node_laws.specs.Lines.NodeLine.{Line}
use Rattle.call_records.specs.Records.{RecordValue}
use Rattle.call_records.specs.Book.{Book, side_of, slot_at}
use Rattle.record_laws.specs.Books.Told.{Move, after_all, AreAllowed}
use Rattle.record_laws.specs.Books.Open.{layers_at}
use Rattle.record_laws.specs.Books.Counts.{HasCounted}
use Rattle.node_laws.specs.LineRecords.Kept.{Setting, IsSetting, Kept, beginning, end_at}

-- ---- the present record of a channel

-- in data transfer, what its end sent in the last epoch and no P(R) covered is in flight or waits to be sent, and what
-- came and is not released was taken or waits to be taken
pub record ShowsCounts (l : Layer) (channel : ℕ) (r : RecordValue) : Type 0 where
  pub covered : (ch : Channel) → channel_of l channel ≡ Some ch → in_transfer ch.state ≡ true
      → r.sent.covered + (in_flight ch.traffic + length ch.traffic.waiting) ≡ length r.sent.packets
  pub released : (ch : Channel) → channel_of l channel ≡ Some ch → in_transfer ch.state ≡ true
      → r.taken.released + unreleased ch.traffic ≡ length r.taken.packets + length ch.traffic.arrived

abbrev pub ShownLaw : Type 0
ShownLaw = (s : Setting) (b : Book) (l : Line) (role : Role) (channel number : ℕ) (r : RecordValue) → Kept s b l
    → (slot_at role channel b).present ≡ Some number → slice_get b.records number ≡ Some r
    → ShowsCounts (end_at role l).layer channel r

-- ---- all records

-- some moves that the links allow lead, from the making of a line on, to this layer at the end of a role, once its
-- notes are read, and the record has the epochs that the layer counted in them
pub record HasItsEpochs (role : Role) (l : Layer) (r : RecordValue) : Type 0 where
  pub setting : Setting
  pub is_setting : IsSetting setting
  pub moves : List Move
  pub allowed : AreAllowed moves (beginning setting)
  pub reached : unread (layers_at role (after_all moves (beginning setting)).line).layer ≡ l
  pub counts : HasCounted (layers_at role (after_all moves (beginning setting)).line) r

-- so has each record at the end of its node
pub record IsCountedThere (b : Book) (l : Line) (r : RecordValue) : Type 0 where
  pub role : Role
  pub node : r.node ≡ (side_of role b).node
  pub epochs : HasItsEpochs role (end_at role l).layer r

abbrev pub CountsLaw : Type 0
CountsLaw = (s : Setting) (b : Book) (l : Line) (i : ℕ) (r : RecordValue) → Kept s b l
    → slice_get b.records i ≡ Some r → IsCountedThere b l r
