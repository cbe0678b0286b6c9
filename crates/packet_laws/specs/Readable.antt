-- A packet layer whose packets can all be read at the other end of the line.
use Rattle.std.specs.Prelude.{ℕ, ◌<◌, ◌≤◌, List, [], ◌∷◌, length, Option, Some, None}
use Rattle.packet_codec.specs.declared.packet.Numbering.{Numbering}
use Rattle.packet_codec.specs.Packet.{PacketValue, IsLogicalChannel, IsCallValue, IsContentOn}
use Rattle.data_transfer.specs.declared.flow.Flow.{Flow}
use Rattle.data_transfer.specs.Packets.{CallParts, Datum, Body, Packet}
use Rattle.data_transfer.specs.Traffic.{Traffic}
use Rattle.packet_channel.specs.Channel.{Channel}
use Rattle.packet_layer.specs.Layer.{Layer}
use Rattle.data_transfer.specs.Octets.{content_of, value_of_parts}

-- it holds of each
abbrev pub Every : {A : Type 0} → (A → Type 0) → List A → Type 0
Every P [] = Unit {0}
Every P (x ∷ xs) = P x × Every P xs

-- it holds of what there is, if anything
abbrev pub IfAny : {A : Type 0} → (A → Type 0) → Option A → Type 0
IfAny P None = Unit {0}
IfAny P (Some x) = P x

-- octets, as any that come on a line
abbrev pub AreOctets : List ℕ → Type 0
AreOctets xs = Every (λ x. x < 256) xs

-- a packet with a spelling, from which it is read again
abbrev pub value_of : Flow → Packet → PacketValue
value_of flow p = record { numbering = flow.numbering; channel = p.channel; content = content_of p.body }

-- what each logical channel can carry, whatever the numbering and the size, and what the channel of the restart packets
-- can
abbrev pub FitsChannels : Body → Type 0
FitsChannels b = (numbering : Numbering) (size channel : ℕ) → IsLogicalChannel channel
    → IsContentOn numbering size channel (content_of b)

abbrev pub FitsRestarts : Body → Type 0
FitsRestarts b = (numbering : Numbering) (size : ℕ) → IsContentOn numbering size 0 (content_of b)

-- what each logical channel of a line with this flow control can carry
abbrev pub FitsLine : Flow → Body → Type 0
FitsLine flow b = (channel : ℕ) → IsLogicalChannel channel → IsContentOn flow.numbering flow.size channel (content_of b)

-- what waits on a channel is short enough for a line of this size
abbrev pub IsShortDatum : (size : ℕ) → Datum → Type 0
IsShortDatum size d = length d.octets ≤ size

abbrev pub IsInterrupt : List ℕ → Type 0
IsInterrupt octets = (1 ≤ length octets) × (length octets ≤ 32)

pub record TrafficFits (size : ℕ) (waiting : List Datum) (interrupt : Option (List ℕ)) : Type 0 where
  pub waiting_fits : Every (IsShortDatum size) waiting
  pub interrupt_fits : IfAny IsInterrupt interrupt

abbrev pub TrafficReads : (size : ℕ) → Traffic → Type 0
TrafficReads size t = TrafficFits size t.waiting t.interrupt_waiting

abbrev pub ChannelReads : (size : ℕ) → Channel → Type 0
ChannelReads size ch = Every FitsChannels ch.owed × TrafficReads size ch.traffic

-- at most 32 channels, and nothing waits or is owed that could not be read at the other end
pub record AllRead (size : ℕ) (channels : List Channel) (owed : List Body) : Type 0 where
  pub few : length channels ≤ 32
  pub channels_read : Every (ChannelReads size) channels
  pub owed_read : Every FitsRestarts owed

abbrev pub IsReadable : Layer → Type 0
IsReadable l = AllRead l.flow.size l.channels l.owed

-- a call that can be placed: a called address, a calling one or none, at most 109 octets of facilities and 16 of user
-- data
abbrev pub CanBePlaced : CallParts → Type 0
CanBePlaced parts = IsCallValue (value_of_parts parts)
