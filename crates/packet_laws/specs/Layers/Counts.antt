-- What P(S) and P(R) name on the channels of a packet layer: places and counts of the present epochs.
use Rattle.std.specs.Prelude.{◌≡◌, ℕ, ◌+◌, ◌<◌, ◌≤◌, Bool, false, List, Option, Some, slice_get}
use Rattle.data_transfer.specs.Flow.{modulus, shown}
use Rattle.data_transfer.specs.declared.flow.Flow.{Flow}
use Rattle.data_transfer.specs.Packets.{Body, Packet}
use Rattle.data_transfer.specs.Packets.Body.{Data, ReceiveReady, ReceiveNotReady}
use Rattle.data_transfer.specs.Traffic.{Traffic, fresh}
use Rattle.packet_channel.specs.Channel.{ChannelState, Channel, in_transfer}
use Rattle.packet_layer.specs.Layer.{nth_channel}
use Rattle.packet_laws.specs.History.{Epoch, empty_epoch}
use Rattle.packet_laws.specs.Counts.{NamesCounts}
use Rattle.packet_laws.specs.LayerLineLaw.{IsPrefix}
use Rattle.packet_laws.specs.Readable.{Every, IfAny}
use Rattle.packet_laws.specs.Layers.Epochs.{Epochs}
use Rattle.packet_laws.specs.Layers.Acts.{World}

-- ---- numbers of a packet

-- P(S) of a Data packet shows its place among those sent in the epoch, the one place that it can show from the first
-- that is not covered on; each P(R) shows how many packets were released
abbrev pub IsNamed : Flow → Epoch → Body → Type 0
IsNamed flow e (Data send receive d) =
    ((place : ℕ) × (send ≡ shown flow.numbering place) × (e.covered ≤ place) × (place < e.covered + modulus flow.numbering)
    × (slice_get e.sent place ≡ Some d))
    × (receive ≡ shown flow.numbering e.released)
IsNamed flow e (ReceiveReady receive) = receive ≡ shown flow.numbering e.released
IsNamed flow e (ReceiveNotReady receive) = receive ≡ shown flow.numbering e.released
IsNamed flow e b = Unit {0}

-- a packet that has neither
abbrev pub HasNoNumber : Body → Type 0
HasNoNumber (Data send receive d) = ⊥
HasNoNumber (ReceiveReady receive) = ⊥
HasNoNumber (ReceiveNotReady receive) = ⊥
HasNoNumber b = Unit {0}

-- ---- numbers of a channel

-- nothing was done, nothing waits, and no reset of this end is unconfirmed
pub record IsUnused (resetting : Bool) (t : Traffic) (e : Epoch) : Type 0 where
  pub epoch : e ≡ empty_epoch
  pub traffic : t ≡ fresh
  pub not_resetting : resetting ≡ false

-- the numbers of a channel in data transfer name the counts of its epoch; one that is not in data transfer is unused;
-- and what a channel owes besides has no number
pub record Counts (flow : Flow) (s : ChannelState) (resetting : Bool) (owed : List Body) (t : Traffic) (e : Epoch) : Type 0
  where
    pub names : NamesCounts flow t e
    pub unused : in_transfer s ≡ false → IsUnused resetting t e
    pub controls : Every HasNoNumber owed

abbrev pub Agrees : (flow : Flow) → Channel → Epoch → Type 0
Agrees flow ch e = Counts flow ch.state ch.resetting ch.owed ch.traffic e

-- so it is on each channel, and a restart packet has no number either
pub record AllCounts (flow : Flow) (channels : List Channel) (owed : List Body) (es : Epochs) : Type 0 where
  pub each : (c : ℕ) (ch : Channel) → nth_channel channels c ≡ Some ch → Agrees flow ch (es c)
  pub restarts : Every HasNoNumber owed

abbrev pub AllAgree : World → Type 0
AllAgree w = AllCounts w.layer.flow w.layer.channels w.layer.owed w.epochs

-- a packet is named in the epoch of its channel
abbrev pub IsNamedAmong : Flow → Epochs → Option Packet → Type 0
IsNamedAmong flow es o = IfAny (λ p. IsNamed flow (es p.channel) p.body) o

-- ---- how an epoch goes on

-- what was sent and taken begins what is now, and no fewer packets are covered and released
pub record Grows (before now : Epoch) : Type 0 where
  pub sent : IsPrefix before.sent now.sent
  pub taken : IsPrefix before.taken now.taken
  pub interrupts_sent : IsPrefix before.interrupts_sent now.interrupts_sent
  pub interrupts_taken : IsPrefix before.interrupts_taken now.interrupts_taken
  pub covered : before.covered ≤ now.covered
  pub released : before.released ≤ now.released
