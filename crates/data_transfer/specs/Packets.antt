-- The packets of one line as its packet layers see them (X.25 5). Numbers are modulo 8 or 128.
use Rattle.std.specs.Prelude.{ℕ, List}
use Rattle.epochs.specs.Item.{DataPacket}

-- what a Call Request and an Incoming Call carry (X.25 5.2.1): digits of both addresses, facilities, user data
pub record CallParts : Type 0 where
  pub called : List ℕ
  pub calling : List ℕ
  pub facilities : List ℕ
  pub user_part : List ℕ

-- what a Data packet carries (X.25 4.3): octets, the more-data mark M, the qualifier Q, the delivery bit D
abbrev pub Datum : Type 0
Datum = DataPacket

-- a packet apart from its channel (X.25 table 5-2)
pub data Body : Type 0 where
  Call : CallParts → Body
  Accepted : Body
  Clear : (cause diagnostic : ℕ) → Body
  ClearConfirmation : Body
  Data : (send receive : ℕ) → Datum → Body
  Interrupt : List ℕ → Body
  InterruptConfirmation : Body
  ReceiveReady : (receive : ℕ) → Body
  ReceiveNotReady : (receive : ℕ) → Body
  Reset : (cause diagnostic : ℕ) → Body
  ResetConfirmation : Body
  Restart : (cause diagnostic : ℕ) → Body
  RestartConfirmation : Body

-- a packet: restart packets have channel 0
pub record Packet : Type 0 where
  pub channel : ℕ
  pub body : Body

-- what the reading of octets gives the layer: a packet, or an unreadable packet of a channel, of a type that is
-- not known or with another fault; what names no channel is not handed on
pub data Received : Type 0 where
  Whole : Packet → Received
  Unknown : (channel : ℕ) → Received
  Faulty : (channel : ℕ) → Received

-- why a call ended or was reset: by the far end, a fault found here or a timer, the loss of the link's session,
-- a restart by the far end, a call collision
pub data Reason : Type 0 where
  FarEnd : Reason
  LocalFault : Reason
  LinkLost : Reason
  FarRestart : Reason
  Cancelled : Reason

-- what the layer tells its user, in order
pub data Note : Type 0 where
  Incoming : (channel : ℕ) → CallParts → Note
  Connected : (channel : ℕ) → Note
  Closed : (channel cause diagnostic : ℕ) → Reason → Note
  WasReset : (channel cause diagnostic : ℕ) → Reason → Note
  InterruptConfirmed : (channel : ℕ) → Note
  Covered : (channel count : ℕ) → Note
