-- What a packet says, apart from its octets, and the octets that say it (X.25 5), with either numbering.
-- Bits are numbered from 8, the highest, to 1.
use Rattle.std.specs.Prelude.{◌≡◌, ℕ, ◌+◌, ◌*◌, ◌/◌, ◌%◌, ◌<◌, ◌≤◌, Bool, true, false, List, [], ◌∷◌, ◌++◌, length, ◌⊎◌}
use Rattle.packet_codec.specs.Address.{AreDigits, MayBeDigits}
use Rattle.packet_codec.specs.declared.packet.Numbering.{Numbering}
use Rattle.packet_codec.specs.declared.packet.Numbering.TheVariants.{Modulo8, Modulo128}

-- what P(S) and P(R) are counted modulo
abbrev pub modulus : Numbering → ℕ
modulus Modulo8 = 8
modulus Modulo128 = 128

-- the call block of a Call Request and an Incoming Call: digits of the addresses, octets of the rest
pub record CallValue : Type 0 where
  pub called : List ℕ
  pub calling : List ℕ
  pub facilities : List ℕ
  pub user_data : List ℕ

-- a Data packet: bits Q, D and M, numbers P(S) and P(R), user data
pub record DataValue : Type 0 where
  pub qualified : Bool
  pub delivery : Bool
  pub more : Bool
  pub send : ℕ
  pub receive : ℕ
  pub user_data : List ℕ

-- the types of packets, each with what it carries. A request is an indication on the line's other direction
pub data ContentValue : Type 0 where
  CallRequest : CallValue → ContentValue
  CallAccepted : ContentValue
  ClearRequest : (cause diagnostic : ℕ) → ContentValue
  ClearConfirmation : ContentValue
  Data : DataValue → ContentValue
  Interrupt : List ℕ → ContentValue
  InterruptConfirmation : ContentValue
  ReceiveReady : (receive : ℕ) → ContentValue
  ReceiveNotReady : (receive : ℕ) → ContentValue
  ResetRequest : (cause diagnostic : ℕ) → ContentValue
  ResetConfirmation : ContentValue
  RestartRequest : (cause diagnostic : ℕ) → ContentValue
  RestartConfirmation : ContentValue

pub record PacketValue : Type 0 where
  pub numbering : Numbering
  pub channel : ℕ
  pub content : ContentValue

-- ---- what has a spelling, where a Data packet has at most `size` octets of user data

-- P(S) and P(R) are numbers of the numbering
pub record IsDataValue (numbering : Numbering) (size : ℕ) (d : DataValue) : Type 0 where
  pub send : d.send < modulus numbering
  pub receive : d.receive < modulus numbering
  pub short : length d.user_data ≤ size

-- a called address; a calling one, or none; at most 109 octets of facilities and 16 of user data
pub record IsCallValue (c : CallValue) : Type 0 where
  pub called : AreDigits c.called
  pub calling : MayBeDigits c.calling
  pub facilities : length c.facilities ≤ 109
  pub user_data : length c.user_data ≤ 16

-- one of the channels 1 to 4,095, which the octets can name
abbrev pub IsLogicalChannel : ℕ → Type 0
IsLogicalChannel channel = (0 < channel) × (channel < 4096)

-- the content fits its type, and the channel: 0 for the Restart packets, another for all else
abbrev pub IsContentOn : Numbering → (size channel : ℕ) → ContentValue → Type 0
IsContentOn numbering size channel (CallRequest c) = IsLogicalChannel channel × IsCallValue c
IsContentOn numbering size channel (Data d) = IsLogicalChannel channel × IsDataValue numbering size d
IsContentOn numbering size channel (Interrupt octets) =
    IsLogicalChannel channel × ((1 ≤ length octets) × (length octets ≤ 32))
IsContentOn numbering size channel (ReceiveReady receive) = IsLogicalChannel channel × (receive < modulus numbering)
IsContentOn numbering size channel (ReceiveNotReady receive) = IsLogicalChannel channel × (receive < modulus numbering)
IsContentOn numbering size channel (RestartRequest cause diagnostic) = channel ≡ 0
IsContentOn numbering size channel RestartConfirmation = channel ≡ 0
IsContentOn numbering size channel _ = IsLogicalChannel channel

abbrev pub IsPacket : (size : ℕ) → PacketValue → Type 0
IsPacket size p = IsContentOn p.numbering size p.channel p.content

-- ---- the octets

abbrev pub bit : Bool → ℕ
bit true = 1
bit false = 0

-- bits 6 and 5 of octet 1: 01 or 10
abbrev pub format_id : Numbering → ℕ
format_id Modulo8 = 1
format_id Modulo128 = 2

-- the first three octets: Q, D, the format and the channel's group; the channel; the type
abbrev pub header : Numbering → (qualified delivery : Bool) → (channel type_octet : ℕ) → List ℕ
header numbering qualified delivery channel type_octet =
    (128 * bit qualified + 64 * bit delivery + 16 * format_id numbering + channel / 256) ∷ channel % 256 ∷ type_octet
    ∷ []

-- a header without Q and D
abbrev pub plain_header : Numbering → (channel type_octet : ℕ) → List ℕ
plain_header numbering channel type_octet = header numbering false false channel type_octet

-- modulo 8 the numbers are in octet 3; modulo 128 P(S) is in octet 3, P(R) and M are in octet 4
abbrev pub data_spelling : Numbering → ℕ → DataValue → List ℕ
data_spelling Modulo8 channel d =
    header Modulo8 d.qualified d.delivery channel (32 * d.receive + 16 * bit d.more + 2 * d.send) ++ d.user_data
data_spelling Modulo128 channel d =
    header Modulo128 d.qualified d.delivery channel (2 * d.send) ++ (2 * d.receive + bit d.more) ∷ d.user_data

-- RR or RNR, by its code: modulo 8 P(R) is in octet 3, modulo 128 in octet 4
abbrev pub flow_spelling : Numbering → (channel code receive : ℕ) → List ℕ
flow_spelling Modulo8 channel code receive = plain_header Modulo8 channel (32 * receive + code)
flow_spelling Modulo128 channel code receive = plain_header Modulo128 channel code ++ 2 * receive ∷ []

-- digits two by two, the first in the high half; behind an odd last one a spare half octet
abbrev pub packed : ℕ → List ℕ → List ℕ
packed spare [] = []
packed spare (digit ∷ []) = (16 * digit + spare) ∷ []
packed spare (high ∷ low ∷ digits) = (16 * high + low) ∷ packed spare digits

-- the lengths of the calling and the called address, then the digits of the called and the calling one
abbrev pub address_part : ℕ → List ℕ → List ℕ → List ℕ
address_part spare called calling = (16 * length calling + length called) ∷ packed spare (called ++ calling)

-- facilities behind their length
abbrev pub facility_part : List ℕ → List ℕ
facility_part facilities = length facilities ∷ facilities

abbrev pub call_block : ℕ → CallValue → List ℕ
call_block spare c = address_part spare c.called c.calling ++ (facility_part c.facilities ++ c.user_data)

-- the one spelling that is written
abbrev pub content_spelling : Numbering → ℕ → ContentValue → List ℕ
content_spelling numbering channel (CallRequest c) = plain_header numbering channel 0x0b ++ call_block 0 c
content_spelling numbering channel CallAccepted = plain_header numbering channel 0x0f
content_spelling numbering channel (ClearRequest cause diagnostic) =
    plain_header numbering channel 0x13 ++ cause ∷ diagnostic ∷ []
content_spelling numbering channel ClearConfirmation = plain_header numbering channel 0x17
content_spelling numbering channel (Data d) = data_spelling numbering channel d
content_spelling numbering channel (Interrupt octets) = plain_header numbering channel 0x23 ++ octets
content_spelling numbering channel InterruptConfirmation = plain_header numbering channel 0x27
content_spelling numbering channel (ReceiveReady receive) = flow_spelling numbering channel 1 receive
content_spelling numbering channel (ReceiveNotReady receive) = flow_spelling numbering channel 5 receive
content_spelling numbering channel (ResetRequest cause diagnostic) =
    plain_header numbering channel 0x1b ++ cause ∷ diagnostic ∷ []
content_spelling numbering channel ResetConfirmation = plain_header numbering channel 0x1f
content_spelling numbering channel (RestartRequest cause diagnostic) =
    plain_header numbering channel 0xfb ++ cause ∷ diagnostic ∷ []
content_spelling numbering channel RestartConfirmation = plain_header numbering channel 0xff

abbrev pub spelling : PacketValue → List ℕ
spelling p = content_spelling p.numbering p.channel p.content

-- ---- the other spellings, which are read and not written

-- a Call with any D bit and any spare half octet
pub record IsCallSpelling (numbering : Numbering) (bytes : List ℕ) (channel : ℕ) (c : CallValue) : Type 0 where
  pub delivery : Bool
  pub spare : ℕ
  pub half : spare < 16
  pub spelled : bytes ≡ header numbering false delivery channel 0x0b ++ call_block spare c

-- some facilities behind their length
abbrev pub IsFacilityPart : List ℕ → Type 0
IsFacilityPart rest = (facilities : List ℕ) × (length facilities ≤ 109) × (rest ≡ facility_part facilities)

-- an answer with addresses, and behind them facilities or nothing
pub record IsAcceptedSpelling (numbering : Numbering) (bytes : List ℕ) (channel : ℕ) : Type 0 where
  pub called : List ℕ
  pub calling : List ℕ
  pub spare : ℕ
  pub half : spare < 16
  pub are_called : MayBeDigits called
  pub are_calling : MayBeDigits calling
  pub rest : List ℕ
  pub is_rest : (rest ≡ []) ⊎ IsFacilityPart rest
  pub spelled : bytes ≡ plain_header numbering channel 0x0f ++ (address_part spare called calling ++ rest)

-- no diagnostic, which stands for 0
abbrev pub IsShortSpelling : Numbering → List ℕ → (channel type_octet cause diagnostic : ℕ) → Type 0
IsShortSpelling numbering bytes channel type_octet cause diagnostic =
    (diagnostic ≡ 0) × (bytes ≡ plain_header numbering channel type_octet ++ cause ∷ [])

abbrev pub IsOtherSpelling : Numbering → List ℕ → ℕ → ContentValue → Type 0
IsOtherSpelling numbering bytes channel (CallRequest c) = IsCallSpelling numbering bytes channel c
IsOtherSpelling numbering bytes channel CallAccepted = IsAcceptedSpelling numbering bytes channel
IsOtherSpelling numbering bytes channel (ClearRequest cause diagnostic) =
    IsShortSpelling numbering bytes channel 0x13 cause diagnostic
IsOtherSpelling numbering bytes channel (ResetRequest cause diagnostic) =
    IsShortSpelling numbering bytes channel 0x1b cause diagnostic
IsOtherSpelling numbering bytes channel (RestartRequest cause diagnostic) =
    IsShortSpelling numbering bytes channel 0xfb cause diagnostic
IsOtherSpelling numbering bytes channel _ = ⊥

-- the octets say this packet, on a line of this numbering and size
pub record PacketForm (numbering : Numbering) (size : ℕ) (bytes : List ℕ) (p : PacketValue) : Type 0 where
  pub numbered : p.numbering ≡ numbering
  pub fits : IsPacket size p
  pub spelled : (bytes ≡ spelling p) ⊎ IsOtherSpelling p.numbering bytes p.channel p.content
