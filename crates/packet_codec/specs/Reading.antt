-- Reading the octets of a packet: the value that they say, or the first fault.
use Rattle.std.specs.Prelude.{ℕ, ◌+◌, ◌-◌, ◌*◌, ◌/◌, ◌%◌, nat_lt, nat_le, ◌==◌, ◌||◌, ◌&&◌, not, if◌then◌else◌, Bool}
use Rattle.std.specs.Prelude.{true, false, List, [], ◌∷◌, length, take, drop, slice_index, find, Option, Some, None}
use Rattle.std.specs.Prelude.{is_none, option_and_then, Result, Ok, Err}
use Rattle.std.specs.Option.{option_map_or}
use Rattle.std.specs.List.{flat_map}
use Rattle.packet_codec.specs.Address.{are_decimal}
use Rattle.packet_codec.specs.declared.fault.PacketFault.{PacketFault}
use Rattle.packet_codec.specs.declared.fault.PacketFault.TheVariants.{TooShort, BadFormatId, UnknownType, BadLength}
use Rattle.packet_codec.specs.declared.fault.PacketFault.TheVariants.{BadAddress, DataTooLong}
use Rattle.packet_codec.specs.declared.packet.Numbering.{Numbering}
use Rattle.packet_codec.specs.declared.packet.Numbering.TheVariants.{Modulo8, Modulo128}
use Rattle.packet_codec.specs.declared.packet_type.PacketType.{PacketType}
use Rattle.packet_codec.specs.declared.packet_type.PacketType.TheVariants as types
use Rattle.packet_codec.specs.Packet.{PacketValue, ContentValue, CallValue, DataValue, CallRequest, CallAccepted}
use Rattle.packet_codec.specs.Packet.{ClearRequest, ClearConfirmation, Data, Interrupt, InterruptConfirmation}
use Rattle.packet_codec.specs.Packet.{ReceiveReady, ReceiveNotReady, ResetRequest, ResetConfirmation, RestartRequest}
use Rattle.packet_codec.specs.Packet.{RestartConfirmation, format_id}

-- a bit of an octet, from 8 to 1
abbrev pub bit_8 : ℕ → Bool
bit_8 octet = octet / 128 == 1

abbrev pub bit_7 : ℕ → Bool
bit_7 octet = octet / 64 % 2 == 1

abbrev pub bit_5 : ℕ → Bool
bit_5 octet = octet / 16 % 2 == 1

abbrev pub bit_1 : ℕ → Bool
bit_1 octet = octet % 2 == 1

-- an octet by its place, from 1; 0 past the end
abbrev pub octet : ℕ → List ℕ → ℕ
octet place bytes = slice_index bytes (place - 1)

-- the types that have an octet of their own
abbrev pub code_type : ℕ → Option PacketType
code_type octet =
    if octet == 0x0b then Some types.CallRequest
    else if octet == 0x0f then Some types.CallAccepted
    else if octet == 0x13 then Some types.ClearRequest
    else if octet == 0x17 then Some types.ClearConfirmation
    else if octet == 0x23 then Some types.Interrupt
    else if octet == 0x27 then Some types.InterruptConfirmation
    else if octet == 0x1b then Some types.ResetRequest
    else if octet == 0x1f then Some types.ResetConfirmation
    else if octet == 0xfb then Some types.RestartRequest
    else if octet == 0xff then Some types.RestartConfirmation
    else None

-- the type, unless bit 1 of the first octet after the third is one. A missing octet is a fault of the length
abbrev pub numbered : PacketType → List ℕ → Option PacketType
numbered kind rest = if bit_1 (octet 1 rest) then None else Some kind

-- the type that octet 3 names, if any, where its bit 1 is one
abbrev pub other_type : Numbering → ℕ → List ℕ → Option PacketType
other_type Modulo8 third rest =
    if third % 32 == 1 then Some types.ReceiveReady
    else if third % 32 == 5 then Some types.ReceiveNotReady
    else code_type third
other_type Modulo128 third rest =
    if third == 1 then numbered types.ReceiveReady rest
    else if third == 5 then numbered types.ReceiveNotReady rest
    else code_type third

-- the type that octet 3 and the octets after it name, if any
abbrev pub type_of : Numbering → ℕ → List ℕ → Option PacketType
type_of numbering third rest = if third % 2 == 0 then Some types.Data else other_type numbering third rest

-- Q stands in Data alone, and D in Data and, not looked at, in a Call
abbrev pub admits : PacketType → Bool → Bool → Bool
admits types.Data qualified delivery = true
admits types.CallRequest qualified delivery = not qualified
admits _ qualified delivery = not (qualified || delivery)

-- channel 0 has the Restart packets and no others
abbrev pub is_on_channel : PacketType → ℕ → Bool
is_on_channel types.RestartRequest channel = channel == 0
is_on_channel types.RestartConfirmation channel = channel == 0
is_on_channel _ channel = not (channel == 0)

-- bits 6 and 5 of octet 1
abbrev pub format_of : ℕ → ℕ
format_of octet = octet / 16 % 4

-- the logical channel that octets 1 and 2 name
abbrev pub channel_of : ℕ → ℕ → ℕ
channel_of first second = 256 * (first % 16) + second

-- the channel that octets name, packet or not
abbrev pub named_channel : List ℕ → Option ℕ
named_channel (first ∷ second ∷ rest) = Some (channel_of first second)
named_channel _ = None

-- the type, where the bits and the channel beside it are its own
abbrev pub allowed : (first second : ℕ) → PacketType → Option PacketType
allowed first second kind =
    if admits kind (bit_8 first) (bit_7 first) && is_on_channel kind (channel_of first second) then Some kind else None

-- the type that the octets name, if any
abbrev pub named_type : Numbering → (first second third : ℕ) → List ℕ → Option PacketType
named_type numbering first second third rest = option_and_then (allowed first second) (type_of numbering third rest)

-- ---- the parts of a call block. An absent octet counts as 0, which no test below lets pass

abbrev pub called_length : List ℕ → ℕ
called_length block = octet 1 block % 16

abbrev pub calling_length : List ℕ → ℕ
calling_length block = octet 1 block / 16

-- how many octets the digits take
abbrev pub address_octets : List ℕ → ℕ
address_octets block = (called_length block + calling_length block + 1) / 2

-- the two halves of each octet, the high one first
abbrev pub half_octets : List ℕ → List ℕ
half_octets octets = flat_map (λ o. o / 16 ∷ o % 16 ∷ []) octets

-- the digits of the called address, then those of the calling one
abbrev pub digits : List ℕ → List ℕ
digits block =
    take (called_length block + calling_length block) (half_octets (take (address_octets block) (drop 1 block)))

-- what follows the addresses
abbrev pub after_addresses : List ℕ → List ℕ
after_addresses block = drop (address_octets block) (drop 1 block)

abbrev pub has_addresses : List ℕ → Bool
has_addresses block = nat_lt (address_octets block) (length block)

-- the length of the facilities is at most 109 and stands there, with so many octets
abbrev pub has_facilities : List ℕ → Bool
has_facilities after = nat_lt (octet 1 after) (length after) && nat_le (octet 1 after) 109

abbrev pub facilities_of : List ℕ → List ℕ
facilities_of after = take (octet 1 after) (drop 1 after)

abbrev pub user_data_of : List ℕ → List ℕ
user_data_of after = drop (octet 1 after) (drop 1 after)

abbrev pub has_call_length : List ℕ → Bool
has_call_length block =
    has_addresses block
    && (has_facilities (after_addresses block) && nat_le (length (user_data_of (after_addresses block))) 16)

-- nothing, or addresses, and then nothing or facilities
abbrev pub ends_in_facilities : List ℕ → Bool
ends_in_facilities after = length after == 0 || (has_facilities after && length (user_data_of after) == 0)

abbrev pub has_accepted_length : List ℕ → Bool
has_accepted_length block = length block == 0 || (has_addresses block && ends_in_facilities (after_addresses block))

abbrev pub has_cause : List ℕ → Bool
has_cause rest = nat_le 1 (length rest) && nat_le (length rest) 2

abbrev pub call_value : List ℕ → CallValue
call_value block = record {
  called = take (called_length block) (digits block);
  calling = drop (called_length block) (digits block);
  facilities = facilities_of (after_addresses block);
  user_data = user_data_of (after_addresses block);
}

-- ---- the numbers of a packet, by octet 3 and the octets after it

-- a Data packet modulo 128 has an octet with P(R)
abbrev pub has_data_length : Numbering → List ℕ → Bool
has_data_length Modulo8 rest = true
has_data_length Modulo128 rest = nat_le 1 (length rest)

-- RR and RNR modulo 128 have one octet with P(R), and modulo 8 none
abbrev pub has_flow_length : Numbering → List ℕ → Bool
has_flow_length Modulo8 rest = length rest == 0
has_flow_length Modulo128 rest = length rest == 1

abbrev pub send_of : Numbering → ℕ → ℕ
send_of Modulo8 third = third / 2 % 8
send_of Modulo128 third = third / 2

abbrev pub receive_of : Numbering → ℕ → List ℕ → ℕ
receive_of Modulo8 third rest = third / 32
receive_of Modulo128 third rest = octet 1 rest / 2

abbrev pub more_of : Numbering → ℕ → List ℕ → Bool
more_of Modulo8 third rest = bit_5 third
more_of Modulo128 third rest = bit_1 (octet 1 rest)

-- the user data of a Data packet
abbrev pub data_octets : Numbering → List ℕ → List ℕ
data_octets Modulo8 rest = rest
data_octets Modulo128 rest = drop 1 rest

-- ---- the faults, each a test of the octets

abbrev pub packet_type : Numbering → List ℕ → Option PacketType
packet_type numbering bytes =
    named_type numbering (octet 1 bytes) (octet 2 bytes) (octet 3 bytes) (drop 3 bytes)

-- the octets after the third fit the type in number
abbrev pub has_length : Numbering → PacketType → List ℕ → Bool
has_length numbering types.Data rest = has_data_length numbering rest
has_length numbering types.ReceiveReady rest = has_flow_length numbering rest
has_length numbering types.ReceiveNotReady rest = has_flow_length numbering rest
has_length numbering types.CallRequest rest = has_call_length rest
has_length numbering types.CallAccepted rest = has_accepted_length rest
has_length numbering types.ClearRequest rest = has_cause rest
has_length numbering types.ResetRequest rest = has_cause rest
has_length numbering types.RestartRequest rest = has_cause rest
has_length numbering types.Interrupt rest = nat_le 1 (length rest) && nat_le (length rest) 32
has_length numbering _ rest = length rest == 0

abbrev pub has_bad_address : PacketType → List ℕ → Bool
has_bad_address types.CallRequest rest = called_length rest == 0 || not (are_decimal (digits rest))
has_bad_address types.CallAccepted rest = not (are_decimal (digits rest))
has_bad_address _ rest = false

abbrev pub is_too_long : Numbering → (size : ℕ) → PacketType → List ℕ → Bool
is_too_long numbering size types.Data rest = nat_lt size (length (data_octets numbering rest))
is_too_long numbering size _ rest = false

-- the octets have the fault, on a line of this numbering and size
abbrev pub has_fault : Numbering → (size : ℕ) → List ℕ → PacketFault → Bool
has_fault numbering size bytes TooShort = nat_lt (length bytes) 3
has_fault numbering size bytes BadFormatId = not (format_of (octet 1 bytes) == format_id numbering)
has_fault numbering size bytes UnknownType = is_none (packet_type numbering bytes)
has_fault numbering size bytes BadLength =
    option_map_or (λ kind. not (has_length numbering kind (drop 3 bytes))) (packet_type numbering bytes) false
has_fault numbering size bytes BadAddress =
    option_map_or (λ kind. has_bad_address kind (drop 3 bytes)) (packet_type numbering bytes) false
has_fault numbering size bytes DataTooLong =
    option_map_or (λ kind. is_too_long numbering size kind (drop 3 bytes)) (packet_type numbering bytes) false

-- the faults by number
abbrev pub faults : List PacketFault
faults = TooShort ∷ BadFormatId ∷ UnknownType ∷ BadLength ∷ BadAddress ∷ DataTooLong ∷ []

-- the fault of the octets, which is the first in number that they have
abbrev pub first_fault : Numbering → (size : ℕ) → List ℕ → Option PacketFault
first_fault numbering size bytes = find (has_fault numbering size bytes) faults

-- ---- the value

abbrev pub data_of : Numbering → (qualified delivery : Bool) → ℕ → List ℕ → DataValue
data_of numbering qualified delivery third rest = record {
  qualified = qualified;
  delivery = delivery;
  more = more_of numbering third rest;
  send = send_of numbering third;
  receive = receive_of numbering third rest;
  user_data = data_octets numbering rest;
}

-- what a packet of the type says, where it has no fault: its Q and D bits, octet 3 and the octets after it
abbrev pub said : Numbering → PacketType → (qualified delivery : Bool) → ℕ → List ℕ → ContentValue
said numbering types.CallRequest qualified delivery third rest = CallRequest (call_value rest)
said numbering types.CallAccepted qualified delivery third rest = CallAccepted
said numbering types.ClearRequest qualified delivery third rest = ClearRequest (octet 1 rest) (octet 2 rest)
said numbering types.ClearConfirmation qualified delivery third rest = ClearConfirmation
said numbering types.Data qualified delivery third rest = Data (data_of numbering qualified delivery third rest)
said numbering types.Interrupt qualified delivery third rest = Interrupt rest
said numbering types.InterruptConfirmation qualified delivery third rest = InterruptConfirmation
said numbering types.ReceiveReady qualified delivery third rest = ReceiveReady (receive_of numbering third rest)
said numbering types.ReceiveNotReady qualified delivery third rest = ReceiveNotReady (receive_of numbering third rest)
said numbering types.ResetRequest qualified delivery third rest = ResetRequest (octet 1 rest) (octet 2 rest)
said numbering types.ResetConfirmation qualified delivery third rest = ResetConfirmation
said numbering types.RestartRequest qualified delivery third rest = RestartRequest (octet 1 rest) (octet 2 rest)
said numbering types.RestartConfirmation qualified delivery third rest = RestartConfirmation

abbrev pub content_of : Numbering → (size : ℕ) → PacketType → (qualified delivery : Bool) → ℕ → List ℕ
    → Result ContentValue PacketFault
content_of numbering size kind qualified delivery third rest =
    if not (has_length numbering kind rest) then Err BadLength
    else if has_bad_address kind rest then Err BadAddress
    else if is_too_long numbering size kind rest then Err DataTooLong
    else Ok (said numbering kind qualified delivery third rest)

abbrev pub cause_of : List ℕ → Option (ℕ × ℕ)
cause_of rest = if has_cause rest then Some (octet 1 rest, octet 2 rest) else None

-- P(R) of RR and RNR
abbrev pub number_of : Numbering → ℕ → List ℕ → Option ℕ
number_of numbering third rest = if has_flow_length numbering rest then Some (receive_of numbering third rest) else None

abbrev pub on_channel : Numbering → ℕ → Result ContentValue PacketFault → Result PacketValue PacketFault
on_channel numbering channel (Ok content) =
    Ok record { numbering = numbering; channel = channel; content = content }
on_channel numbering channel (Err fault) = Err fault

abbrev pub typed : Numbering → (size : ℕ) → Option PacketType → (first second third : ℕ) → List ℕ
    → Result PacketValue PacketFault
typed numbering size None first second third rest = Err UnknownType
typed numbering size (Some kind) first second third rest =
    on_channel numbering (channel_of first second)
    (content_of numbering size kind (bit_8 first) (bit_7 first) third rest)

-- what the octets of a packet say, or their fault
abbrev pub reading : Numbering → (size : ℕ) → List ℕ → Result PacketValue PacketFault
reading numbering size (first ∷ second ∷ third ∷ rest) =
    if format_of first == format_id numbering
    then typed numbering size (named_type numbering first second third rest) first second third rest
    else Err BadFormatId
reading numbering size _ = Err TooShort

-- the fault of an answer
abbrev pub fault_in : {A : Type 0} → Result A PacketFault → Option PacketFault
fault_in (Ok x) = None
fault_in (Err fault) = Some fault
