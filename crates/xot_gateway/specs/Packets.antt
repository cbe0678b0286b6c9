-- Packets as the gateway reads them and passes them on.
use Rattle.std.specs.Prelude.{ℕ, ◌+◌, ◌*◌, ◌/◌, ◌%◌, ◌==◌, List, [], ◌∷◌, ◌++◌, length, take, drop, max, min, nat_lt, Result, if◌then◌else◌}
use Rattle.packet_codec.specs.declared.fault.PacketFault.{PacketFault}
use Rattle.packet_codec.specs.Packet.{PacketValue, ContentValue, CallRequest, CallAccepted, ClearRequest, ClearConfirmation, RestartRequest, RestartConfirmation, spelling}
use Rattle.packet_codec.specs.Reading.{reading}
use Rattle.xot_codec.specs.declared.facilities.LineFlow.{LineFlow}
use Rattle.xot_codec.specs.Facilities.{put}
use Rattle.xot_gateway.specs.declared.line.XotLine.{XotLine}

-- ---- what comes

-- the most octets of user data in a Data packet
abbrev pub most_data : XotLine → ℕ
most_data line = min line.flow.size 1024

-- the most octets of a packet on the line: 145 of a Call Request, or those of a Data packet with a header of at most 4
abbrev pub most_packet : XotLine → ℕ
most_packet line = max 145 (most_data line + 4)

-- what octets say on the line
abbrev pub read_on : XotLine → List ℕ → Result PacketValue PacketFault
read_on line octets = reading line.numbering (most_data line) octets

-- the octets behind the third one: two of a long Clear (13), none of a long Clear Confirmation (17)
abbrev pub kept : (third : ℕ) → List ℕ → List ℕ
kept third rest =
    if third == 0x13 then (if nat_lt 2 (length rest) then take 2 rest else rest)
    else if third == 0x17 then []
    else rest

-- the channel of a place in the table of channels, which is counted from 1
abbrev pub channel_at : (place : ℕ) → ℕ
channel_at place = place + 1

-- A packet of the connection as the line has it, on the channel of a place: its own channel has no meaning. A packet has
-- at least three octets.
abbrev pub prepared : (place : ℕ) → List ℕ → List ℕ
prepared place (first ∷ second ∷ third ∷ rest) =
    (first / 16 * 16 + channel_at place / 256) ∷ (channel_at place % 256) ∷ third ∷ kept third rest
prepared place octets = []

-- the octets of two addresses, by their lengths
abbrev pub address_octets : (lengths : ℕ) → ℕ
address_octets lengths = (lengths % 16 + lengths / 16 + 1) / 2

-- the field that stands first, behind its length
abbrev pub first_field : List ℕ → List ℕ
first_field [] = []
first_field (length ∷ field) = take length field

-- the facility field of a Call Accepted, behind its header and its addresses
abbrev pub accepted_facilities : List ℕ → List ℕ
accepted_facilities (first ∷ second ∷ third ∷ lengths ∷ rest) = first_field (drop (address_octets lengths) rest)
accepted_facilities octets = []

-- what follows the field that stands first, behind its length
abbrev pub after_field : List ℕ → List ℕ
after_field [] = []
after_field (length ∷ rest) = drop length rest

-- ---- what goes

-- a Call with another facility field, and 16 octets of user data at most
abbrev pub with_field : (field : List ℕ) → List ℕ → List ℕ
with_field field (first ∷ second ∷ third ∷ lengths ∷ rest) =
    (first ∷ second ∷ third ∷ lengths ∷ [])
    ++ (take (address_octets lengths) rest
    ++ ((length field ∷ field) ++ take 16 (after_field (drop (address_octets lengths) rest))))
with_field field octets = []

-- a packet of the connection on the line: a Call has no facilities, and a Call Accepted has three octets
abbrev pub over_line : ContentValue → List ℕ → List ℕ
over_line (CallRequest c) octets = with_field [] octets
over_line CallAccepted octets = take 3 octets
over_line content octets = octets

-- a packet of the line on the connection: a Call and a Call Accepted have packet size and window of the line, a Call
-- Accepted no addresses
abbrev pub over_connection : LineFlow → ContentValue → List ℕ → List ℕ
over_connection flow (CallRequest c) octets = with_field (put flow) octets
over_connection flow CallAccepted octets = take 3 octets ++ 0 ∷ 6 ∷ put flow
over_connection flow content octets = octets

abbrev pub packet_on : XotLine → (place : ℕ) → ContentValue → PacketValue
packet_on line place content =
    record { numbering = line.numbering; channel = channel_at place; content = content }

abbrev pub clear_on : XotLine → (place cause : ℕ) → List ℕ
clear_on line place cause = spelling (packet_on line place (ClearRequest cause 0))

abbrev pub confirmation_on : XotLine → (place : ℕ) → List ℕ
confirmation_on line place = spelling (packet_on line place ClearConfirmation)

abbrev pub restart_of : XotLine → List ℕ
restart_of line =
    spelling (record { numbering = line.numbering; channel = 0; content = RestartRequest 0 0 })

abbrev pub restart_confirmation_of : XotLine → List ℕ
restart_confirmation_of line =
    spelling (record { numbering = line.numbering; channel = 0; content = RestartConfirmation })
