-- Data forwarding characters (X.3 3.3).
use Rattle.std.specs.Prelude.{ℕ, Bool, ◌&&◌, ◌||◌, ◌==◌, nat_le, if◌then◌else◌, List}
use Rattle.x3_params.specs.Values.{value, has_bit}

abbrev pub is_from : ℕ → ℕ → ℕ → Bool
is_from a b o = nat_le a o && nat_le o b

abbrev pub is_alphanumeric : ℕ → Bool
is_alphanumeric o = is_from 0x30 0x39 o || is_from 0x41 0x5A o || is_from 0x61 0x7A o

-- the term of the sum that stands for an octet, or 0 where none does
unfoldable pub class_of : ℕ → ℕ
class_of o =
    if is_alphanumeric o then 1
    -- carriage return
    else if o == 0x0D then 2
    -- ESC, BEL, ENQ, ACK
    else if (o == 0x1B) || (o == 0x07) || (o == 0x05) || (o == 0x06) then 4
    -- DEL, CAN, DC2
    else if (o == 0x7F) || (o == 0x18) || (o == 0x12) then 8
    -- ETX, EOT
    else if (o == 0x03) || (o == 0x04) then 16
    -- HT, LF, VT, FF
    else if is_from 0x09 0x0C o then 32
    -- all other control characters
    else if nat_le o 0x1F then 64
    else 0

-- the octet is a data forwarding character
abbrev pub is_forwarding : List ℕ → ℕ → Bool
is_forwarding p o = has_bit (value p 3) (class_of o)
