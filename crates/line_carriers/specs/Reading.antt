-- What is read of the octets that came after the hello.
use Rattle.std.specs.Prelude.{ℕ, ◌+◌, ◌==◌, List, length, take, drop, slice_get, Option, Some, None, Result, Ok, Err, if◌then◌else◌, nat_lt}
use Rattle.octet_rings.specs.Numbers.{number_of}
use Rattle.line_carriers.specs.declared.fault.CarrierFault.{CarrierFault}
use Rattle.line_carriers.specs.declared.fault.CarrierFault.TheVariants.{TooLong, UnknownSign}
use Rattle.line_carriers.specs.declared.sign.Sign.{Sign}
use Rattle.line_carriers.specs.declared.wire.Item.{Item}
use Rattle.line_carriers.specs.declared.wire.Item.TheVariants as item
use Rattle.line_carriers.specs.Wire.{sign_of}

-- what stands first: a part of something, a whole frame or sign with what comes after it, or what ends the connection
pub data First : Type 0 where
  part : First
  frame : (octets rest : List ℕ) → First
  sign : (sign : Sign) → (rest : List ℕ) → First
  broken : CarrierFault → First

-- the length that stands first
abbrev pub first_length : List ℕ → Option ℕ
first_length octets = number_of (slice_get octets 0) (slice_get octets 1)

abbrev pub sign_in : Option Sign → (rest : List ℕ) → First
sign_in (Some it) rest = sign it rest
sign_in None rest = broken UnknownSign

abbrev pub sign_by : Option ℕ → (rest : List ℕ) → First
sign_by (Some octet) rest = sign_in (sign_of octet) rest
sign_by None rest = part

-- after a length of 0: the sign
abbrev pub first_sign : List ℕ → First
first_sign octets = sign_by (slice_get octets 2) (drop 3 octets)

abbrev pub by_length : Option ℕ → List ℕ → First
by_length None octets = part
by_length (Some count) octets =
    if count == 0 then first_sign octets
    else if nat_lt 1030 count then broken TooLong
    else if nat_lt (length octets) (2 + count) then part
    else frame (take count (drop 2 octets)) (drop count (drop 2 octets))

abbrev pub first_item : List ℕ → First
first_item octets = by_length (first_length octets) octets

-- what is answered
abbrev pub answer_of : First → Result (Option Item) CarrierFault
answer_of part = Ok None
answer_of (frame octets rest) = Ok (Some item.Frame)
answer_of (sign it rest) = Ok (Some (item.Sign it))
answer_of (broken fault) = Err fault

-- what the buffer for a frame holds then
abbrev pub frame_after : List ℕ → First → List ℕ
frame_after old (frame octets rest) = octets
frame_after old _ = old

-- what is left to be read
abbrev pub rest_after : List ℕ → First → List ℕ
rest_after octets (frame _ rest) = rest
rest_after octets (sign _ rest) = rest
rest_after octets _ = octets
