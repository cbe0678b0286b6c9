-- What goes over a connection after the hello: frames, and the signs of the line itself.
use Rattle.std.specs.Prelude.{ℕ, ◌/◌, ◌%◌, ◌==◌, List, [], ◌∷◌, length, Option, Some, None, if◌then◌else◌, Bool, nat_lt, nat_le, ◌&&◌}
use Rattle.line_carriers.specs.declared.sign.Sign.{Sign}
use Rattle.line_carriers.specs.declared.sign.Sign.TheVariants.{StillHere, Starting, Ready, Open}

-- the octet of a sign
abbrev pub code : Sign → ℕ
code StillHere = 0
code Starting = 1
code Ready = 2
code Open = 3

abbrev pub sign_of : ℕ → Option Sign
sign_of octet =
    if octet == 0 then Some StillHere
    else if octet == 1 then Some Starting
    else if octet == 2 then Some Ready
    else if octet == 3 then Some Open
    else None

-- a frame: its length in two octets, the high one first, and its octets
abbrev pub frame_form : List ℕ → List ℕ
frame_form frame = length frame / 256 ∷ length frame % 256 ∷ frame

-- a sign: a length of 0, and its octet
abbrev pub sign_form : Sign → List ℕ
sign_form sign = 0 ∷ 0 ∷ code sign ∷ []

-- the lengths that a frame has
abbrev pub is_frame : List ℕ → Bool
is_frame frame = nat_lt 0 (length frame) && nat_le (length frame) 1030
