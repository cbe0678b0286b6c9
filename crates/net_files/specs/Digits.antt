-- Hexadecimal digits.
use Rattle.std.specs.Prelude.{ℕ, ◌-◌, ◌&&◌, Option, Some, None, nat_le, if◌then◌else◌}

-- the value of a digit in either case: 48 is `0`, 65 is `A`, 97 is `a`
abbrev pub hex_value : ℕ → Option ℕ
hex_value digit =
    if nat_le 48 digit && nat_le digit 57 then Some (digit - 48)
    else if nat_le 65 digit && nat_le digit 70 then Some (digit - 55)
    else if nat_le 97 digit && nat_le digit 102 then Some (digit - 87)
    else None
