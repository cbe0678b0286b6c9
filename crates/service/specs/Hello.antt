-- The first line that a service is sent: who calls.
use Rattle.std.specs.Prelude.{ℕ, ◌+◌, ◌/◌, ◌%◌, List, [], ◌∷◌, ◌++◌, map, flat_map, codes, nat_lt, Option, Some, None, if◌then◌else◌}

-- what is not told is a hyphen
abbrev pub digits_text : Option (List ℕ) → List ℕ
digits_text None = codes "-"
digits_text (Some digits) = map (λ digit. 48 + digit % 10) digits

abbrev pub hexadecimal : ℕ → ℕ
hexadecimal number = if nat_lt number 10 then 48 + number else 87 + number

abbrev pub octet_text : ℕ → List ℕ
octet_text octet = hexadecimal (octet / 16) ∷ hexadecimal (octet % 16) ∷ []

abbrev pub octets_text : List ℕ → List ℕ
octets_text [] = codes "-"
octets_text (octet ∷ octets) = flat_map octet_text (octet ∷ octets)

-- `CALL`, the calling address, the called one, and the user data
abbrev pub hello_line : (calling called : Option (List ℕ)) → (user_data : List ℕ) → List ℕ
hello_line calling called user_data =
    codes "CALL " ++ digits_text calling ++ codes " " ++ digits_text called ++ codes " " ++ octets_text user_data ++ codes "\r\n"
