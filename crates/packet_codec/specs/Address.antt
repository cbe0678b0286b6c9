-- Addresses: one to fifteen decimal digits (X.25 5.2.1, X.121).
use Rattle.std.specs.Prelude.{◌≡◌, ℕ, ◌-◌, ◌≤◌, List, ◌++◌, length, take, replicate, map, IsTrue, Bool, nat_lt, nat_le}
use Rattle.std.specs.Prelude.{◌==◌, if◌then◌else◌, Result, Ok, Err}
use Rattle.std.specs.List.{list_all}
use Rattle.std.specs.Char.{is_ascii_digit}
use Rattle.packet_codec.specs.declared.address.Address.TheInside.{Inside}
use Rattle.packet_codec.specs.declared.address.AddressFault.{AddressFault}
use Rattle.packet_codec.specs.declared.address.AddressFault.TheVariants.{Empty, TooLong, NotADigit}

-- each is 0 to 9
abbrev pub are_decimal : List ℕ → Bool
are_decimal digits = list_all (λ digit. nat_le digit 9) digits

-- the digits of an address
abbrev pub AreDigits : List ℕ → Type 0
AreDigits digits = (1 ≤ length digits) × (length digits ≤ 15) × IsTrue (are_decimal digits)

-- the digits of an address, or none
abbrev pub MayBeDigits : List ℕ → Type 0
MayBeDigits digits = (length digits ≤ 15) × IsTrue (are_decimal digits)

-- each is one of the characters 0 to 9
abbrev pub are_digits : List ℕ → Bool
are_digits text = list_all is_ascii_digit text

-- what the characters 0 to 9 are worth
abbrev pub digit_values : List ℕ → List ℕ
digit_values text = map (λ octet. octet - 48) text

-- the address that a text of octets names, or why it names none
abbrev pub address_of : List ℕ → Result (List ℕ) AddressFault
address_of text =
    if length text == 0 then Err Empty
    else if nat_lt 15 (length text) then Err TooLong
    else if are_digits text then Ok (digit_values text)
    else Err NotADigit

-- the digits, and zeros up to fifteen
abbrev pub padded : List ℕ → List ℕ
padded digits = digits ++ replicate (15 - length digits) 0

abbrev pub digits_of : Inside → List ℕ
digits_of a = take a.len a.digits

pub record IsAddress (a : Inside) : Type 0 where
  pub are_digits : AreDigits (take a.len a.digits)
  pub len : length (take a.len a.digits) ≡ a.len
  pub rest : padded (take a.len a.digits) ≡ a.digits
