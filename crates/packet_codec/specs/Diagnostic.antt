-- What a cause is due to, more closely (X.25 annex E).
use Rattle.std.specs.Prelude.{ℕ, ◌+◌}

abbrev pub no_information : ℕ
no_information = 0

abbrev pub invalid_send_number : ℕ
invalid_send_number = 1

abbrev pub invalid_receive_number : ℕ
invalid_receive_number = 2

-- a packet that has no place in r1
abbrev pub not_allowed_in_r1 : ℕ
not_allowed_in_r1 = 17

-- a packet that has no place in the state p1 to p7 of this number
abbrev pub not_allowed_in_p : ℕ → ℕ
not_allowed_in_p number = 19 + number

-- a packet that has no place in d1
abbrev pub not_allowed_in_d1 : ℕ
not_allowed_in_d1 = 27
