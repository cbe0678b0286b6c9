-- The selection of a call (X.28 3.2.2): the digits of an address, and user data after a D or a P.
use Rattle.std.specs.Prelude.{ℕ, Bool, ◌&&◌, ◌||◌, ◌==◌, nat_lt, if◌then◌else◌, List, [], take, drop, length}
use Rattle.std.specs.Prelude.{slice_index, Result, Ok, Err}
use Rattle.std.specs.List.{list_all}
use Rattle.std.specs.Char.{is_ascii_digit}
use Rattle.packet_codec.specs.Address.{address_of}
use Rattle.packet_codec.specs.declared.address.AddressFault.{AddressFault}
use Rattle.x28_commands.specs.Words.{after_spaces, is_blank, is_graphic, first, run}
use Rattle.x28_commands.specs.declared.command.Selection.{Selection}
use Rattle.x28_commands.specs.declared.fault.CommandFault.{CommandFault}
use Rattle.x28_commands.specs.declared.fault.CommandFault.TheVariants.{BadAddress, TooLong}

-- the digits at the front of a text, and what follows them
abbrev pub digits_of : List ℕ → List ℕ
digits_of text = take (run is_ascii_digit text) text

abbrev pub after_digits : List ℕ → List ℕ
after_digits text = drop (run is_ascii_digit text) text

-- D or P, and then graphic characters alone
abbrev pub has_user_data : List ℕ → Bool
has_user_data rest = ((first rest == 0x44) || (first rest == 0x50)) && list_all is_graphic (drop 1 rest)

abbrev pub selection : List ℕ → List ℕ → Selection
selection address user_data = record { address = address; user_data = record { items = user_data } }

abbrev pub selection_with : Result (List ℕ) AddressFault → List ℕ → Result Selection CommandFault
selection_with (Err fault) rest = Err BadAddress
selection_with (Ok address) rest =
    if is_blank rest then Ok (selection address [])
    else if has_user_data rest
    then if nat_lt 12 (length (drop 1 rest)) then Err TooLong else Ok (selection address (drop 1 rest))
    else Err BadAddress

-- a text that begins with a digit
unfoldable pub selection_of : List ℕ → Result Selection CommandFault
selection_of text = selection_with (address_of (digits_of text)) (after_digits text)

-- a line that has come to the user data after a P, which is not echoed
abbrev pub hides_echo : List ℕ → Bool
hides_echo line =
    nat_lt 0 (run is_ascii_digit (after_spaces line))
    && (slice_index (after_spaces line) (run is_ascii_digit (after_spaces line)) == 0x50)
