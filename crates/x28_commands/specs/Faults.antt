-- The faults of a command line (X.28 3.2), each a test of the line, and the first one in number.
use Rattle.std.specs.Prelude.{ℕ, Bool, true, false, not, ◌&&◌, ◌||◌, ◌==◌, nat_lt, if◌then◌else◌, List, [], ◌∷◌}
use Rattle.std.specs.Prelude.{length, drop, find, Option, Some, None, is_none, Result, Ok, Err}
use Rattle.std.specs.Char.{is_ascii_digit}
use Rattle.packet_codec.specs.Address.{address_of}
use Rattle.packet_codec.specs.declared.address.AddressFault.{AddressFault}
use Rattle.x28_commands.specs.Words.{is_blank, after_spaces, trimmed, first}
use Rattle.x28_commands.specs.Keywords.{keyword_of, arguments_of}
use Rattle.x28_commands.specs.Numbers.{number_of, pair_of, entries}
use Rattle.x28_commands.specs.Selection.{digits_of, after_digits, has_user_data}
use Rattle.x28_commands.specs.declared.keyword.Keyword.{Keyword}
use Rattle.x28_commands.specs.declared.keyword.Keyword.TheVariants.{Status, Clear, Interrupt, Reset, Profile, Read}
use Rattle.x28_commands.specs.declared.keyword.Keyword.TheVariants.{Set, SetAndRead}
use Rattle.x28_commands.specs.declared.fault.CommandFault.{CommandFault}
use Rattle.x28_commands.specs.declared.fault.CommandFault.TheVariants.{Unknown, BadNumber, BadAddress, TooLong}

-- a keyword that nothing may follow
abbrev pub stands_alone : Keyword → Bool
stands_alone Status = true
stands_alone Clear = true
stands_alone Interrupt = true
stands_alone Reset = true
stands_alone Profile = false
stands_alone Read = false
stands_alone Set = false
stands_alone SetAndRead = false

-- no keyword, or something after one that stands alone
abbrev pub is_unknown : Option Keyword → List ℕ → Bool
is_unknown None rest = true
is_unknown (Some k) rest = stands_alone k && not (length rest == 0)

-- no number, or no list, where there has to be one
abbrev pub lacks_numbers : Option Keyword → List ℕ → Bool
lacks_numbers (Some Profile) rest = is_none (number_of rest)
lacks_numbers (Some Read) rest = not (length rest == 0) && is_none (entries number_of rest)
lacks_numbers (Some Set) rest = is_none (entries pair_of rest)
lacks_numbers (Some SetAndRead) rest = is_none (entries pair_of rest)
lacks_numbers _ rest = false

-- more than 18 entries
abbrev pub is_long : {A : Type 0} → Option (List A) → Bool
is_long None = false
is_long (Some xs) = nat_lt 18 (length xs)

abbrev pub has_many : Option Keyword → List ℕ → Bool
has_many (Some Read) rest = is_long (entries number_of rest)
has_many (Some Set) rest = is_long (entries pair_of rest)
has_many (Some SetAndRead) rest = is_long (entries pair_of rest)
has_many _ rest = false

abbrev pub is_no_address : Result (List ℕ) AddressFault → Bool
is_no_address (Ok address) = false
is_no_address (Err fault) = true

-- no address, or something else after it than spaces or user data
abbrev pub is_bad_selection : List ℕ → List ℕ → Bool
is_bad_selection digits rest = is_no_address (address_of digits) || not (is_blank rest || has_user_data rest)

-- more than 12 octets of user data
abbrev pub has_long_data : List ℕ → Bool
has_long_data rest = not (is_blank rest) && has_user_data rest && nat_lt 12 (length (drop 1 rest))

-- a text without leading spaces is a selection, or begins with a keyword
abbrev pub is_selection : List ℕ → Bool
is_selection text = is_ascii_digit (first text)

abbrev pub is_command : List ℕ → Bool
is_command text = not (is_selection text) && not (length text == 0)

abbrev pub has_fault : List ℕ → CommandFault → Bool
has_fault text Unknown = is_command text && is_unknown (keyword_of (trimmed text)) (arguments_of (trimmed text))
has_fault text BadNumber = is_command text && lacks_numbers (keyword_of (trimmed text)) (arguments_of (trimmed text))
has_fault text BadAddress = is_selection text && is_bad_selection (digits_of text) (after_digits text)
has_fault text TooLong =
    (is_command text && has_many (keyword_of (trimmed text)) (arguments_of (trimmed text)))
    || (is_selection text && has_long_data (after_digits text))

-- a line of more than 64 octets is too long before all else
abbrev pub first_fault : List ℕ → Option CommandFault
first_fault line =
    if nat_lt 64 (length line) then Some TooLong
    else find (has_fault (after_spaces line)) (Unknown ∷ BadNumber ∷ BadAddress ∷ TooLong ∷ [])

abbrev pub fault_in : {A : Type 0} → Result A CommandFault → Option CommandFault
fault_in (Ok x) = None
fault_in (Err fault) = Some fault
