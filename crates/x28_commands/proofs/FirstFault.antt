-- The fault of a line is the first in number that it has.
use Rattle.std.proofs.Common.{◌≡◌, ℕ, suc, Bool, true, false, not, cond, ◌&&◌, ◌||◌, ◌==◌, nat_lt, List, [], ◌∷◌, length, drop, Option, Some, None, Result, Ok, Err, refl, arith}
use Rattle.std.specs.Prelude.{find, is_none}
use Rattle.std.specs.Option.{option_map_or}
use Rattle.std.specs.Char.{is_ascii_digit}
use borrow.Author.Tests.{ne_eqb}
use Rattle.arrayvec.specs.ArrayVec.{ArrayVec}
use Rattle.packet_codec.specs.Address.{address_of}
use Rattle.packet_codec.specs.declared.address.AddressFault.{AddressFault}
use Rattle.x28_commands.specs.Words.{is_blank, after_spaces, trimmed}
use Rattle.x28_commands.specs.Keywords.{keyword_of, arguments_of}
use Rattle.x28_commands.specs.Numbers.{number_of, pair_of, entries}
use Rattle.x28_commands.specs.Selection.{digits_of, after_digits, has_user_data, selection, selection_with, selection_of}
use Rattle.x28_commands.specs.Reading.{alone, with, limited, numbers_in, command_from, command_in, command_of}
use Rattle.x28_commands.specs.Faults.{is_unknown, lacks_numbers, has_many, is_long, is_no_address, is_bad_selection, has_long_data, has_fault, first_fault, fault_in}
use Rattle.x28_commands.specs.declared.command.Command.{Command}
use Rattle.x28_commands.specs.declared.command.Command.TheVariants as command
use Rattle.x28_commands.specs.declared.keyword.Keyword.{Keyword}
use Rattle.x28_commands.specs.declared.keyword.Keyword.TheVariants as keyword
use Rattle.x28_commands.specs.declared.fault.CommandFault.{CommandFault}
use Rattle.x28_commands.specs.declared.fault.CommandFault.TheVariants.{Unknown, BadNumber, BadAddress, TooLong}

nonempty : (n : ℕ) → (suc n == 0) ≡ false
nonempty n = ne_eqb (suc n) 0 (omega arith)

-- the first of the tests that holds
abbrev in_order : (unknown number address long : Bool) → Option CommandFault
in_order unknown number address long =
    cond unknown (Some Unknown) (cond number (Some BadNumber) (cond address (Some BadAddress) (cond long (Some TooLong) None)))

alone_fault : (c : Command) (rest : List ℕ) → fault_in (alone c rest) ≡ in_order (not (length rest == 0)) false false (false || false)
alone_fault c [] = refl
alone_fault c (o ∷ os) = rw (nonempty (length os)) refl

profile_fault : (o : Option ℕ) → fault_in (with command.Profile (option_map_or Ok o (Err BadNumber))) ≡ in_order false (is_none o) false (false || false)
profile_fault None = refl
profile_fault (Some n) = refl

guarded_fault : {A : Type 0} → (made : ArrayVec A → Command) (b : Bool) (v : ArrayVec A) →
    fault_in (with made (cond b (Err TooLong) (Ok v))) ≡ cond (b || false) (Some TooLong) None
guarded_fault made true v = refl
guarded_fault made false v = refl

limited_fault : {A : Type 0} → (made : ArrayVec A → Command) (o : Option (List A)) →
    fault_in (with made (limited o)) ≡ in_order false (is_none o) false (is_long o || false)
limited_fault made None = refl
limited_fault made (Some xs) = guarded_fault made (nat_lt 18 (length xs)) (record { items = xs })

none_numbers : entries number_of [] ≡ None
unfolding entries number_of
none_numbers = refl

numbers_fault : (rest : List ℕ) → fault_in (with command.Read (numbers_in rest)) ≡
    in_order false (not (length rest == 0) && is_none (entries number_of rest)) false (is_long (entries number_of rest) || false)
numbers_fault [] = rw none_numbers refl
numbers_fault (o ∷ os) = rw (nonempty (length os)) (limited_fault command.Read (entries number_of (o ∷ os)))

command_fault : (k : Option Keyword) (rest : List ℕ) → fault_in (command_from k rest) ≡ in_order (is_unknown k rest) (lacks_numbers k rest) false (has_many k rest || false)
command_fault None rest = refl
command_fault (Some keyword.Status) rest = alone_fault command.Status rest
command_fault (Some keyword.Clear) rest = alone_fault command.Clear rest
command_fault (Some keyword.Interrupt) rest = alone_fault command.Interrupt rest
command_fault (Some keyword.Reset) rest = alone_fault command.Reset rest
command_fault (Some keyword.Profile) rest = profile_fault (number_of rest)
command_fault (Some keyword.Read) rest = numbers_fault rest
command_fault (Some keyword.Set) rest = limited_fault command.Set (entries pair_of rest)
command_fault (Some keyword.SetAndRead) rest = limited_fault command.SetAndRead (entries pair_of rest)

selection_fault : (found : Result (List ℕ) AddressFault) (rest : List ℕ) →
    fault_in (with command.Select (selection_with found rest)) ≡
    in_order false false (is_no_address found || not (is_blank rest || has_user_data rest)) (false || has_long_data rest)
selection_fault (Err f) rest = refl
selection_fault (Ok a) rest = go (is_blank rest) (has_user_data rest) (nat_lt 12 (length (drop 1 rest)))
  where
    go : (blank marked long : Bool) →
        fault_in (with command.Select (cond blank (Ok (selection a []))
        (cond marked (cond long (Err TooLong) (Ok (selection a (drop 1 rest)))) (Err BadAddress))))
        ≡ in_order false false (false || not (blank || marked)) (false || (not blank && marked && long))
    go true marked long = refl
    go false true true = refl
    go false true false = refl
    go false false long = refl

by_tests : (digit none : Bool) (text : List ℕ) → none ≡ false →
    fault_in (cond digit (with command.Select (selection_of text)) (command_from (keyword_of (trimmed text)) (arguments_of (trimmed text))))
    ≡ in_order
    ((not digit && not none) && is_unknown (keyword_of (trimmed text)) (arguments_of (trimmed text)))
    ((not digit && not none) && lacks_numbers (keyword_of (trimmed text)) (arguments_of (trimmed text)))
    (digit && is_bad_selection (digits_of text) (after_digits text))
    (((not digit && not none) && has_many (keyword_of (trimmed text)) (arguments_of (trimmed text))) || (digit && has_long_data (after_digits text)))
unfolding selection_of
by_tests true none text h = selection_fault (address_of (digits_of text)) (after_digits text)
by_tests false true text h = cc
by_tests false false text h = command_fault (keyword_of (trimmed text)) (arguments_of (trimmed text))

text_fault : (text : List ℕ) → fault_in (command_in text) ≡ find (has_fault text) (Unknown ∷ BadNumber ∷ BadAddress ∷ TooLong ∷ [])
text_fault [] = refl
text_fault (o ∷ os) = by_tests (is_ascii_digit o) (length {A = ℕ} (o ∷ os) == 0) (o ∷ os) (nonempty (length os))

-- the fault is the first that the line has
pub line_fault : (line : List ℕ) → fault_in (command_of line) ≡ first_fault line
unfolding command_of
line_fault line = go (nat_lt 64 (length line))
  where
    go : (b : Bool) → fault_in (cond b (Err TooLong) (command_in (after_spaces line))) ≡
        cond b (Some TooLong) (find (has_fault (after_spaces line)) (Unknown ∷ BadNumber ∷ BadAddress ∷ TooLong ∷ []))
    go true = refl
    go false = text_fault (after_spaces line)
