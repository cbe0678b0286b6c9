-- Reading a command line (X.28 3.2): the command that it says, or its fault.
use Rattle.std.specs.Prelude.{ℕ, nat_lt, if◌then◌else◌, List, [], ◌∷◌, length, Option, Some, None, Result, Ok, Err}
use Rattle.std.specs.Option.{option_map_or}
use Rattle.arrayvec.specs.ArrayVec.{ArrayVec}
use Rattle.std.specs.Char.{is_ascii_digit}
use Rattle.x28_commands.specs.Words.{after_spaces, trimmed}
use Rattle.x28_commands.specs.Keywords.{keyword_of, arguments_of}
use Rattle.x28_commands.specs.Numbers.{number_of, pair_of, entries}
use Rattle.x28_commands.specs.Selection.{selection_of}
use Rattle.x28_commands.specs.declared.command.Command.{Command}
use Rattle.x28_commands.specs.declared.command.Command.TheVariants as command
use Rattle.x28_commands.specs.declared.keyword.Keyword.{Keyword}
use Rattle.x28_commands.specs.declared.keyword.Keyword.TheVariants as keyword
use Rattle.x28_commands.specs.declared.fault.CommandFault.{CommandFault}
use Rattle.x28_commands.specs.declared.fault.CommandFault.TheVariants.{Unknown, BadNumber, TooLong}

abbrev pub Answer : Type 0
Answer = Result Command CommandFault

-- a keyword that nothing may follow
abbrev pub alone : Command → List ℕ → Answer
alone c [] = Ok c
alone c (o ∷ os) = Err Unknown

-- a command with what it takes
abbrev pub with : {A : Type 0} → (A → Command) → Result A CommandFault → Answer
with made (Ok x) = Ok (made x)
with made (Err fault) = Err fault

abbrev pub number_in : List ℕ → Result ℕ CommandFault
number_in text = option_map_or Ok (number_of text) (Err BadNumber)

-- a list of at most 18 entries
abbrev pub limited : {A : Type 0} → Option (List A) → Result (ArrayVec A) CommandFault
limited None = Err BadNumber
limited (Some xs) = if nat_lt 18 (length xs) then Err TooLong else Ok (record { items = xs })

-- of no numbers for all
abbrev pub numbers_in : List ℕ → Result (ArrayVec ℕ) CommandFault
numbers_in [] = Ok (record { items = [] })
numbers_in (o ∷ os) = limited (entries number_of (o ∷ os))

abbrev pub pairs_in : List ℕ → Result (ArrayVec (ℕ × ℕ)) CommandFault
pairs_in text = limited (entries pair_of text)

-- a keyword, and what follows it
abbrev pub command_from : Option Keyword → List ℕ → Answer
command_from (Some keyword.Status) text = alone command.Status text
command_from (Some keyword.Clear) text = alone command.Clear text
command_from (Some keyword.Interrupt) text = alone command.Interrupt text
command_from (Some keyword.Reset) text = alone command.Reset text
command_from (Some keyword.Profile) text = with command.Profile (number_in text)
command_from (Some keyword.Read) text = with command.Read (numbers_in text)
command_from (Some keyword.Set) text = with command.Set (pairs_in text)
command_from (Some keyword.SetAndRead) text = with command.SetAndRead (pairs_in text)
command_from None text = Err Unknown

-- a text without leading spaces
abbrev pub command_in : List ℕ → Answer
command_in [] = Ok command.Empty
command_in (o ∷ os) =
    if is_ascii_digit o then with command.Select (selection_of (o ∷ os))
    else command_from (keyword_of (trimmed (o ∷ os))) (arguments_of (trimmed (o ∷ os)))

-- the most octets of a line
abbrev pub line_limit : ℕ
line_limit = 64

unfoldable pub command_of : List ℕ → Answer
command_of line = if nat_lt line_limit (length line) then Err TooLong else command_in (after_spaces line)
