-- The keywords of commands (X.28 3.2): the longest run of letters, in either case, and a question mark after it.
use Rattle.std.specs.Prelude.{ℕ, ◌+◌, Bool, true, false, ◌&&◌, ◌==◌, if◌then◌else◌, List, [], ◌∷◌, take, drop}
use Rattle.std.specs.Prelude.{slice_index, Option, Some, None, codes}
use Rattle.std.specs.Char.{is_ascii_alphabetic, to_ascii_uppercase}
use Rattle.x28_commands.specs.Words.{after_spaces, run}
use Rattle.x28_commands.specs.declared.keyword.Keyword.{Keyword}
use Rattle.x28_commands.specs.declared.keyword.Keyword.TheVariants.{Status, Clear, Interrupt, Reset, Profile, Read}
use Rattle.x28_commands.specs.declared.keyword.Keyword.TheVariants.{Set, SetAndRead}

-- how many octets the keyword has at the front of a text
abbrev pub keyword_length : List ℕ → ℕ
keyword_length text =
    if slice_index text (run is_ascii_alphabetic text) == 0x3F
    then run is_ascii_alphabetic text + 1
    else run is_ascii_alphabetic text

-- a word spells a name, in either case
unfoldable pub spells : List ℕ → List ℕ → Bool
spells [] [] = true
spells (o ∷ os) (n ∷ ns) = (to_ascii_uppercase o == n) && spells os ns
spells [] (n ∷ ns) = false
spells (o ∷ os) [] = false

abbrev pub keyword_named : List ℕ → Option Keyword
keyword_named word =
    if spells word (codes "STAT") then Some Status
    else if spells word (codes "CLR") then Some Clear
    else if spells word (codes "INT") then Some Interrupt
    else if spells word (codes "RESET") then Some Reset
    else if spells word (codes "PROF") then Some Profile
    else if spells word (codes "PAR?") then Some Read
    else if spells word (codes "SET") then Some Set
    else if spells word (codes "SET?") then Some SetAndRead
    else None

-- the keyword that begins a text, if it is one
abbrev pub keyword_of : List ℕ → Option Keyword
keyword_of text = keyword_named (take (keyword_length text) text)

-- what follows the keyword, without the spaces between
abbrev pub arguments_of : List ℕ → List ℕ
arguments_of text = after_spaces (drop (keyword_length text) text)
