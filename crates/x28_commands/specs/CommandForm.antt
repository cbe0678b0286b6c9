-- The grammar of a command line (X.28 3.2), as a relation between a line and the command that it says.
use Rattle.std.specs.Prelude.{◌≡◌, ℕ, ◌≤◌, ◌⊎◌, List, [], ◌∷◌, ◌++◌, length, map, codes, IsTrue, Ok}
use Rattle.std.specs.List.{list_all}
use Rattle.std.specs.Char.{to_ascii_uppercase}
use Rattle.packet_codec.specs.Address.{address_of}
use Rattle.x28_commands.specs.Words.{is_blank, is_graphic}
use Rattle.x28_commands.specs.Numbers.{IsNumber, IsPair, IsList}
use Rattle.x28_commands.specs.declared.command.Command.{Command}
use Rattle.x28_commands.specs.declared.command.Command.TheVariants.{Empty, Status, Clear, Interrupt, Reset, Profile}
use Rattle.x28_commands.specs.declared.command.Command.TheVariants.{Read, Set, SetAndRead, Select}
use Rattle.x28_commands.specs.declared.command.Selection.{Selection}
use Rattle.x28_commands.specs.declared.keyword.Keyword.{Keyword}
use Rattle.x28_commands.specs.declared.keyword.Keyword.TheVariants as keyword

-- how a keyword is spelled
abbrev pub name_of : Keyword → List ℕ
name_of keyword.Status = codes "STAT"
name_of keyword.Clear = codes "CLR"
name_of keyword.Interrupt = codes "INT"
name_of keyword.Reset = codes "RESET"
name_of keyword.Profile = codes "PROF"
name_of keyword.Read = codes "PAR?"
name_of keyword.Set = codes "SET"
name_of keyword.SetAndRead = codes "SET?"

-- the line is spaces, the keyword in either case, spaces, the text, and spaces
pub record Worded (line : List ℕ) (k : Keyword) (text : List ℕ) : Type 0 where
  pub lead : List ℕ
  pub word : List ℕ
  pub gap : List ℕ
  pub trail : List ℕ
  pub whole : line ≡ lead ++ (word ++ (gap ++ (text ++ trail)))
  pub lead_blank : IsTrue (is_blank lead)
  pub word_is : map to_ascii_uppercase word ≡ name_of k
  pub gap_blank : IsTrue (is_blank gap)
  pub trail_blank : IsTrue (is_blank trail)

-- a list of at most 18 entries
pub record IsShortList (A : Type 0) (Entry : List ℕ → A → Type 0) (text : List ℕ) (xs : List A) : Type 0 where
  pub list : IsList A Entry text xs
  pub few : length xs ≤ 18

-- after the digits of a selection: spaces, or D or P and at most 12 graphic characters
pub data UserData : List ℕ → List ℕ → Type 0 where
  none : {rest : List ℕ} → IsTrue (is_blank rest) → UserData rest []
  some : {octets : List ℕ} → (mark : ℕ) → (mark ≡ 0x44) ⊎ (mark ≡ 0x50) → IsTrue (list_all is_graphic octets)
      → length octets ≤ 12 →
      UserData (mark ∷ octets) octets

-- the line is spaces, the digits of the address, and user data
pub record Selects (line : List ℕ) (selection : Selection) : Type 0 where
  pub lead : List ℕ
  pub digits : List ℕ
  pub rest : List ℕ
  pub whole : line ≡ lead ++ (digits ++ rest)
  pub lead_blank : IsTrue (is_blank lead)
  pub address : address_of digits ≡ Ok selection.address
  pub user_data : UserData rest selection.user_data.items

-- what follows a keyword, and the command that the two say
pub data ArgumentsForm : Keyword → List ℕ → Command → Type 0 where
  status : ArgumentsForm keyword.Status [] Status
  clear : ArgumentsForm keyword.Clear [] Clear
  interrupt : ArgumentsForm keyword.Interrupt [] Interrupt
  reset : ArgumentsForm keyword.Reset [] Reset
  profile : {text : List ℕ} {n : ℕ} → IsNumber text n → ArgumentsForm keyword.Profile text (Profile n)
  read_all : ArgumentsForm keyword.Read [] (Read (record { items = [] }))
  read : {text ns : List ℕ} → IsShortList ℕ IsNumber text ns
      → ArgumentsForm keyword.Read text (Read (record { items = ns }))
  set : {text : List ℕ} {ps : List (ℕ × ℕ)} → IsShortList (ℕ × ℕ) IsPair text ps
      → ArgumentsForm keyword.Set text (Set (record { items = ps }))
  set_and_read : {text : List ℕ} {ps : List (ℕ × ℕ)} → IsShortList (ℕ × ℕ) IsPair text ps →
      ArgumentsForm keyword.SetAndRead text (SetAndRead (record { items = ps }))

-- the line, of at most 64 octets, says the command
pub data CommandForm : List ℕ → Command → Type 0 where
  empty : {line : List ℕ} → length line ≤ 64 → IsTrue (is_blank line) → CommandForm line Empty
  selects : {line : List ℕ} {selection : Selection} → length line ≤ 64 → Selects line selection
      → CommandForm line (Select selection)
  worded : {line : List ℕ} (k : Keyword) (text : List ℕ) {c : Command} → length line ≤ 64 → Worded line k text
      → ArgumentsForm k text c →
      CommandForm line c
