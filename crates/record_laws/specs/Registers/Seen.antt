-- The register of a network and the books of its lines: it has what they have, each book being of one line alone, with
-- records and pairs numbered by the line.
use Rattle.std.specs.Prelude.{◌≡◌, ℕ, suc, ◌<◌, if◌then◌else◌, ◌==◌, List, [], ◌∷◌, length, slice_get}
use Rattle.std.specs.Prelude.{Option, Some, None}
use Rattle.link_timers.specs.declared.role.Role.{Role}
use Rattle.call_records.specs.Records.{RecordValue, PairValue}
use Rattle.call_records.specs.Book.{Book, Slot, Side, nth_slot, side_of}
use Rattle.call_records.specs.Register.{Register, book_at}

-- ---- which line each record and each pair is of

-- the places at which a list of lines has this line, in rising order, the first of the list being at `place`
abbrev pub positions_from : (place line : ℕ) → List ℕ → List ℕ
positions_from place line [] = []
positions_from place line (owner ∷ owners) =
    if owner == line then place ∷ positions_from (suc place) line owners else positions_from (suc place) line owners

abbrev pub positions : (line : ℕ) → List ℕ → List ℕ
positions line owners = positions_from 0 line owners

-- ---- a line

-- a number of the line's book, and the number of the register that stands for it
abbrev pub IsNumbered : (numbers : List ℕ) → (own seen : Option ℕ) → Type 0
IsNumbered numbers None None = Unit {0}
IsNumbered numbers (Some i) (Some n) = slice_get numbers i ≡ Some n
IsNumbered numbers _ _ = ⊥

-- a record of the book is this one of the register, but for its number and that of its caller's
abbrev pub renumbered : (number : ℕ) → (caller : Option ℕ) → RecordValue → RecordValue
renumbered number caller r = record r { number = number; caller = caller }

pub record RecordIsSeen (numbers : List ℕ) (own seen : List RecordValue) (i n : ℕ) : Type 0 where
  pub value : RecordValue
  pub caller : Option ℕ
  pub own_there : slice_get own i ≡ Some value
  pub seen_there : slice_get seen n ≡ Some (renumbered n caller value)
  pub numbered : IsNumbered numbers value.caller caller

pub record PairIsSeen (numbers : List ℕ) (own seen : List PairValue) (i n : ℕ) : Type 0 where
  pub own_pair : PairValue
  pub seen_pair : PairValue
  pub own_there : slice_get own i ≡ Some own_pair
  pub seen_there : slice_get seen n ≡ Some seen_pair
  pub caller : slice_get numbers own_pair.caller ≡ Some seen_pair.caller
  pub callee : slice_get numbers own_pair.callee ≡ Some seen_pair.callee

pub record SlotIsSeen (numbers : List ℕ) (own seen : Slot) : Type 0 where
  pub present : IsNumbered numbers own.present seen.present
  pub placed : IsNumbered numbers own.placed seen.placed
  pub caller : IsNumbered numbers own.caller seen.caller

pub record SideIsSeen (numbers : List ℕ) (own seen : Side) : Type 0 where
  pub node : seen.node ≡ own.node
  pub address : seen.address ≡ own.address
  pub channels : length seen.slots ≡ length own.slots
  pub slot : (channel : ℕ) → SlotIsSeen numbers (nth_slot own.slots channel) (nth_slot seen.slots channel)

-- `numbers` and `pair_numbers` are the register's numbers of the line's records and pairs, in the order of the book
pub record LineIsSeen (numbers pair_numbers : List ℕ) (own seen : Book) : Type 0 where
  pub count : length own.records ≡ length numbers
  pub records : (i n : ℕ) → slice_get numbers i ≡ Some n → RecordIsSeen numbers own.records seen.records i n
  pub pair_count : length own.pairs ≡ length pair_numbers
  pub pairs : (i n : ℕ) → slice_get pair_numbers i ≡ Some n → PairIsSeen numbers own.pairs seen.pairs i n
  pub sides : (role : Role) → SideIsSeen numbers (side_of role own) (side_of role seen)

-- ---- all lines

-- each is a line of the network
abbrev pub AreLines : (count : ℕ) → List ℕ → Type 0
AreLines count owners = (n line : ℕ) → slice_get owners n ≡ Some line → line < count

-- each record and each pair of the register is of one line, and what the register has of a line is what its book has
pub record Seen (g : Register) (books : List Book) : Type 0 where
  pub owners : List ℕ
  pub pair_owners : List ℕ
  pub records_owned : length owners ≡ length g.records
  pub pairs_owned : length pair_owners ≡ length g.pairs
  pub of_lines : AreLines (length books) owners
  pub pairs_of_lines : AreLines (length books) pair_owners
  pub lines : length g.lines ≡ length books
  pub line : (j : ℕ) (b : Book) → slice_get books j ≡ Some b
      → LineIsSeen (positions j owners) (positions j pair_owners) b (book_at j g)
