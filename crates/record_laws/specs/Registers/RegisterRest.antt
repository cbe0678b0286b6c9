-- Nothing is missing in the register of a network if nothing is missing in the books of its lines.
use Rattle.std.specs.Prelude.{◌≡◌, ℕ, List, slice_get, Some}
use Rattle.call_records.specs.Book.{Book}
use Rattle.call_records.specs.Register.{Register}
use Rattle.record_laws.specs.Books.BookRest.{NothingMissing}
use Rattle.record_laws.specs.Registers.Seen.{Seen}

abbrev pub RestLaw : Type 0
RestLaw = (g : Register) (books : List Book) → Seen g books
    → ((line : ℕ) (b : Book) → slice_get books line ≡ Some b → NothingMissing b.records b.pairs)
    → NothingMissing g.records g.pairs
