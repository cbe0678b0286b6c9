-- What contracts see of the code's register: the book is open at one line, if at any, and the ends of that line are in
-- it.
use Rattle.std.specs.Prelude.{◌≡◌, ℕ, ◌<◌, List, map, set, length, Option, Some, None}
use Rattle.call_records.specs.Book.{Book}
use Rattle.call_records.specs.Register.{LineEnds}
use Rattle.call_records.specs.Register as spec
use Rattle.call_records.specs.declared.ends.Ends.{Ends}
use Rattle.call_records.specs.declared.register.ChannelEnd.{ChannelEnd}
use Rattle.call_records.specs.declared.register.Register.{Register}

abbrev pub end_of : ChannelEnd → spec.ChannelEnd
end_of e = record { line = e.line; role = e.role; channel = e.channel }

abbrev pub ends_of : Ends → LineEnds
ends_of e = record { dte = e.dte; dce = e.dce }

abbrev pub lines_of : List Ends → List LineEnds
lines_of lines = map ends_of lines

abbrev pub ends_in : Book → LineEnds
ends_in b = record { dte = b.dte; dce = b.dce }

-- the book with other ends, if there are any
abbrev pub with_ends : Option LineEnds → Book → Book
with_ends None b = b
with_ends (Some ends) b = record b { dte = ends.dte; dce = ends.dce }

abbrev pub register_with : Option ℕ → Book → List LineEnds → spec.Register
register_with None b lines = record { records = b.records; pairs = b.pairs; lines = lines }
register_with (Some line) b lines =
    record { records = b.records; pairs = b.pairs; lines = set lines line (ends_in b) }

abbrev pub register_of : Register → spec.Register
register_of r = register_with r.open r.book.book (lines_of r.lines.items)

-- the book is open at this line, which there is
pub record IsOpen (line : ℕ) (r : Register) : Type 0 where
  pub at : r.open ≡ Some line
  pub there : line < length r.lines.items

-- the book is open at no line
abbrev pub IsClosed : Register → Type 0
IsClosed r = r.open ≡ None
