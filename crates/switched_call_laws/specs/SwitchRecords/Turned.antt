-- The book of a line as one end of it sees it: its own side is the DCE's, and that of the other end is the DTE's.
use Rattle.link_timers.specs.declared.role.Role.{Role}
use Rattle.link_timers.specs.Role.{other_of}
use Rattle.call_records.specs.Book.{Book, side_of}

-- the same records and pairs, with the two sides exchanged
abbrev pub turned : Book → Book
turned b = record { records = b.records; pairs = b.pairs; dte = b.dce; dce = b.dte }

-- the book as the end of this role sees it: at the DCE it is as it stands, and at the DTE it is turned
abbrev pub sight : Role → Book → Book
sight role b = record { records = b.records; pairs = b.pairs; dte = side_of (other_of role) b; dce = side_of role b }
