-- What contracts see of the code's book, and what always holds of it.
use Rattle.std.specs.Prelude.{◌≡◌, ℕ, ◌-◌, ◌≤◌, List, map, Some, vec_len, vec_capacity}
use Rattle.call_records.specs.Records.{RecordValue, PairValue}
use Rattle.call_records.specs.Book.{Book, Slot, nth_slot}
use Rattle.call_records.specs.Room.{BookState}
use Rattle.call_records.specs.RecordView.{shown, pair_of, PlacesAt, AreCounted}
use Rattle.call_records.specs.declared.record.Record.{Record}
use Rattle.call_records.specs.declared.ends.Ends.{Ends}
use Rattle.call_records.specs.declared.book.Book.TheInside.{Inside}

-- the book of these records and pairs, and of these ends
abbrev pub book_with : List RecordValue → List PairValue → Ends → Book
book_with records pairs ends = record { records = records; pairs = pairs; dte = ends.dte; dce = ends.dce }

abbrev pub book_of : Inside → Book
book_of a = book_with (map shown a.records.items) (map pair_of a.pairs.items) a.ends

abbrev pub state_of : Inside → BookState
state_of a = record { book = book_of a; room = a.room; pairs = a.pair_room }

-- the record of the present call on each channel, where there is one, counts so many places
abbrev pub CallsHavePlaces : (room : ℕ) → List Slot → List Record → Type 0
CallsHavePlaces room slots records = (channel number : ℕ) → (nth_slot slots channel).present ≡ Some number →
    PlacesAt room number records

-- the lists of records and pairs have the places, and the record of each present call counts so many; there is no room
-- beyond them, but that pairs may have more; each record of any line has the places that it counts; the lists of records
-- and pairs have 40 places at least
pub record HasRoom (a : Inside) : Type 0 where
  pub room : a.room ≤ a.places
  pub records : a.places ≤ vec_capacity a.records - vec_len a.records
  pub pairs : a.places ≤ vec_capacity a.pairs - vec_len a.pairs
  pub pair_room : a.pair_room ≤ vec_capacity a.pairs - vec_len a.pairs
  pub most_records : 40 ≤ vec_capacity a.records
  pub most_pairs : 40 ≤ vec_capacity a.pairs
  pub counted : AreCounted a.records.items
  pub dte : CallsHavePlaces a.places a.ends.dte.slots a.records.items
  pub dce : CallsHavePlaces a.places a.ends.dce.slots a.records.items
