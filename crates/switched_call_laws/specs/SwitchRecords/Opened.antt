-- The record that begins with a call, and what of a record never changes.
use Rattle.std.specs.Prelude.{◌≡◌, ℕ, ◌≤◌, List, length, slice_get, Option, Some}
use Rattle.link_timers.specs.declared.role.Role.{Role}
use Rattle.link_timers.specs.declared.role.Role.TheVariants.{Dce}
use Rattle.data_transfer.specs.Packets.{CallParts}
use Rattle.data_transfer.specs.Packets.Note.{Incoming}
use Rattle.packet_layer.specs.Layer.{Layer}
use Rattle.call_records.specs.Records.{RecordValue}
use Rattle.call_records.specs.Book.{Book, side_of, slot_at, told, address_of, calling_from}
use Rattle.call_records.specs.Carried.{placed_on}
use Rattle.call_records.specs.Writes.{Write, all_written}
use Rattle.switch_laws.specs.World.{Act}
use Rattle.switched_call_laws.specs.SwitchRecords.Written.{Books, books_after_all}

-- the present record of a channel is a new one, with these two addresses
pub record Opens (channel : ℕ) (own far : Option (List ℕ)) (old b : Book) : Type 0 where
  pub present : (slot_at Dce channel b).present ≡ Some (length old.records)
  pub it : RecordValue
  pub there : slice_get b.records (length old.records) ≡ Some it
  pub own_is : it.own ≡ own
  pub far_is : it.far ≡ far

abbrev pub HasSlot : (channel : ℕ) → Book → Type 0
HasSlot c b = (1 ≤ c) × (c ≤ length (side_of Dce b).slots)

-- a call that comes in has the called address as its own; a call that is placed has it as the far one, and as its own
-- the line's, or the calling address where the switch's end has none. So the two records of a call that is handed on
-- have one called address
abbrev pub ComesLaw : Type 0
ComesLaw = (c : ℕ) (parts : CallParts) (b : Book) → HasSlot c b
    → Opens c (address_of parts.called) (address_of parts.calling) b (told Dce (Incoming c parts) b)

abbrev pub PlacesLaw : Type 0
PlacesLaw = (c : ℕ) (parts : CallParts) (b : Book) → HasSlot c b
    → Opens c (address_of (calling_from (side_of Dce b).address parts.calling)) (address_of parts.called) b
    (placed_on Dce (Some c) parts b)

-- the number, the node and the addresses of a record stay, whatever is written at an end of its line
pub record SameHead (r : RecordValue) (n : ℕ) (b : Book) : Type 0 where
  pub it : RecordValue
  pub there : slice_get b.records n ≡ Some it
  pub number : it.number ≡ r.number
  pub node : it.node ≡ r.node
  pub own : it.own ≡ r.own
  pub far : it.far ≡ r.far

abbrev pub HeadLaw : Type 0
HeadLaw = (role : Role) (written : List Write) (n : ℕ) (r : RecordValue) (b : Book) → SameHead r n b
    → SameHead r n (all_written role written b)

abbrev pub HeadsLaw : Type 0
HeadsLaw = (acts : List Act) (ys : List Layer) (bs : Books) (line n : ℕ) (r : RecordValue) → SameHead r n (bs line)
    → SameHead r n (books_after_all acts ys bs line)
