-- No user gives a calling address. So a call that a user placed has the address of its line as its own, if the line has
-- one.
use Rattle.std.specs.Prelude.{◌≡◌, ℕ, ◌<◌, false, List, [], ◌∷◌, length, map, slice_get, Option, Some, None}
use Rattle.link_timers.specs.declared.role.Role.{Role}
use Rattle.link_timers.specs.declared.role.Role.TheVariants.{Dte}
use Rattle.data_transfer.specs.Packets.{CallParts}
use Rattle.call_records.specs.Records.{RecordValue, PairValue}
use Rattle.call_records.specs.Book.{side_of, slot_at, address_of}
use Rattle.call_records.specs.Writes.{Write}
use Rattle.call_records.specs.Writes.Write.{Placed}
use Rattle.record_laws.specs.Registers.Giving.{AllGiveNone}
use Rattle.call_records.specs.Register.{Register, LinePlan, ChannelEnd, book_at, all_written_at, handed_on}
use Rattle.call_records.specs.Register.{made_register}

-- the node is at an end of a line, and the address is that of the line there
pub record IsAddressAt (g : Register) (node : ℕ) (address : Option (List ℕ)) : Type 0 where
  pub line : ℕ
  pub within : line < length g.lines
  pub role : Role
  pub at_end : node ≡ (side_of role (book_at line g)).node
  pub is : address ≡ address_of (side_of role (book_at line g)).address

-- so it is of the record of this number, and its own address
pub record HasOwnAddress (g : Register) (number : ℕ) : Type 0 where
  pub value : RecordValue
  pub there : slice_get g.records number ≡ Some value
  pub own : IsAddressAt g value.node value.own

-- and of each call that an end placed last on a channel, of each from which a present one came in, and of the caller of
-- each pair
pub record HaveOwnAddresses (g : Register) : Type 0 where
  pub placed : (line : ℕ) (role : Role) (channel number : ℕ)
      → (slot_at role channel (book_at line g)).placed ≡ Some number → HasOwnAddress g number
  pub came : (line : ℕ) (role : Role) (channel number : ℕ)
      → (slot_at role channel (book_at line g)).caller ≡ Some number → HasOwnAddress g number
  pub pairs : (i : ℕ) (pair : PairValue) → slice_get g.pairs i ≡ Some pair → HasOwnAddress g pair.caller

-- ---- laws

abbrev pub MadeOwnLaw : Type 0
MadeOwnLaw = (plans : List LinePlan) → HaveOwnAddresses (made_register plans)

abbrev pub WriteOwnLaw : Type 0
WriteOwnLaw = (g : Register) (line : ℕ) (role : Role) (writes : List Write) → line < length g.lines
    → AllGiveNone writes → HaveOwnAddresses g → HaveOwnAddresses (all_written_at line role writes g)

-- a call that goes on has the record of the end that placed it
abbrev pub HandedOwnLaw : Type 0
HandedOwnLaw = (g : Register) (from to : ChannelEnd) → HaveOwnAddresses g → HaveOwnAddresses (handed_on from to g)

-- ---- a run

-- a line with an address, 1, and one without
abbrev pub two_lines : List LinePlan
two_lines =
    record { dte_node = 0; dce_node = 2; address = 1 ∷ []; channels = 1; standing = false }
    ∷ record { dte_node = 3; dce_node = 4; address = []; channels = 1; standing = false } ∷ []

-- a call to 2 is placed on each
abbrev pub to_two : CallParts
to_two = record { called = 2 ∷ []; calling = []; facilities = []; user_part = [] }

abbrev pub calls_two : List Write
calls_two = Placed (Some 1) to_two ∷ []

abbrev pub after_calls : Register
after_calls = all_written_at 1 Dte calls_two (all_written_at 0 Dte calls_two (made_register two_lines))

-- the first call has the address of its line, and the second one none
pub record OwnRun : Type 0 where
  pub none_given : AllGiveNone calls_two
  pub has_own : HaveOwnAddresses after_calls
  pub first : map (λ r. r.own) after_calls.records ≡ Some (1 ∷ []) ∷ None ∷ []
