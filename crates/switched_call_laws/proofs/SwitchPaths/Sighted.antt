-- The book of a line in a switch's own sight, beside the whole register in the same sight.
use Rattle.std.specs.Prelude.{ℕ, List}
use Rattle.link_timers.specs.declared.role.Role.{Role}
use Rattle.link_timers.specs.declared.role.Role.TheVariants.{Dte, Dce}
use Rattle.call_records.specs.Book.{Book, side_of}
use Rattle.record_laws.specs.Registers.Seen.{SideIsSeen, LineIsSeen}
use Rattle.switched_call_laws.specs.SwitchRecords.Turned.{sight}

-- a side, and the line
own_sides : (ns : List ℕ) (role end : Role) (b g : Book) → ((side : Role) → SideIsSeen ns (side_of side (sight role b)) (side_of side g)) → SideIsSeen ns (side_of end b) (side_of end (sight role g))
own_sides ns Dte Dte b g h = h Dce
own_sides ns Dte Dce b g h = h Dte
own_sides ns Dce Dte b g h = h Dte
own_sides ns Dce Dce b g h = h Dce

pub own_line_seen : (ns ms : List ℕ) (role : Role) (b g : Book) → LineIsSeen ns ms (sight role b) g → LineIsSeen ns ms b (sight role g)
own_line_seen ns ms role b g i = record {
  count = i.count;
  records = i.records;
  pair_count = i.pair_count;
  pairs = i.pairs;
  sides = λ end. own_sides ns role end b g i.sides;
}
