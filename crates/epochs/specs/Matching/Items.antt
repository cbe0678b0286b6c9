-- Items as the code has them, and those that an iterator has left.
use Rattle.std.specs.Prelude.{ℕ, Bool, if◌then◌else◌, List, ◌++◌}
use Rattle.epochs.specs.Item as spec
use Rattle.epochs.specs.Item.{items_of, all_items}
use Rattle.epochs.specs.Packets.{data_packet_of}
use Rattle.epochs.specs.declared.items.Item.{Item}
use Rattle.epochs.specs.declared.items.Item.TheVariants as item
use Rattle.epochs.specs.declared.items.Items.{Items}

abbrev pub value_of : Item → spec.Item
value_of (item.Octet octet) = spec.Item.Octet octet
value_of item.End = spec.Item.End
value_of (item.QualifiedOctet octet) = spec.Item.QualifiedOctet octet
value_of item.QualifiedEnd = spec.Item.QualifiedEnd

abbrev pub octet_of : (qualified : Bool) → (octet : ℕ) → spec.Item
octet_of qualified octet = if qualified then spec.Item.QualifiedOctet octet else spec.Item.Octet octet

abbrev pub end_of : (qualified : Bool) → spec.Item
end_of qualified = if qualified then spec.Item.QualifiedEnd else spec.Item.End

-- those of what is left of the packet in hand, and then those of the packets after it
abbrev pub items_left : Items → List spec.Item
items_left i = items_of (data_packet_of i.packet) ++ all_items i.packets
