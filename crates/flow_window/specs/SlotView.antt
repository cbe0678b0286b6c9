-- What contracts see of the code's slot.
use Rattle.std.specs.Prelude.{◌≤◌, length, take, Some, None, if◌then◌else◌}
use Rattle.flow_window.specs.Slot.{Slot}
use Rattle.flow_window.specs.declared.pool.slot.Slot.TheInside.{Inside}

abbrev pub slot_of : Inside → Slot
slot_of a = record {
  size = length a.octets.items;
  content = if a.used then Some (take a.len a.octets.items) else None;
}

abbrev pub IsSlot : Inside → Type 0
IsSlot a = a.len ≤ length a.octets.items
