-- What contracts see of the packets that a packet makes due.
use Rattle.std.specs.Prelude.{◌≡◌, ℕ, ◌≤◌, true, not, ◌&&◌, ◌||◌, nat_le, List, [], ◌++◌, length, take, min, if◌then◌else◌}
use Rattle.data_transfer.specs.Cutting.{cut}
use Rattle.epochs.specs.Item.{DataPacket}
use Rattle.switch_joins.specs.Turning.{Turn, nothing_gathered, flushed}
use Rattle.switch_joins.specs.declared.turned.Turned.TheInside.{Inside}

abbrev pub rest_in : Inside → DataPacket
rest_in a = record { octets = a.rest.items; more = a.more; qualified = a.qualified; delivery = a.delivery }

abbrev pub turn_of : Inside → Turn
turn_of a = record {
  made = flushed (record { octets = a.first.items; qualified = a.first_qualified })
      ++ (if a.waits then [] else cut a.size (rest_in a));
  left = if a.waits then record { octets = a.rest.items; qualified = a.qualified } else nothing_gathered;
}

-- packets of no octets have no size, and what waits has octets
pub record IsTurned (a : Inside) : Type 0 where
  pub size : 1 ≤ a.size
  pub waits : a.waits ≡ true → 1 ≤ length a.rest.items

-- the first of these octets, as a packet of this size: it has M and D of the whole if they are the last ones
abbrev pub piece : (size : ℕ) → List ℕ → DataPacket → DataPacket
piece size octets d = record {
  octets = take (min (length octets) size) octets;
  more = d.more || not (nat_le (length octets) size);
  qualified = d.qualified;
  delivery = d.delivery && nat_le (length octets) size;
}
