-- How a packet goes on to another line, by lengths alone.
use Rattle.std.specs.Prelude.{ℕ, ◌+◌, Bool, false, not, ◌&&◌, ◌||◌, ◌==◌, nat_lt, nat_le, if◌then◌else◌, max, [], ◌++◌, length}
use Rattle.epochs.specs.Item.{DataPacket}
use Rattle.data_transfer.specs.Cutting.{cut}
use Rattle.switch_joins.specs.Turning.{Sizes, Gathered, nothing_gathered, Turn, flushed, same_bit}
use Rattle.switch_joins.specs.declared.plan.Outline.{Outline}
use Rattle.switch_joins.specs.declared.plan.Plan.{Plan}
pub use Rattle.switch_joins.specs.Outline.{outline_of}

-- what is gathered, so many octets, goes first where the packet cannot be joined to it
abbrev pub goes_first : Sizes → (gathered : ℕ) → (qualified : Bool) → Outline → Bool
goes_first sizes gathered qualified packet =
    nat_lt 0 gathered
    && (not (nat_le (gathered + packet.length) sizes.far) || not (same_bit qualified packet.qualified))

-- how many octets the rest has
abbrev pub rest_length : (gathered_first : Bool) → (gathered length : ℕ) → ℕ
rest_length gathered_first gathered length = if gathered_first then length else gathered + length

abbrev pub waits : Sizes → (gathered rest : ℕ) → Outline → Bool
waits sizes gathered rest packet =
    nat_le (gathered + packet.length) sizes.far
    && ((packet.more && not packet.delivery) && (packet.length == sizes.near))
    && nat_le (rest + sizes.near) sizes.far

abbrev pub plan_for : Sizes → (gathered : ℕ) → (qualified : Bool) → Outline → Plan
plan_for sizes gathered qualified packet =
    if (sizes.near == sizes.far) && (gathered == 0)
    then record { gathered_first = false; rest_waits = false; size = max packet.length 1 }
    else record {
      gathered_first = goes_first sizes gathered qualified packet;
      rest_waits =
          waits sizes gathered (rest_length (goes_first sizes gathered qualified packet) gathered packet.length) packet;
      size = sizes.far;
    }

-- what is not sent before: what is gathered and the packet, or the packet alone
abbrev pub rest_of : (gathered_first : Bool) → Gathered → DataPacket → DataPacket
rest_of gathered_first g d = record d { octets = if gathered_first then d.octets else g.octets ++ d.octets }

-- what is gathered goes first or not; the rest waits or is cut
abbrev pub planned : Plan → Gathered → DataPacket → Turn
planned p g d = record {
  made =
      (if p.gathered_first then flushed g else [])
      ++ (if p.rest_waits then [] else cut p.size (rest_of p.gathered_first g d));
  left =
      if p.rest_waits
      then record { octets = (rest_of p.gathered_first g d).octets; qualified = d.qualified }
      else nothing_gathered;
}
