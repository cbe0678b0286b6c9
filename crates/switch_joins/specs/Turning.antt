-- What a switch makes of a packet of one line for another line, if their packet sizes differ (X.25 4.3.4): it cuts
-- packets for a smaller size, and joins full ones whose message goes on for a greater size.
use Rattle.std.specs.Prelude.{◌≡◌, ℕ, ◌+◌, ◌≤◌, Bool, true, false, not, ◌&&◌, ◌==◌, nat_lt, nat_le, if◌then◌else◌}
use Rattle.std.specs.Prelude.{List, [], ◌∷◌, ◌++◌, length}
use Rattle.epochs.specs.Item.{Item, DataPacket, items_of}
use Rattle.data_transfer.specs.Cutting.{cut}

-- the packet sizes of the line that packets come from, and of the one that they go on to
pub record Sizes : Type 0 where
  pub near : ℕ
  pub far : ℕ

-- the octets of packets that were taken and wait for more, and their Q
pub record Gathered : Type 0 where
  pub octets : List ℕ
  pub qualified : Bool

abbrev pub nothing_gathered : Gathered
nothing_gathered = record { octets = []; qualified = false }

-- the packets that a packet makes due, and what is gathered after it
pub record Turn : Type 0 where
  pub made : List DataPacket
  pub left : Gathered

abbrev pub all_made : List DataPacket → Turn
all_made ds = record { made = ds; left = nothing_gathered }

-- what is gathered, as a packet of a message that goes on
abbrev pub going_on : Gathered → DataPacket
going_on g = record { octets = g.octets; more = true; qualified = g.qualified; delivery = false }

abbrev pub flushed : Gathered → List DataPacket
flushed g = if length g.octets == 0 then [] else going_on g ∷ []

abbrev pub same_bit : Bool → Bool → Bool
same_bit true b = b
same_bit false b = not b

-- a full packet of a message that goes on, which nobody has to confirm
abbrev pub is_full : (near : ℕ) → DataPacket → Bool
is_full near d = (d.more && not d.delivery) && (length d.octets == near)

-- these octets, of which the last ones are of d, wait if d is such a packet and another full one still fits behind them;
-- else they go as one packet with M and D of d
abbrev pub joined : Sizes → (before : List DataPacket) → (octets : List ℕ) → DataPacket → Turn
joined sizes before octets d =
    if is_full sizes.near d && nat_le (length octets + sizes.near) sizes.far
    then record { made = before; left = record { octets = octets; qualified = d.qualified } }
    else all_made (before ++ record d { octets = octets } ∷ [])

-- between lines of one size a packet goes as it is; one that does not fit is cut; one with another Q than what is
-- gathered lets that go first
abbrev pub turned : Sizes → Gathered → DataPacket → Turn
turned sizes g d =
    if (sizes.near == sizes.far) && (length g.octets == 0) then all_made (d ∷ [])
    else if nat_lt sizes.far (length (g.octets ++ d.octets)) then all_made (flushed g ++ cut sizes.far d)
    else if same_bit g.qualified d.qualified then joined sizes [] (g.octets ++ d.octets) d
    else joined sizes (flushed g) d.octets d

-- the items that are gathered
abbrev pub items_gathered : Gathered → List Item
items_gathered g = items_of (going_on g)

-- what is gathered is less than a packet of the far line: another full one of the near line still fits behind it, and
-- for a line of no greater size nothing is gathered
pub record IsGathered (sizes : Sizes) (g : Gathered) : Type 0 where
  pub nothing : sizes.far ≤ sizes.near → length g.octets ≡ 0
  pub less : sizes.near ≤ sizes.far → length g.octets + sizes.near ≤ sizes.far
