-- What the user of a call sends, item by item, and the Data packets that carry it (X.25 4.3.2, 4.3.3, 4.3.5).
use Rattle.std.specs.Prelude.{ℕ, Bool, false, List, [], ◌∷◌, ◌++◌, map, if◌then◌else◌}

-- an octet of a message, its end, and the same two where the message is qualified
pub data Item : Type 0 where
  Octet : ℕ → Item
  End : Item
  QualifiedOctet : ℕ → Item
  QualifiedEnd : Item

-- a Data packet as its user sees it: the octets, and the M bit, the Q bit and the D bit
pub record DataPacket : Type 0 where
  pub octets : List ℕ
  pub more : Bool
  pub qualified : Bool
  pub delivery : Bool

-- the items of a packet: each of its octets, then, where M = 0, an end; the Q bit says of which kind they are, and the
-- D bit is left out
abbrev pub items_of : DataPacket → List Item
items_of p =
    if p.qualified
    then map QualifiedOctet p.octets ++ (if p.more then [] else QualifiedEnd ∷ [])
    else map Octet p.octets ++ (if p.more then [] else End ∷ [])

-- the items of packets, one after the other
abbrev pub all_items : List DataPacket → List Item
all_items [] = []
all_items (p ∷ ps) = items_of p ++ all_items ps

-- the user octets and ends among items
abbrev pub user_items : List Item → List Item
user_items [] = []
user_items (Octet x ∷ is) = Octet x ∷ user_items is
user_items (End ∷ is) = End ∷ user_items is
user_items (QualifiedOctet x ∷ is) = user_items is
user_items (QualifiedEnd ∷ is) = user_items is

-- a packet that is a whole user message by itself
abbrev pub message : List ℕ → DataPacket
message octets = record { octets = octets; more = false; qualified = false; delivery = false }
