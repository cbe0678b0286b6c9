-- What passes on a call between two resets, at its two ends.
use Rattle.std.specs.Prelude.{◌≡◌, ℕ, ◌≤◌, List, [], ◌∷◌, length}
use Rattle.epochs.specs.Prefix.{IsListPrefix}
use Rattle.epochs.specs.Item.{Item, DataPacket, all_items}

-- an epoch: the items and the interrupts, each interrupt a list of octets (X.25 4.3.1, 4.3.4)
pub record Epoch : Type 0 where
  pub items : List Item
  pub interrupts : List (List ℕ)

-- neither an item nor an interrupt
pub record IsEmpty (e : Epoch) : Type 0 where
  pub items : e.items ≡ []
  pub interrupts : e.interrupts ≡ []

-- an epoch begins another where both of its streams do
pub record IsPrefixOf (e f : Epoch) : Type 0 where
  pub items : IsListPrefix Item e.items f.items
  pub interrupts : IsListPrefix (List ℕ) e.interrupts f.interrupts

-- an epoch as its sender has it: the packets, the interrupts, and how many of the packets a received P(R) covered
pub record SentEpoch : Type 0 where
  pub packets : List DataPacket
  pub interrupts : List (List ℕ)
  pub covered : ℕ

-- an epoch as its receiver has it: the packets and interrupts taken, and how many of the packets were released
pub record TakenEpoch : Type 0 where
  pub packets : List DataPacket
  pub interrupts : List (List ℕ)
  pub released : ℕ

abbrev pub nothing_sent : SentEpoch
nothing_sent = record { packets = []; interrupts = []; covered = 0 }

abbrev pub nothing_taken : TakenEpoch
nothing_taken = record { packets = []; interrupts = []; released = 0 }

abbrev pub sent_epoch : SentEpoch → Epoch
sent_epoch s = record { items = all_items s.packets; interrupts = s.interrupts }

abbrev pub taken_epoch : TakenEpoch → Epoch
taken_epoch t = record { items = all_items t.packets; interrupts = t.interrupts }

-- one epoch at both ends of a line: what was taken begins what was sent, packet by packet, and what is covered was
-- released before, and that taken
pub record IsAligned (s : SentEpoch) (t : TakenEpoch) : Type 0 where
  pub packets : IsListPrefix DataPacket t.packets s.packets
  pub interrupts : IsListPrefix (List ℕ) t.interrupts s.interrupts
  pub covered : s.covered ≤ t.released
  pub released : t.released ≤ length t.packets

-- epoch by epoch; an epoch that one end does not have yet counts as empty
abbrev pub AreAligned : List SentEpoch → List TakenEpoch → Type 0
AreAligned [] [] = Unit {0}
AreAligned [] (t ∷ ts) = IsAligned nothing_sent t × AreAligned [] ts
AreAligned (s ∷ ss) [] = IsAligned s nothing_taken × AreAligned ss []
AreAligned (s ∷ ss) (t ∷ ts) = IsAligned s t × AreAligned ss ts
