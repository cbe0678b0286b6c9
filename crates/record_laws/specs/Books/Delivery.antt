-- Delivery that is confirmed: in an epoch each packet that was sent with D = 1 is covered.
use Rattle.std.specs.Prelude.{◌≡◌, ◌<◌, true, List, ◌∷◌, ◌++◌, length}
use Rattle.epochs.specs.Item.{DataPacket}
use Rattle.epochs.specs.Epoch.{SentEpoch}
use Rattle.epochs.specs.Confirmed.{confirmed_from}

abbrev pub IsAllCovered : SentEpoch → Type 0
IsAllCovered s = (before after : List DataPacket) (p : DataPacket) → before ++ p ∷ after ≡ s.packets
    → p.delivery ≡ true → length before < s.covered

-- then what is confirmed of the epoch ends with the last packet that has D = 1
abbrev pub DeliveryLaw : Type 0
DeliveryLaw = (s : SentEpoch) → IsAllCovered s
    → confirmed_from 0 0 s.covered s.packets ≡ confirmed_from 0 0 (length s.packets) s.packets
