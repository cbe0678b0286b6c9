-- The packets and interrupts of all epochs of a call, one after the other, and where in them each epoch ended.
use Rattle.std.specs.Prelude.{ℕ, ◌-◌, ◌≤◌, List, [], ◌∷◌, take, drop}
use Rattle.epochs.specs.Item.{DataPacket}
use Rattle.epochs.specs.Passed.{Part, Epochs}
use Rattle.epochs.specs.declared.passed.EpochEnd.{EpochEnd}
use Rattle.epochs.specs.declared.passed.Epoch.{Epoch}

-- where the first epoch begins, nothing has passed
abbrev pub outset : EpochEnd
outset = record { packets = 0; interrupts = 0; counted = 0 }

-- where the last of these epochs ended, of which the first began there
abbrev pub end_of : (from : EpochEnd) → List EpochEnd → EpochEnd
end_of from [] = from
end_of from (end ∷ ends) = end_of end ends

-- what passed from one end to another
abbrev pub part_between : (from to : EpochEnd) → List DataPacket → List (List ℕ) → Part
part_between from to packets interrupts = record {
  packets = take (to.packets - from.packets) (drop from.packets packets);
  interrupts = take (to.interrupts - from.interrupts) (drop from.interrupts interrupts);
  counted = to.counted;
}

-- what passed since an end
abbrev pub part_since : (from : EpochEnd) → (counted : ℕ) → List DataPacket → List (List ℕ) → Part
part_since from counted packets interrupts = record {
  packets = drop from.packets packets;
  interrupts = drop from.interrupts interrupts;
  counted = counted;
}

-- the epochs with these ends, of which the first began there
abbrev pub parts_from : (from : EpochEnd) → List EpochEnd → List DataPacket → List (List ℕ) → List Part
parts_from from [] packets interrupts = []
parts_from from (end ∷ ends) packets interrupts =
    part_between from end packets interrupts ∷ parts_from end ends packets interrupts

-- all epochs
abbrev pub epochs_of : List EpochEnd → (counted : ℕ) → List DataPacket → List (List ℕ) → Epochs
epochs_of ends counted packets interrupts = record {
  before = parts_from outset ends packets interrupts;
  last = part_since (end_of outset ends) counted packets interrupts;
}

-- no more than so many packets and interrupts had passed at this end
pub record IsWithin (all_packets all_interrupts : ℕ) (end : EpochEnd) : Type 0 where
  pub packets : end.packets ≤ all_packets
  pub interrupts : end.interrupts ≤ all_interrupts

-- each of these epochs ended where it began or further on, and the last one where no more than so much had passed
abbrev pub AreInOrder : (from : EpochEnd) → List EpochEnd → (all_packets all_interrupts : ℕ) → Type 0
AreInOrder from [] all_packets all_interrupts = IsWithin all_packets all_interrupts from
AreInOrder from (end ∷ ends) all_packets all_interrupts =
    IsWithin end.packets end.interrupts from × AreInOrder end ends all_packets all_interrupts

-- an epoch as it is read
abbrev pub part_of : Epoch → Part
part_of e = record { packets = e.packets; interrupts = e.interrupts.now; counted = e.counted }
