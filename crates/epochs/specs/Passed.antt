-- What passed in one direction of a call, epoch by epoch, and how it grows.
use Rattle.std.specs.Prelude.{◌≡◌, ℕ, ◌+◌, ◌*◌, ◌≤◌, List, [], ◌∷◌, ◌++◌, length}
use Rattle.epochs.specs.Item.{DataPacket}
use Rattle.epochs.specs.Counted.{counted as counted_of}

-- an epoch in one direction: the packets and the interrupts, and how many of the packets counted, which is to say, were
-- covered if the end sent them, and released if it took them
pub record Part : Type 0 where
  pub packets : List DataPacket
  pub interrupts : List (List ℕ)
  pub counted : ℕ

abbrev pub empty_part : Part
empty_part = record { packets = []; interrupts = []; counted = 0 }

-- the epochs that ended, and the last one, which goes on
pub record Epochs : Type 0 where
  pub before : List Part
  pub last : Part

abbrev pub first_epoch : Epochs
first_epoch = record { before = []; last = empty_part }

-- the epochs, and for how many octets of packets, interrupts and ends of epochs more there is memory
pub record PassedState : Type 0 where
  pub epochs : Epochs
  pub octets : ℕ
  pub interrupts : ℕ
  pub ends : ℕ

-- ---- how they grow

-- by a packet or an interrupt
abbrev pub with_packet : DataPacket → Epochs → Epochs
with_packet packet e = record e { last = record e.last { packets = e.last.packets ++ packet ∷ [] } }

abbrev pub with_interrupt : List ℕ → Epochs → Epochs
with_interrupt octets e = record e { last = record e.last { interrupts = e.last.interrupts ++ octets ∷ [] } }

-- n more of the packets of the last epoch count
abbrev pub with_counted : ℕ → Epochs → Epochs
with_counted n e = record e {
  last = record e.last { counted = counted_of (length e.last.packets) e.last.counted n };
}

-- the last epoch ends, and another one begins
abbrev pub with_end : Epochs → Epochs
with_end e = record { before = e.before ++ e.last ∷ []; last = empty_part }

-- ---- room

-- for packets that take so many places, of which each needs at most 130 octets, as many interrupts and as many ends of
-- epochs more there is memory
pub record HasSpare (room : ℕ) (p : PassedState) : Type 0 where
  pub octets : 130 * room ≤ p.octets
  pub interrupts : room ≤ p.interrupts
  pub ends : room ≤ p.ends

-- and there is none beyond what passed
pub record HasNoSpare (p : PassedState) : Type 0 where
  pub octets : p.octets ≡ 0
  pub interrupts : p.interrupts ≡ 0
  pub ends : p.ends ≡ 0

-- at most so much of that memory was used
pub record HasUsed (most_octets most_interrupts most_ends : ℕ) (old new : PassedState) : Type 0 where
  pub octets : old.octets ≤ new.octets + most_octets
  pub interrupts : old.interrupts ≤ new.interrupts + most_interrupts
  pub ends : old.ends ≤ new.ends + most_ends
