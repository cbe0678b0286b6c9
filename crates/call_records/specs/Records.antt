-- What a network keeps of each end's part in a call, and which two of these make a call.
use Rattle.std.specs.Prelude.{ℕ, zero, suc, Bool, true, false, nat_le, if◌then◌else◌, List, [], ◌∷◌, ◌++◌}
use Rattle.std.specs.Prelude.{length, map, Option}
use Rattle.epochs.specs.Item.{DataPacket}
use Rattle.epochs.specs.Epoch.{nothing_sent, nothing_taken, Epoch, SentEpoch, TakenEpoch, sent_epoch, taken_epoch}
use Rattle.pad_editing.specs.Edited.{Step}
use Rattle.epochs.specs.Counted.{counted}

-- a hop of a call: a switch placed it onward, on a channel of a line
pub record HopValue : Type 0 where
  pub switch : ℕ
  pub line : ℕ
  pub channel : ℕ

-- one end's part in one call: its number in the order of making, its node, its own address and the far one, where the
-- call came in the record of the end that placed it, of a caller the path of hops over which the call goes on, the
-- epochs that it sent and took, of which the last of each stands apart, whether the call is closed for it, and at a PAD
-- the steps of editing
pub record RecordValue : Type 0 where
  pub number : ℕ
  pub node : ℕ
  pub own : Option (List ℕ)
  pub far : Option (List ℕ)
  pub caller : Option ℕ
  pub path : List HopValue
  pub sent_before : List SentEpoch
  pub sent : SentEpoch
  pub taken_before : List TakenEpoch
  pub taken : TakenEpoch
  pub closed : Bool
  pub steps : List Step

-- all epochs that the end sent, and all that it took
abbrev pub sent_epochs : RecordValue → List Epoch
sent_epochs r = map sent_epoch (r.sent_before ++ r.sent ∷ [])

abbrev pub taken_epochs : RecordValue → List Epoch
taken_epochs r = map taken_epoch (r.taken_before ++ r.taken ∷ [])

-- the numbers of the record of the end that called and of the end that was called
pub record PairValue : Type 0 where
  pub caller : ℕ
  pub callee : ℕ

-- the record of an end's part in a new call: one empty epoch sent, and one taken
abbrev pub new_record : (number node : ℕ) → (own far : Option (List ℕ)) → (caller : Option ℕ) → RecordValue
new_record number node own far caller = record {
  number = number;
  node = node;
  own = own;
  far = far;
  caller = caller;
  path = [];
  sent_before = [];
  sent = nothing_sent;
  taken_before = [];
  taken = nothing_taken;
  closed = false;
  steps = [];
}

-- ---- how a record grows

-- by a step of editing
abbrev pub with_step : Step → RecordValue → RecordValue
with_step step r = record r { steps = r.steps ++ step ∷ [] }

-- by a packet or an interrupt that was accepted to be sent
abbrev pub with_sent : DataPacket → RecordValue → RecordValue
with_sent packet r = record r { sent = record r.sent { packets = r.sent.packets ++ packet ∷ [] } }

abbrev pub with_interrupt_sent : List ℕ → RecordValue → RecordValue
with_interrupt_sent octets r = record r { sent = record r.sent { interrupts = r.sent.interrupts ++ octets ∷ [] } }

-- by a packet or an interrupt that was taken
abbrev pub with_taken : DataPacket → RecordValue → RecordValue
with_taken packet r = record r { taken = record r.taken { packets = r.taken.packets ++ packet ∷ [] } }

abbrev pub with_interrupt_taken : List ℕ → RecordValue → RecordValue
with_interrupt_taken octets r = record r { taken = record r.taken { interrupts = r.taken.interrupts ++ octets ∷ [] } }

-- n more of the packets taken are released: P(R) passes no packet that was not taken
abbrev pub with_released : ℕ → RecordValue → RecordValue
with_released n r = record r {
  taken = record r.taken {
    released = counted (length r.taken.packets) r.taken.released n;
  };
}

-- n more of the packets sent are covered: a P(R) covers no packet that was not sent
abbrev pub with_covered : ℕ → RecordValue → RecordValue
with_covered n r = record r { sent = record r.sent { covered = counted (length r.sent.packets) r.sent.covered n } }

-- a reset opens an epoch in both lists
abbrev pub with_epoch : RecordValue → RecordValue
with_epoch r = record r {
  sent_before = r.sent_before ++ r.sent ∷ [];
  sent = nothing_sent;
  taken_before = r.taken_before ++ r.taken ∷ [];
  taken = nothing_taken;
}

-- the call is over for this end
abbrev pub with_closed : RecordValue → RecordValue
with_closed r = record r { closed = true }

-- the call goes on over one more hop, if its path has room for it: at most 16 hops
abbrev pub with_hop : HopValue → RecordValue → RecordValue
with_hop hop r = if nat_le 16 (length r.path) then r else record r { path = r.path ++ hop ∷ [] }

-- the records with a change at a place, if there is a record
abbrev pub changed_at : ℕ → (RecordValue → RecordValue) → List RecordValue → List RecordValue
changed_at place change [] = []
changed_at zero change (r ∷ rs) = change r ∷ rs
changed_at (suc place) change (r ∷ rs) = r ∷ changed_at place change rs
