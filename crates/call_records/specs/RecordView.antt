-- What the code's records show, and what room they have.
use Rattle.std.specs.Prelude.{◌≡◌, ℕ, ◌-◌, ◌≤◌, List, length, map, slice_get, Some, vec_len, vec_capacity}
use Rattle.epochs.specs.Epoch.{SentEpoch as Sent, TakenEpoch as Taken}
use Rattle.pad_editing.specs.Edited.{Step, key, idle}
use Rattle.epochs.specs.Packets.{data_packet_of, places_of}
use Rattle.epochs.specs.Passed.{Part, HasSpare, HasNoSpare}
use Rattle.call_records.specs.Records.{RecordValue, HopValue, PairValue, with_step, with_sent, with_interrupt_sent}
use Rattle.call_records.specs.Records.{with_taken, with_interrupt_taken, with_released, with_covered, with_epoch, with_closed}
use Rattle.call_records.specs.declared.record.EditStep.{EditStep}
use Rattle.call_records.specs.declared.record.EditStep.TheVariants as edit_step
use Rattle.call_records.specs.declared.record.Record.{Record}
use Rattle.call_records.specs.declared.record.Hop.{Hop}
use Rattle.call_records.specs.declared.record.Pair.{Pair}
use Rattle.call_records.specs.declared.record.Growth.{Growth}
use Rattle.call_records.specs.declared.record.Growth.TheVariants as growth

-- an epoch of what an end sent, and of what it took
abbrev pub sent_of : Part → Sent
sent_of p = record { packets = p.packets; interrupts = p.interrupts; covered = p.counted }

abbrev pub taken_of : Part → Taken
taken_of p = record { packets = p.packets; interrupts = p.interrupts; released = p.counted }

abbrev pub step_of : EditStep → Step
step_of (edit_step.Key octet params) = key octet params
step_of (edit_step.Idle params) = idle params

abbrev pub hop_of : Hop → HopValue
hop_of h = record { switch = h.switch; line = h.line; channel = h.channel }

abbrev pub shown : Record → RecordValue
shown r = record {
  number = r.number;
  node = r.node;
  own = r.own;
  far = r.far;
  caller = r.caller;
  path = map hop_of r.path.items;
  sent_before = map sent_of r.sent.epochs.before;
  sent = sent_of r.sent.epochs.last;
  taken_before = map taken_of r.taken.epochs.before;
  taken = taken_of r.taken.epochs.last;
  closed = r.closed;
  steps = map step_of r.steps.items;
}

abbrev pub pair_of : Pair → PairValue
pair_of p = record { caller = p.caller; callee = p.callee }

-- every list of a record has so many spare places
pub record HasPlaces (room : ℕ) (r : Record) : Type 0 where
  pub sent : HasSpare room r.sent
  pub taken : HasSpare room r.taken
  pub steps : room ≤ vec_capacity r.steps - vec_len r.steps

-- every list has as many places as the record counts
abbrev pub IsCounted : Record → Type 0
IsCounted r = HasPlaces r.places r

-- each of these records has the places that it counts
abbrev pub AreCounted : List Record → Type 0
AreCounted records = (number : ℕ) (r : Record) → slice_get records number ≡ Some r → IsCounted r

-- the record of this number counts so many, if there is one
abbrev pub PlacesAt : (room number : ℕ) → List Record → Type 0
PlacesAt room number records = (r : Record) → slice_get records number ≡ Some r → room ≤ r.places

-- no list of a record has spare places
pub record HasNoPlaces (r : Record) : Type 0 where
  pub sent : HasNoSpare r.sent
  pub taken : HasNoSpare r.taken
  pub steps : vec_capacity r.steps ≡ vec_len r.steps

-- that of each of these numbers has none, if there is one
abbrev pub NoPlacesAt : (numbers : List ℕ) → List Record → Type 0
NoPlacesAt numbers records = (i number : ℕ) (r : Record) → slice_get numbers i ≡ Some number
    → slice_get records number ≡ Some r → HasNoPlaces r

-- ---- how a record grows by a write

abbrev pub grown : Growth → RecordValue → RecordValue
grown (growth.Sent packet) r = with_sent (data_packet_of packet) r
grown (growth.InterruptSent interrupt) r = with_interrupt_sent interrupt r
grown (growth.Taken packet) r = with_taken (data_packet_of packet) r
grown (growth.InterruptTaken interrupt) r = with_interrupt_taken interrupt r
grown (growth.Covered count) r = with_covered count r
grown (growth.Released count) r = with_released count r
grown (growth.Step step) r = with_step (step_of step) r
grown growth.Epoch r = with_epoch r
grown growth.Closed r = with_closed r

-- a packet has at most 1,024 octets
abbrev pub Fits : Growth → Type 0
Fits (growth.Sent packet) = length packet.octets.now ≤ 1024
Fits (growth.Taken packet) = length packet.octets.now ≤ 1024
Fits _ = Unit {0}

-- how much room a write needs, and how much it leaves: a packet needs as much as it has places
abbrev pub needed : Growth → ℕ
needed (growth.Covered count) = 0
needed (growth.Released count) = 0
needed growth.Closed = 0
needed (growth.Sent packet) = places_of packet.octets.now
needed (growth.Taken packet) = places_of packet.octets.now
needed _ = 1

abbrev pub left : Growth → (room : ℕ) → ℕ
left (growth.Covered count) room = room
left (growth.Released count) room = room
left growth.Closed room = room
left growth.Epoch room = 0
left (growth.Sent packet) room = room - places_of packet.octets.now
left (growth.Taken packet) room = room - places_of packet.octets.now
left _ room = room - 1
