-- What lies in the buffers of a pool: packets, queues of packets, and the buffers that the traffic of a call holds.
use Rattle.std.specs.Prelude.{◌≡◌, ℕ, ◌+◌, nat_le, Bool, true, ◌&&◌, List, [], ◌∷◌, map, length}
use Rattle.flow_window.specs.Pool.{Buffer, weight}
use Rattle.data_transfer.specs.Packets.{Datum}
use Rattle.data_transfer.specs.Traffic as machine

-- a packet in a buffer
pub record Kept : Type 0 where
  pub buffer : Buffer
  pub more : Bool
  pub qualified : Bool
  pub delivery : Bool

abbrev pub datum_in : Kept → Datum
datum_in p = record { octets = p.buffer.octets; more = p.more; qualified = p.qualified; delivery = p.delivery }

abbrev pub contents : List Kept → List Datum
contents ps = map datum_in ps

abbrev pub buffers : List Kept → List Buffer
buffers ps = map (λ p. p.buffer) ps

-- packets in order, for which there are so many places, and the buffers that they lie in
pub record Queue : Type 0 where
  pub places : ℕ
  pub packets : List Datum
  pub held : List Buffer

-- the traffic of a call, and the buffers that its two queues hold
pub record Traffic : Type 0 where
  pub traffic : machine.Traffic
  pub held : List Buffer

-- each packet has at most so many octets
abbrev pub are_short : (size : ℕ) → List Datum → Bool
are_short size [] = true
are_short size (d ∷ ds) = nat_le (length d.octets) size && are_short size ds

-- ---- buffers that change hands

-- of what was held these buffers are handed out, and the others are held still
abbrev pub Loses : (held handed_out holds : List Buffer) → Type 0
Loses held handed_out holds = (w : Buffer → ℕ) → weight w held ≡ weight w holds + weight w handed_out

-- a buffer that is handed in is held too, or it is handed back
abbrev pub Takes : (held : List Buffer) → Buffer → (handed_back holds : List Buffer) → Type 0
Takes held b handed_back holds = (w : Buffer → ℕ) → weight w holds + weight w handed_back ≡ weight w held + w b
