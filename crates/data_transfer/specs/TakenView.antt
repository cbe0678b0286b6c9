-- What is taken, as the code has it.
use Rattle.std.specs.Prelude.{ℕ, ◌≤◌, List, [], ◌∷◌, Option, Some, None, length}
use Rattle.flow_window.specs.Pool.{Buffer}
use Rattle.data_transfer.specs.Held.{datum_in}
use Rattle.data_transfer.specs.Traffic as spec
use Rattle.data_transfer.specs.declared.taken.Taken.{Taken}
use Rattle.data_transfer.specs.declared.taken.Taken.TheVariants.{Interrupt, «Data»}
use Rattle.data_transfer.specs.declared.taken.TakenBuf.{TakenBuf}
use Rattle.data_transfer.specs.declared.taken.TakenBuf.TheVariants as in_buffer
use Rattle.data_transfer.specs.declared.taken.Front.{Front}
use Rattle.data_transfer.specs.declared.taken.Front.TheVariants as front

abbrev pub taken_of : Taken → spec.Taken
taken_of (Interrupt octets) = spec.Taken.TakenInterrupt octets
taken_of («Data» d) = spec.Taken.TakenPacket d

abbrev pub maybe_taken : Option Taken → Option spec.Taken
maybe_taken (Some x) = Some (taken_of x)
maybe_taken None = None

-- a packet that is still in its buffer
abbrev pub taken_in : TakenBuf → spec.Taken
taken_in (in_buffer.Interrupt octets) = spec.Taken.TakenInterrupt octets
taken_in (in_buffer.«Data» p) = spec.Taken.TakenPacket (datum_in p)

abbrev pub maybe_taken_in : Option TakenBuf → Option spec.Taken
maybe_taken_in (Some x) = Some (taken_in x)
maybe_taken_in None = None

-- its buffer
abbrev pub buffers_in : TakenBuf → List Buffer
buffers_in (in_buffer.Interrupt octets) = []
buffers_in (in_buffer.«Data» p) = p.buffer ∷ []

abbrev pub maybe_buffers_in : Option TakenBuf → List Buffer
maybe_buffers_in (Some x) = buffers_in x
maybe_buffers_in None = []

-- what is told of it before it is taken
abbrev pub shown_front : spec.Taken → Front
shown_front (spec.Taken.TakenInterrupt octets) = front.Interrupt
shown_front (spec.Taken.TakenPacket d) = front.«Data» (length d.octets) d.more d.qualified d.delivery

abbrev pub maybe_front : Option spec.Taken → Option Front
maybe_front (Some x) = Some (shown_front x)
maybe_front None = None

-- its octets
abbrev pub taken_octets : Option spec.Taken → List ℕ
taken_octets None = []
taken_octets (Some (spec.Taken.TakenInterrupt octets)) = octets
taken_octets (Some (spec.Taken.TakenPacket d)) = d.octets

-- what is taken, of what was told of it and its octets
abbrev pub taken_with : Front → List ℕ → spec.Taken
taken_with front.Interrupt octets = spec.Taken.TakenInterrupt octets
taken_with (front.«Data» count more qualified delivery) octets = spec.Taken.TakenPacket (record {
  octets = octets;
  more = more;
  qualified = qualified;
  delivery = delivery;
})

-- an interrupt has at most 32 octets, a packet at most 1,024
abbrev pub HasFewOctets : Front → List ℕ → Type 0
HasFewOctets front.Interrupt octets = length octets ≤ 32
HasFewOctets (front.«Data» count more qualified delivery) octets = length octets ≤ 1024
