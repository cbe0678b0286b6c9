-- What a line may have as its window and its packet size.
use Rattle.std.proofs.Common.{ℕ, ◌<◌, ◌≤◌, arith}
use Rattle.packet_codec.specs.declared.packet.Numbering.{Numbering}
use Rattle.packet_codec.specs.declared.packet.Numbering.TheVariants.{Modulo8, Modulo128}
use Rattle.data_transfer.specs.Flow.{IsFlow, modulus, most_window}
use Rattle.data_transfer.specs.declared.flow.Flow.{Flow}
use Rattle.data_transfer.proofs.Pieces as pieces

largest : (n : Numbering) (window : ℕ) → window ≤ most_window n → window ≤ 32
largest Modulo8 window most = omega (arith, most)
largest Modulo128 window most = most

below : (n : Numbering) (window : ℕ) → window ≤ most_window n → window < modulus n
below Modulo8 window most = omega (arith, most)
below Modulo128 window most = omega (arith, most)

pub window_small : (flow : Flow) → IsFlow flow → flow.window ≤ 32
window_small flow is = largest flow.numbering flow.window is.window_most

pub window_below : (flow : Flow) → IsFlow flow → flow.window < modulus flow.numbering
window_below flow is = below flow.numbering flow.window is.window_most

under : (n : Numbering) (window : ℕ) → window < modulus n → window ≤ 127
under Modulo8 window small = omega (arith, small)
under Modulo128 window small = omega (arith, small)

pub below_small : (flow : Flow) → flow.window < modulus flow.numbering → flow.window ≤ 127
below_small flow small = under flow.numbering flow.window small

pub size_least : (flow : Flow) → IsFlow flow → 128 ≤ flow.size
size_least flow is = pieces.size_least flow.size is.size_is

pub size_most : (flow : Flow) → IsFlow flow → flow.size ≤ 1024
size_most flow is = pieces.size_most flow.size is.size_is
