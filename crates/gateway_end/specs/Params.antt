-- How the end of a gateway is made.
use Rattle.std.specs.Prelude.{false}
use Rattle.lapb.specs.Params.{AreParams}
use Rattle.lapb.specs.declared.link.LinkParams.{LinkParams}
use Rattle.xot_gateway.specs.Packets.{most_packet}
use Rattle.gateway_end.specs.declared.params.GatewayParams.{GatewayParams}
use Rattle.gateway_end.specs.declared.fault.GatewayFault.{GatewayFault}
use Rattle.gateway_end.specs.declared.fault.GatewayFault.TheVariants.{BadParams, OutOfMemory}

-- an I frame carries any packet of the line
abbrev pub link_params : GatewayParams → LinkParams
link_params p = record { k = p.k; n2 = p.n2; info = most_packet p.line; standing = false }

abbrev pub MadeNot : GatewayParams → GatewayFault → Type 0
MadeNot p BadParams = AreParams (link_params p) → ⊥
MadeNot p OutOfMemory = AreParams (link_params p)
