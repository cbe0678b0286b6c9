-- The parameters of an end of a line.
use Rattle.std.specs.Prelude.{ℕ, ◌+◌, max}
use Rattle.lapb.specs.Params as link
use Rattle.lapb.specs.declared.link.LinkParams.{LinkParams}
use Rattle.data_transfer.specs.declared.flow.Flow.{Flow}
use Rattle.packet_layer.specs.Params as layer
use Rattle.packet_layer.specs.declared.fault.LayerFault.{LayerFault}
use Rattle.packet_layer.specs.declared.fault.LayerFault.TheVariants as layer_fault
use Rattle.packet_end.specs.declared.fault.EndFault.{EndFault}
use Rattle.packet_end.specs.declared.fault.EndFault.TheVariants.{BadConfig, OutOfMemory}
use Rattle.packet_end.specs.declared.params.EndParams.{EndParams}

-- the most octets of information of an I frame on a line, which are those of a packet: of a Call Request 145, and of a
-- Data packet the size and a header of at most 4 octets
abbrev pub info_of : Flow → ℕ
info_of flow = max 145 (flow.size + 4)

-- how the link of an end is made
abbrev pub link_params : EndParams → LinkParams
link_params p = record { k = p.k; n2 = p.n2; info = info_of p.flow; standing = p.standing }

pub record AreParams (p : EndParams) : Type 0 where
  pub link : link.AreParams (link_params p)
  pub layer : layer.AreParams p.channels p.flow

abbrev pub MadeNot : EndParams → EndFault → Type 0
MadeNot p BadConfig = AreParams p → ⊥
MadeNot p OutOfMemory = AreParams p

-- a fault of the layer is one of the end
abbrev pub end_fault : LayerFault → EndFault
end_fault layer_fault.BadParams = BadConfig
end_fault layer_fault.OutOfMemory = OutOfMemory
