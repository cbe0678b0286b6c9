-- The end of an event leaves the packet size of the line.
use Rattle.std.proofs.Common.{ap, ◌∙◌}
use Rattle.packet_end.specs.PacketEnd.{PacketEnd}
use Rattle.packet_end.proofs.Sizes.{finished_same}
use Rattle.x25_pad.proofs.pad.Pad.finish.Goals as goal

pub invariant_of-self-inside : goal.invariant_of-self-inside
invariant_of-self-inside c =
    ap (λ (e : PacketEnd). e.layer.flow.size) c.finish.ensures.end ∙ finished_same c.self-inside.inside.0.0.end
    ∙ c.self-inside.invariant
