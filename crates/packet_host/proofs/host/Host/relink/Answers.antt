use Rattle.std.proofs.Common.{◌∙◌, ap}
use Rattle.packet_end.specs.PacketEnd as end
use Rattle.packet_end.specs.PacketEnd.{PacketEnd}
use Rattle.packet_host.proofs.Frames.{relink_whole}
use Rattle.packet_host.proofs.host.Host.relink.Goals as goal

pub returns-clause-frames : goal.returns-clause-frames
returns-clause-frames c =
    relink_whole c.args.self.now c.relink.new.self c.finish.new.self
    (c.relink.ensures.end
    ∙ (ap (λ (e : PacketEnd). end.relinked e) c.begin.ensures
    ∙ ap (λ (e : PacketEnd). end.relinked (end.begun e)) c.self.view_is)) c.finish.ensures.frames
