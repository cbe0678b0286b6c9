use Rattle.std.proofs.Common.{◌∙◌, ap}
use Rattle.packet_end.specs.PacketEnd as end
use Rattle.packet_end.specs.PacketEnd.{PacketEnd}
use Rattle.packet_host.proofs.Frames.{frame_whole}
use Rattle.packet_host.proofs.host.Host.on_frame.Goals as goal

pub returns-clause-frames : goal.returns-clause-frames
returns-clause-frames c =
    frame_whole c.args.self.now c.on_frame.new.self c.finish.new.self c.args.octets.now
    (c.on_frame.ensures.end
    ∙ (ap (λ (e : PacketEnd). end.received e c.args.octets.now) c.begin.ensures
    ∙ ap (λ (e : PacketEnd). end.received (end.begun e) c.args.octets.now) c.self.view_is)) c.finish.ensures.frames
