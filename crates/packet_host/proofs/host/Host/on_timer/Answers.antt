use Rattle.std.proofs.Common.{◌∙◌, ap, sym}
use Rattle.packet_end.specs.PacketEnd as end
use Rattle.packet_end.specs.PacketEnd.{PacketEnd}
use Rattle.packet_host.proofs.Frames.{expiry_whole}
use Rattle.packet_host.proofs.host.Host.on_timer.Goals as goal

pub returns-clause-frames : goal.returns-clause-frames
returns-clause-frames c =
    expiry_whole c.args.self.now c.on_timer.new.self c.finish.new.self c.args.id
    (ap (λ (e : PacketEnd). end.runs_at e c.args.id) (sym c.self.view_is ∙ sym c.deref.ensures)
    ∙ sym c.if-not-is_running.ensures)
    (c.on_timer.ensures.end
    ∙ (ap (λ (e : PacketEnd). end.after_timer e c.args.id) c.begin.ensures
    ∙ ap (λ (e : PacketEnd). end.after_timer (end.begun e) c.args.id) c.self.view_is)) c.finish.ensures.frames
