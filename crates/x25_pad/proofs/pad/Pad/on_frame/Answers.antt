-- The answer to a frame, and the frames of the end of the event.
use Rattle.std.specs.Prelude.{◌≡◌}
use Rattle.std.proofs.Common.{ap, ◌∙◌}
use Rattle.packet_end.specs.PacketEnd as end
use Rattle.packet_end.specs.PacketEnd.{PacketEnd}
use Rattle.packet_end.proofs.Sizes.{received_same}
use Rattle.x25_pad.specs.Pad as spec
use Rattle.pad_ports.specs.LineView.{line_of}
use Rattle.x25_pad.specs.Pad.{PadState}
use Rattle.x25_pad.specs.PadView.{pad_of}
use Rattle.x25_pad.specs.declared.pad.Pad.TheInside.{Inside}
use Rattle.x25_pad.proofs.Frames.{frame_whole}
use Rattle.x25_pad.proofs.pad.Pad.on_frame.Goals as goal

-- a frame leaves the packet size of the line
pub invariant_of-self-inside : goal.invariant_of-self-inside
invariant_of-self-inside c =
    ap (λ (e : PacketEnd). e.layer.flow.size) c.on_frame.ensures.end
    ∙ received_same c.self-inside.inside.0.0.end c.args.octets.now ∙ c.self-inside.invariant

pub returns-clause-frames : goal.returns-clause-frames
returns-clause-frames c =
    let x = c.self-inside.inside in
    let p : PadState = record { line = line_of x.0.0; ports = x.0.1.0.items } in
    let opened : p ≡ pad_of c.self.inside = ap (λ (a : Inside). pad_of a) c.self-inside.view_is in
    frame_whole c.args.self.now (spec.with_end c.on_frame.new.self p) c.end_line_event.new.self c.args.octets.now
    (ap (λ (e : PacketEnd). spec.with_end e p) c.on_frame.ensures.end
    ∙ ap (λ (q : PadState). spec.with_end (end.received q.line.end c.args.octets.now) q) (opened ∙ c.self.view_is ∙ c.begin.ensures))
    c.end_line_event.ensures.frames
