-- The frames of an expiry, and those of the end of the event.
use Rattle.std.specs.Prelude.{◌≡◌}
use Rattle.std.proofs.Common.{ap, sym, ◌∙◌}
use Rattle.packet_end.specs.PacketEnd as end
use Rattle.packet_end.specs.PacketEnd.{PacketEnd}
use Rattle.x25_pad.specs.Pad as spec
use Rattle.pad_ports.specs.LineView.{line_of}
use Rattle.x25_pad.specs.Pad.{PadState}
use Rattle.x25_pad.specs.PadView.{pad_of}
use Rattle.x25_pad.specs.declared.pad.Pad.TheInside.{Inside}
use Rattle.x25_pad.proofs.Frames.{expiry_whole}
use Rattle.x25_pad.proofs.pad.Pad.on_line_timer.Goals as goal

pub returns-clause-frames : goal.returns-clause-frames
returns-clause-frames c =
    let x = c.self-inside-2.inside in
    let p : PadState = record { line = line_of x.0.0; ports = x.0.1.0.items } in
    let opened : p ≡ pad_of c.self-2.inside = ap (λ (a : Inside). pad_of a) c.self-inside-2.view_is in
    expiry_whole c.args.self.now (spec.with_end c.on_timer.new.self p) c.end_line_event.new.self c.args.id
    (ap (λ (q : PadState). end.runs_at q.line.end c.args.id) (sym c.self.view_is)
    ∙ ap (λ (a : Inside). end.runs_at a.line.end c.args.id) (sym c.self-inside.view_is)
    ∙ ap (λ (e : PacketEnd). end.runs_at e c.args.id) (sym c.deref.ensures) ∙ sym c.if-not-is_running.ensures)
    (ap (λ (e : PacketEnd). spec.with_end e p) c.on_timer.ensures.end
    ∙ ap (λ (q : PadState). spec.with_end (end.after_timer q.line.end c.args.id) q) (opened ∙ c.self-2.view_is ∙ c.begin.ensures))
    c.end_line_event.ensures.frames
