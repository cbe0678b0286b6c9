-- What happens at a terminal sends nothing before the event ends.
use Rattle.std.proofs.Common.{ap, ◌∙◌}
use Rattle.pad_ports.specs.Ports as port
use Rattle.x25_pad.specs.Pad as spec
use Rattle.x25_pad.specs.Pad.{PadState}
use Rattle.x25_pad.proofs.Frames.{leaving_same, terminal_whole}
use Rattle.x25_pad.proofs.pad.Pad.on_leaving.Goals as goal

pub returns-clause-frames : goal.returns-clause-frames
returns-clause-frames c =
    terminal_whole c.args.terminal port.after_leaving (λ a. leaving_same a) c.args.self.now c.leave.new.self c.finish.new.self
    (c.leave.ensures.pad ∙ ap (λ (p : PadState). spec.at_port c.args.terminal port.after_leaving p) c.begin.ensures) c.finish.ensures.frames
