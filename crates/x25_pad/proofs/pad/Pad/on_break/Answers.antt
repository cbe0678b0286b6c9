-- What happens at a terminal sends nothing before the event ends.
use Rattle.std.proofs.Common.{ap, ◌∙◌}
use Rattle.pad_ports.specs.Ports as port
use Rattle.x25_pad.specs.Pad as spec
use Rattle.x25_pad.specs.Pad.{PadState}
use Rattle.x25_pad.proofs.Frames.{break_same, terminal_whole}
use Rattle.x25_pad.proofs.pad.Pad.on_break.Goals as goal

pub returns-clause-frames : goal.returns-clause-frames
returns-clause-frames c =
    terminal_whole c.args.terminal port.after_break (λ a. break_same a) c.args.self.now c.break_in-taken.new.self c.finish.new.self
    (c.break_in-taken.ensures.pad ∙ ap (λ (p : PadState). spec.at_port c.args.terminal port.after_break p) c.begin.ensures) c.finish.ensures.frames
