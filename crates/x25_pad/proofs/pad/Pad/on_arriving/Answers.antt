-- What happens at a terminal sends nothing before the event ends.
use Rattle.std.proofs.Common.{refl, ap, ◌∙◌}
use Rattle.pad_ports.specs.Ports as port
use Rattle.x25_pad.specs.Pad as spec
use Rattle.x25_pad.specs.Pad.{PadState}
use Rattle.x25_pad.proofs.Frames.{terminal_whole}
use Rattle.x25_pad.proofs.pad.Pad.on_arriving.Goals as goal

pub returns-clause-frames : goal.returns-clause-frames
returns-clause-frames c =
    terminal_whole c.args.terminal port.after_arrival (λ a. refl) c.args.self.now c.arrive.new.self c.finish.new.self
    (c.arrive.ensures.pad ∙ ap (λ (p : PadState). spec.at_port c.args.terminal port.after_arrival p) c.begin.ensures) c.finish.ensures.frames
