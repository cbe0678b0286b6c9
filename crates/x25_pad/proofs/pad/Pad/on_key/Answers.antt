-- What happens at a terminal sends nothing before the event ends.
use Rattle.std.proofs.Common.{ap, ◌∙◌}
use Rattle.pad_ports.specs.Ports as port
use Rattle.x25_pad.specs.Pad as spec
use Rattle.x25_pad.specs.Pad.{PadState}
use Rattle.x25_pad.proofs.Frames.{key_same, terminal_whole}
use Rattle.x25_pad.proofs.pad.Pad.on_key.Goals as goal

pub returns-clause-frames : goal.returns-clause-frames
returns-clause-frames c =
    terminal_whole c.args.terminal (port.after_key c.args.octet) (λ a. key_same c.args.octet a) c.args.self.now c.press-taken.new.self c.finish.new.self
    (c.press-taken.ensures.pad ∙ ap (λ (p : PadState). spec.at_port c.args.terminal (port.after_key c.args.octet) p) c.begin.ensures) c.finish.ensures.frames
