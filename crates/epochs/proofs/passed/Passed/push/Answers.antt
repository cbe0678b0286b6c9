use Rattle.std.proofs.Common.{ap, ◌∙◌}
use Rattle.epochs.specs.Packets.{data_packet_of}
use Rattle.epochs.specs.Passed.{PassedState, with_packet}
use Rattle.epochs.proofs.Cutting.{packet_passed, in_order_packet}
use Rattle.epochs.proofs.passed.Passed.push.Goals as goal

pub invariant_of-self : goal.invariant_of-self
invariant_of-self c =
    let a = c.self.inside in
    in_order_packet a.ends.items a.counted a.packets.packets a.interrupts.items (data_packet_of c.args.packet) c.push.new.self.packets c.self.invariant c.push.ensures.packets

pub returns-clause-epochs : goal.returns-clause-epochs
returns-clause-epochs c =
    let a = c.self.inside in
    let p = data_packet_of c.args.packet in
    packet_passed a.ends.items a.counted a.packets.packets a.interrupts.items p c.push.new.self.packets c.self.invariant c.push.ensures.packets
    ∙ ap (λ (s : PassedState). with_packet p s.epochs) c.self.view_is
