use Rattle.std.proofs.Common.{◌∙◌, ap, sym, rules, tests}
use Rattle.packet_end.specs.PacketEnd.{PacketEnd}
use Rattle.packet_host.specs.Host.{after_take}
use Rattle.packet_host.proofs.Refused.{took_nothing}
use Rattle.packet_host.proofs.host.Host.take.Goals as goal

pub returns-in_err-taken-clause-host : goal.returns-in_err-taken-clause-host
returns-in_err-taken-clause-host c =
    took_nothing c.self.inside.end c.take.new.self c.args.channel (sym c.in_err-taken.ensures.taken) c.take.ensures.end
    ∙ ap (λ (e : PacketEnd). after_take e c.args.channel) c.self.view_is

pub returns-clause-host : goal.returns-clause-host
returns-clause-host c = search (rules, tests)

pub returns-clause-frames : goal.returns-clause-frames
returns-clause-frames c = search (rules, tests)
