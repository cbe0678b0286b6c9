use Rattle.std.proofs.Common.{◌∙◌, ap, sym, rules, tests}
use Rattle.packet_layer.specs.Layer.{front_on}
use Rattle.packet_end.specs.PacketEnd.{PacketEnd}
use Rattle.packet_host.specs.Host.{after_take}
use Rattle.packet_host.proofs.Refused.{took_nothing, nothing_told}
use Rattle.packet_host.proofs.host.Host.take_into.Goals as goal

pub returns-in_err-front-clause-host : goal.returns-in_err-front-clause-host
returns-in_err-front-clause-host c =
    took_nothing c.self.inside.end c.take_into.new.self c.args.channel (nothing_told (front_on c.self.inside.end.layer c.args.channel) (sym c.in_err-front.ensures.front)) c.take_into.ensures.end
    ∙ ap (λ (e : PacketEnd). after_take e c.args.channel) c.self.view_is

pub returns-clause-host : goal.returns-clause-host
returns-clause-host c = search (rules, tests)

pub returns-clause-frames : goal.returns-clause-frames
returns-clause-frames c = search (rules, tests)
