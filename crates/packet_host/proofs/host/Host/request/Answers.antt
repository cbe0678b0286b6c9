use Rattle.std.proofs.Common.{◌∙◌, ap}
use Rattle.packet_channel.specs.Channel.{Request}
use Rattle.packet_layer.specs.RequestView.{request_of}
use Rattle.packet_end.specs.PacketEnd.{PacketEnd}
use Rattle.packet_host.specs.Host.{after_request}
use Rattle.packet_host.proofs.Refused.{went_not}
use Rattle.packet_host.proofs.host.Host.request.Goals as goal

pub returns-in_err-ask-clause-host : goal.returns-in_err-ask-clause-host
returns-in_err-ask-clause-host c =
    let asks : Request = request_of c.args.request.now in
    went_not c.self.inside.end c.ask.new.self c.args.channel asks _ c.in_err-ask.ensures.answer
    c.ask.ensures.end
    ∙ ap (λ (e : PacketEnd). after_request e c.args.channel asks) c.self.view_is
