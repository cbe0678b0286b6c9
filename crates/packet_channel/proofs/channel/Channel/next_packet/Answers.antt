use Rattle.std.proofs.Common.{arith, ap, sym, ◌∙◌}
use Rattle.std.proofs.lemmas.Grind.{elements}
use Rattle.data_transfer.specs.Held.{Traffic}
use Rattle.packet_channel.specs.ChannelView.{channel_of}
use Rattle.packet_channel.specs.Held.{Channel as Holder}
use Rattle.packet_channel.proofs.Unsent.{channel_said_all, unsent_after}
use Rattle.packet_channel.proofs.channel.Channel.next_packet.Goals as goal

pub returns-clause-channel : goal.returns-clause-channel
returns-clause-channel c = grind (arith, elements)

pub returns-clause-octets : goal.returns-clause-octets
returns-clause-octets c = grind (arith, elements)

pub returns-clause-reads_back : goal.returns-clause-reads_back
returns-clause-reads_back c = grind (arith, elements)

pub returns-clause-said : goal.returns-clause-said
returns-clause-said c = grind (arith, elements)

pub returns-then-not-has_flow-clause-channel : goal.returns-then-not-has_flow-clause-channel
returns-then-not-has_flow-clause-channel c = grind (arith, elements)

pub returns-then-not-has_flow-clause-octets : goal.returns-then-not-has_flow-clause-octets
returns-then-not-has_flow-clause-octets c = grind (arith, elements)

pub returns-then-not-has_flow-clause-reads_back : goal.returns-then-not-has_flow-clause-reads_back
returns-then-not-has_flow-clause-reads_back c = grind (arith, elements)

pub returns-then-not-has_flow-clause-said : goal.returns-then-not-has_flow-clause-said
returns-then-not-has_flow-clause-said c = grind (arith, elements)

pub returns-then-not-has_flow-clause-unsent : goal.returns-then-not-has_flow-clause-unsent
returns-then-not-has_flow-clause-unsent c =
    channel_said_all c.args.flow c.args.self.now.channel (sym (returns-then-not-has_flow-clause-said c))

pub returns-clause-unsent : goal.returns-clause-unsent
returns-clause-unsent c =
    unsent_after c.args.flow c.args.self.now.channel _ c.next_packet.result
    (λ same. ap (λ (t : Traffic). channel_of (record c.self.inside { traffic = t })) same
    ∙ ap (λ (h : Holder). h.channel) c.self.view_is)
    c.next_packet.ensures.same (returns-clause-said c)
