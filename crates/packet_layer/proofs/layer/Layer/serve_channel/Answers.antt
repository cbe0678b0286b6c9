use Rattle.std.proofs.lemmas.Grind.{common_steps}
use Rattle.std.proofs.Common.{◌≡◌, ◌+◌, true, false, Some, set, sym, arith}
use Rattle.std.specs.Prelude.{slice_get}
use Rattle.packet_layer.specs.Held.{plain}
use Rattle.packet_layer.specs.Layer.{serve}
use Rattle.packet_layer.specs.LayerView.{layer_of}
use Rattle.packet_layer.proofs.Placed.{placed, own_held, own_balance, few_after, fits_at}
use Rattle.packet_layer.proofs.Served.{IsServed, spoke, quiet}
use Rattle.packet_layer.proofs.Silence.{layer_asked, layer_quieted}
use Rattle.packet_layer.proofs.layer.Layer.serve_channel.Goals as goal

-- the channel that is served
there_then : (c : goal.After-self-then-next_packet-1) → slice_get c.self.inside.channels.items c.args.place ≡ Some c.index_mut-channel.result.now
there_then c =
    placed c.self.inside c.args.self.now c.args.place c.index_mut-channel.result.now c.self.view_is c.requires.place
    c.index_mut-channel.ensures.value

there_else : (c : goal.After-remove) → slice_get c.self.inside.channels.items c.args.place ≡ Some c.index_mut-channel.result.now
there_else c =
    placed c.self.inside c.args.self.now c.args.place c.index_mut-channel.result.now c.self.view_is c.requires.place
    c.index_mut-channel.ensures.value

served_then : (c : goal.After-self-then-next_packet-1) →
    IsServed c.args.self.now.layer.flow (serve 1 c.args.self.now.layer (c.args.place + 1))
    (record (layer_of c.self.inside) {
      channels = plain (set c.self.inside.channels.items c.args.place c.next_packet.new.self);
      served_last = c.args.place + 1;
    })
    true c.args.buf.now.items c.next_packet.new.buf.items
served_then c =
    spoke c.self.inside c.args.self.now c.args.place c.index_mut-channel.result.now c.next_packet.new.self
    c.args.buf.now.items c.next_packet.new.buf.items c.self.view_is (there_then c) (sym c.if-next_packet.ensures.said)
    c.if-next_packet.ensures.channel c.if-next_packet.ensures.octets
    (c.if-next_packet.ensures.reads_back
    (fits_at c.self.inside.flow c.self.inside.channels.items c.args.place c.index_mut-channel.result.now c.self.invariant.fits
    (there_then c)))

served_else : (c : goal.After-remove) →
    IsServed c.args.self.now.layer.flow (serve 1 c.args.self.now.layer (c.args.place + 1))
    (record (layer_of c.self.inside) { channels = plain (set c.self.inside.channels.items c.args.place c.next_packet.new.self) })
    false c.args.buf.now.items c.next_packet.new.buf.items
served_else c =
    quiet c.self.inside c.args.self.now c.args.place c.index_mut-channel.result.now c.next_packet.new.self
    c.args.buf.now.items c.next_packet.new.buf.items c.self.view_is (there_else c) (sym c.if-next_packet.ensures.said)
    c.if-next_packet.ensures.same c.if-next_packet.ensures.octets

pub invariant_of-self : goal.invariant_of-self
invariant_of-self c =
    layer_asked c.self.inside c.keep_if.new.numbers c.args.place c.index_mut-channel.result.now c.next_packet.new.self
    c.has_packet.result (c.args.place + 1) c.self.invariant c.keep_if.ensures (there_then c) c.has_packet.ensures
    (c.next_packet.ensures.fits c.self.inside.flow)

pub invariant_of-self-else-next_packet : goal.invariant_of-self-else-next_packet
invariant_of-self-else-next_packet c =
    layer_quieted c.self.inside c.remove.new.self c.args.place c.index_mut-channel.result.now c.next_packet.new.self c.self.invariant
    c.remove.ensures (there_else c) (sym c.if-next_packet.ensures.said) c.if-next_packet.ensures.same

pub returns-then-next_packet-clause-layer : goal.returns-then-next_packet-clause-layer
returns-then-next_packet-clause-layer c = (served_then c).layer

pub returns-then-next_packet-clause-said : goal.returns-then-next_packet-clause-said
returns-then-next_packet-clause-said c = (served_then c).said

pub returns-then-next_packet-clause-octets : goal.returns-then-next_packet-clause-octets
returns-then-next_packet-clause-octets c = (served_then c).octets

pub returns-then-next_packet-clause-reads_back : goal.returns-then-next_packet-clause-reads_back
returns-then-next_packet-clause-reads_back c = (served_then c).reads_back

pub returns-then-next_packet-clause-pool : goal.returns-then-next_packet-clause-pool
returns-then-next_packet-clause-pool c =
    own_balance c.self.inside c.args.self.now c.args.pool.now c.next_packet.new.pool c.args.place c.index_mut-channel.result.now
    c.next_packet.new.self c.self.view_is (there_then c) c.next_packet.ensures.pool

pub returns-then-next_packet-clause-few : goal.returns-then-next_packet-clause-few
returns-then-next_packet-clause-few c =
    few_after c.self.inside.flow c.self.inside.channels.items c.args.place c.index_mut-channel.result.now c.next_packet.new.self
    c.self.invariant.fits (there_then c) (c.next_packet.ensures.fits c.self.inside.flow)

pub returns-else-next_packet-clause-layer : goal.returns-else-next_packet-clause-layer
returns-else-next_packet-clause-layer c = (served_else c).layer

pub returns-else-next_packet-clause-said : goal.returns-else-next_packet-clause-said
returns-else-next_packet-clause-said c = (served_else c).said

pub returns-else-next_packet-clause-octets : goal.returns-else-next_packet-clause-octets
returns-else-next_packet-clause-octets c = (served_else c).octets

pub returns-else-next_packet-clause-reads_back : goal.returns-else-next_packet-clause-reads_back
returns-else-next_packet-clause-reads_back c = (served_else c).reads_back

pub returns-else-next_packet-clause-pool : goal.returns-else-next_packet-clause-pool
returns-else-next_packet-clause-pool c =
    own_balance c.self.inside c.args.self.now c.args.pool.now c.next_packet.new.pool c.args.place c.index_mut-channel.result.now
    c.next_packet.new.self c.self.view_is (there_else c) c.next_packet.ensures.pool

pub returns-else-next_packet-clause-few : goal.returns-else-next_packet-clause-few
returns-else-next_packet-clause-few c =
    few_after c.self.inside.flow c.self.inside.channels.items c.args.place c.index_mut-channel.result.now c.next_packet.new.self
    c.self.invariant.fits (there_else c) (c.next_packet.ensures.fits c.self.inside.flow)

pub next_packet-requires-clause-holds : goal.next_packet-requires-clause-holds
next_packet-requires-clause-holds c =
    own_held c.self.inside c.args.self.now c.args.pool.now c.args.place c.index_mut-channel.result.now c.self.view_is
    c.requires.holds
    (placed c.self.inside c.args.self.now c.args.place c.index_mut-channel.result.now c.self.view_is c.requires.place
    c.index_mut-channel.ensures.value)

pub index_mut-channel-requires : goal.index_mut-channel-requires
index_mut-channel-requires c = grind (arith, common_steps)

pub remove-requires : goal.remove-requires
remove-requires c = grind (arith, common_steps)

pub returns-else-next_packet-clause-most : goal.returns-else-next_packet-clause-most
returns-else-next_packet-clause-most c = grind (arith, common_steps)

pub returns-then-next_packet-clause-most : goal.returns-then-next_packet-clause-most
returns-then-next_packet-clause-most c = grind (arith, common_steps)
