use Rattle.std.proofs.lemmas.Grind.{common_steps}
use Rattle.std.proofs.Common.{◌≡◌, ◌∙◌, ap, sym, subst, Some, ◌<◌, length, arith}
use Rattle.std.specs.Prelude.{slice_get, is_some}
use Rattle.data_transfer.specs.declared.flow.Flow.{Flow}
use Rattle.packet_channel.specs.Channel.{next_of}
use Rattle.packet_codec.specs.View.{content_view}
use Rattle.packet_layer.specs.Layer.{set_if}
use Rattle.data_transfer.specs.Octets.{body_of}
use Rattle.packet_layer.specs.Held.{Layer as Held}
use Rattle.packet_layer.specs.LayerView.{layer_of}
use Rattle.packet_layer.proofs.Placed.{placed, own_held, own_room, own_balance, rw_fits, borrowed, plain_at, plain_set, few_after, few, own_few}
use Rattle.packet_layer.specs.RestartView.{phase_of}
use Rattle.packet_layer.proofs.Places.{packet_taken}
use Rattle.packet_layer.proofs.Silence.{layer_heard}
use Rattle.packet_layer.proofs.layer.Layer.take_on_channel.Goals as goal

pub returns-clause-layer : goal.returns-clause-layer
returns-clause-layer c =
    let a = c.self.inside in
    let l = layer_of a in
    let held = c.index_mut-channel.result.now in
    let ch = held.channel in
    let within : c.in-Some.place < length l.channels = subst (λ (x : Held). c.in-Some.place < length x.layer.channels) (sym c.self.view_is) c.in-Some.ensures.1 in
    let there = borrowed a.channels.items c.in-Some.place held within c.index_mut-channel.ensures.value in
    let found : slice_get l.channels c.in-Some.place ≡ Some ch = plain_at a.channels.items c.in-Some.place held there in
    ap (λ (x : Held). x.layer) c.relink_if.ensures
    ∙ (rw (← c.self.view_is) (ap (λ chs. record l { channels = chs; relink = set_if c.take_packet-relink.result l.relink; notes = c.take_packet-relink.new.notes }) (plain_set a.channels.items c.in-Some.place c.take_packet-relink.new.self)
    ∙ packet_taken l c.args.packet.now.channel c.in-Some.place
    ch c.take_packet-relink.new.self.channel (body_of (content_view c.args.packet.now.content))
    c.take_packet-relink.result c.take_packet-relink.new.notes c.end-end.result.role c.end-end.result.flow c.end-end.result.channel
    (ap phase_of c.in-PacketReady.is) c.in-Some.ensures.0 found (ap (λ (x : Held). x.layer.notes) c.self.view_is ∙ c.requires.read)
    (c.end-end.ensures.role ∙ ap (λ (x : Held). x.layer.role) (sym c.self.view_is))
    (c.end-end.ensures.flow ∙ ap (λ (x : Held). x.layer.flow) (sym c.self.view_is))
    c.end-end.ensures.channel
    c.take_packet-relink.ensures.done))

pub take_packet-relink-requires-clause-holds : goal.take_packet-relink-requires-clause-holds
take_packet-relink-requires-clause-holds c =
    let a = c.self.inside in
    let held = c.index_mut-channel.result.now in
    let there = placed a c.args.self.now c.in-Some.place held c.self.view_is c.in-Some.ensures.1 c.index_mut-channel.ensures.value in
    own_held a c.args.self.now c.args.pool.now c.in-Some.place held c.self.view_is c.requires.holds there

pub take_packet-relink-requires-clause-room : goal.take_packet-relink-requires-clause-room
take_packet-relink-requires-clause-room c = own_room c.self.inside c.args.self.now c.args.pool.now c.self.invariant c.self.view_is c.requires.room

pub returns-clause-pool : goal.returns-clause-pool
returns-clause-pool c =
    let a = c.self.inside in
    let held = c.index_mut-channel.result.now in
    let there = placed a c.args.self.now c.in-Some.place held c.self.view_is c.in-Some.ensures.1 c.index_mut-channel.ensures.value in
    rw c.relink_if.ensures (own_balance a c.args.self.now c.args.pool.now c.take_packet-relink.new.pool c.in-Some.place held c.take_packet-relink.new.self c.self.view_is there
    c.take_packet-relink.ensures.pool)

pub invariant_of-self : goal.invariant_of-self
invariant_of-self c =
    let a = c.self.inside in
    let held = c.index_mut-channel.result.now in
    let there = placed a c.args.self.now c.in-Some.place held c.self.view_is c.in-Some.ensures.1 c.index_mut-channel.ensures.value in
    layer_heard a c.keep_if.new.numbers c.in-Some.place held c.take_packet-relink.new.self _ c.take_packet-relink.result c.has_packet.result
    c.take_packet-relink.new.notes c.self.invariant c.keep_if.ensures there
    (c.has_packet.ensures ∙ ap (λ (flow : Flow). is_some (next_of flow c.take_packet-relink.new.self.channel).body) (c.end-end.ensures.flow ∙ ap (λ (x : Held). x.layer.flow) (sym c.self.view_is)))
    (rw_fits a.flow c.end-end.result.flow held c.take_packet-relink.new.self (c.end-end.ensures.flow ∙ ap (λ (x : Held). x.layer.flow) (sym c.self.view_is)) c.take_packet-relink.ensures.fits) c.take_packet-relink.ensures.done

pub returns-clause-few : goal.returns-clause-few
returns-clause-few c =
    let a = c.self.inside in
    let held = c.index_mut-channel.result.now in
    let there = placed a c.args.self.now c.in-Some.place held c.self.view_is c.in-Some.ensures.1 c.index_mut-channel.ensures.value in
    rw c.relink_if.ensures (few_after a.flow a.channels.items c.in-Some.place held c.take_packet-relink.new.self c.self.invariant.fits there
    (rw_fits a.flow c.end-end.result.flow held c.take_packet-relink.new.self (c.end-end.ensures.flow ∙ ap (λ (x : Held). x.layer.flow) (sym c.self.view_is)) c.take_packet-relink.ensures.fits))

pub index_mut-channel-requires : goal.index_mut-channel-requires
index_mut-channel-requires c = grind (arith, common_steps)

pub keep_if-requires : goal.keep_if-requires
keep_if-requires c = grind (arith, common_steps)

pub returns-clause-most : goal.returns-clause-most
returns-clause-most c = grind (arith, common_steps)

pub returns-in_default : goal.returns-in_default
returns-in_default c = grind (arith, own_few, few)

pub returns-in_default-place-clause-few : goal.returns-in_default-place-clause-few
returns-in_default-place-clause-few c = grind (arith, own_few, few)
