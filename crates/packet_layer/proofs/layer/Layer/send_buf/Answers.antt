use Rattle.std.proofs.lemmas.Grind.{common_steps}
use Rattle.std.proofs.Common.{◌≡◌, ◌∙◌, ap, Some, arith}
use Rattle.std.specs.Prelude.{slice_get}
use Rattle.packet_channel.specs.Answers.{handed_back}
use Rattle.packet_layer.specs.LayerView.{layer_of}
use Rattle.packet_layer.proofs.Placed.{placed, own_gain, few_after, plain_at, plain_set, own_few}
use Rattle.packet_layer.proofs.Places.{sent, sent_answer, sent_back}
use Rattle.packet_layer.proofs.Silence.{layer_touched}
use Rattle.packet_layer.proofs.layer.Layer.send_buf.Goals as goal

pub returns-clause-layer : goal.returns-clause-layer
returns-clause-layer c =
    let a = c.self.inside in
    let l = layer_of a in
    let held = c.index_mut-channel.result.now in
    let ch = held.channel in
    let there = placed a c.args.self.now c.in-Some.place held c.self.view_is c.in-Some.ensures.1 c.index_mut-channel.ensures.value in
    let found : slice_get l.channels c.in-Some.place ≡ Some ch = plain_at a.channels.items c.in-Some.place held there in
    rw (← c.self.view_is) (ap (λ chs. record l { channels = chs }) (plain_set a.channels.items c.in-Some.place c.send_buf.new.self)
    ∙ sent l c.args.channel c.in-Some.place ch c.send_buf.new.self.channel c.args.packet c.send_buf.result (c.in-Some.ensures.0 ∙ c.from.ensures) found
    (c.send_buf.ensures.answer l.role))

pub returns-clause-answer : goal.returns-clause-answer
returns-clause-answer c =
    let a = c.self.inside in
    let l = layer_of a in
    let held = c.index_mut-channel.result.now in
    let there = placed a c.args.self.now c.in-Some.place held c.self.view_is c.in-Some.ensures.1 c.index_mut-channel.ensures.value in
    let found = plain_at a.channels.items c.in-Some.place held there in
    rw (← c.self.view_is) (sent_answer l c.args.channel c.in-Some.place held.channel c.send_buf.new.self.channel c.args.packet c.send_buf.result
    (c.in-Some.ensures.0 ∙ c.from.ensures) found (c.send_buf.ensures.answer l.role))

pub returns-clause-back : goal.returns-clause-back
returns-clause-back c =
    sent_back c.self.inside.role c.self.inside.flow c.index_mut-channel.result.now.channel c.send_buf.new.self.channel c.args.packet c.send_buf.result
    (c.send_buf.ensures.answer c.self.inside.role)

pub returns-clause-held : goal.returns-clause-held
returns-clause-held c =
    let a = c.self.inside in
    let held = c.index_mut-channel.result.now in
    let there = placed a c.args.self.now c.in-Some.place held c.self.view_is c.in-Some.ensures.1 c.index_mut-channel.ensures.value in
    own_gain a c.args.self.now c.args.packet.buffer (handed_back c.send_buf.result) c.in-Some.place held c.send_buf.new.self c.self.view_is there
    c.send_buf.ensures.held

pub returns-clause-few : goal.returns-clause-few
returns-clause-few c =
    let a = c.self.inside in
    let held = c.index_mut-channel.result.now in
    let there = placed a c.args.self.now c.in-Some.place held c.self.view_is c.in-Some.ensures.1 c.index_mut-channel.ensures.value in
    few_after a.flow a.channels.items c.in-Some.place held c.send_buf.new.self c.self.invariant.fits there c.send_buf.ensures.fits

pub invariant_of-self : goal.invariant_of-self
invariant_of-self c =
    let a = c.self.inside in
    let held = c.index_mut-channel.result.now in
    let there = placed a c.args.self.now c.in-Some.place held c.self.view_is c.in-Some.ensures.1 c.index_mut-channel.ensures.value in
    layer_touched a c.insert.new.self c.in-Some.place held c.send_buf.new.self c.self.inside.relink c.self.invariant c.insert.ensures there c.send_buf.ensures.fits

pub index_mut-channel-requires : goal.index_mut-channel-requires
index_mut-channel-requires c = grind (arith, common_steps)

pub insert-requires : goal.insert-requires
insert-requires c = grind (arith, common_steps)

pub returns-clause-most : goal.returns-clause-most
returns-clause-most c = grind (arith, common_steps)

pub returns-in_default-clause-few : goal.returns-in_default-clause-few
returns-in_default-clause-few c = grind (arith, own_few)
