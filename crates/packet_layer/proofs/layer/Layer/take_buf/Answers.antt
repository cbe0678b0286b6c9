use Rattle.std.proofs.lemmas.Grind.{common_steps}
use Rattle.std.proofs.Common.{◌≡◌, ◌∙◌, ap, sym, subst, Some, ◌<◌, length, arith}
use Rattle.std.specs.Prelude.{slice_get}
use Rattle.packet_layer.specs.Held.{Layer as Held}
use Rattle.packet_layer.specs.LayerView.{layer_of}
use Rattle.data_transfer.proofs.Short.{front_short}
use Rattle.packet_layer.proofs.Placed.{placed, own_loss, few_after, borrowed, plain_at, plain_set, fits_at, own_few}
use Rattle.packet_layer.proofs.Places.{taking_done, front_there}
use Rattle.packet_layer.proofs.Silence.{layer_touched}
use Rattle.packet_layer.proofs.layer.Layer.take_buf.Goals as goal

pub returns-clause-layer : goal.returns-clause-layer
returns-clause-layer c =
    let a = c.self.inside in
    let l = layer_of a in
    let held = c.index_mut-channel.result.now in
    let ch = held.channel in
    let within : c.in_ok-place.place < length l.channels = subst (λ (x : Held). c.in_ok-place.place < length x.layer.channels) (sym c.self.view_is) c.in_ok-place.ensures.1 in
    let there = borrowed a.channels.items c.in_ok-place.place held within c.index_mut-channel.ensures.value in
    let found : slice_get l.channels c.in_ok-place.place ≡ Some ch = plain_at a.channels.items c.in_ok-place.place held there in
    rw (← c.self.view_is) (ap (λ chs. record l { channels = chs }) (plain_set a.channels.items c.in_ok-place.place c.take_buf.new.self) ∙ taking_done l c.args.channel c.in_ok-place.place ch c.take_buf.new.self.channel (c.in_ok-place.ensures.0 ∙ c.from.ensures) found (c.take_buf.ensures.channel c.self.inside.role c.self.inside.flow))

pub returns-clause-held : goal.returns-clause-held
returns-clause-held c =
    let a = c.self.inside in
    let held = c.index_mut-channel.result.now in
    let there = placed a c.args.self.now c.in_ok-place.place held c.self.view_is c.in_ok-place.ensures.1 c.index_mut-channel.ensures.value in
    own_loss a c.args.self.now _ c.in_ok-place.place held c.take_buf.new.self c.self.view_is there c.take_buf.ensures.held

pub returns-clause-taken : goal.returns-clause-taken
returns-clause-taken c =
    let l = layer_of c.self.inside in
    let held = c.index_mut-channel.result.now in
    let there = placed c.self.inside c.args.self.now c.in_ok-place.place held c.self.view_is c.in_ok-place.ensures.1 c.index_mut-channel.ensures.value in
    let found = plain_at c.self.inside.channels.items c.in_ok-place.place held there in
    rw (← c.self.view_is) (c.take_buf.ensures.taken ∙ sym (front_there l c.args.channel c.in_ok-place.place held.channel (c.in_ok-place.ensures.0 ∙ c.from.ensures) found))

pub invariant_of-self : goal.invariant_of-self
invariant_of-self c =
    let a = c.self.inside in
    let held = c.index_mut-channel.result.now in
    let there = placed a c.args.self.now c.in_ok-place.place held c.self.view_is c.in_ok-place.ensures.1 c.index_mut-channel.ensures.value in
    layer_touched a c.insert.new.self c.in_ok-place.place held c.take_buf.new.self c.self.inside.relink c.self.invariant c.insert.ensures there (c.take_buf.ensures.fits a.flow)

pub returns-clause-few : goal.returns-clause-few
returns-clause-few c =
    let a = c.self.inside in
    let held = c.index_mut-channel.result.now in
    let there = placed a c.args.self.now c.in_ok-place.place held c.self.view_is c.in_ok-place.ensures.1 c.index_mut-channel.ensures.value in
    few_after a.flow a.channels.items c.in_ok-place.place held c.take_buf.new.self c.self.invariant.fits there (c.take_buf.ensures.fits a.flow)

pub returns-clause-short : goal.returns-clause-short
returns-clause-short c =
    let a = c.self.inside in
    let l = layer_of a in
    let held = c.index_mut-channel.result.now in
    let there = placed a c.args.self.now c.in_ok-place.place held c.self.view_is c.in_ok-place.ensures.1 c.index_mut-channel.ensures.value in
    let found = plain_at a.channels.items c.in_ok-place.place held there in
    let front = front_there l c.args.channel c.in_ok-place.place held.channel (c.in_ok-place.ensures.0 ∙ c.from.ensures) found in
    rw (← c.self.view_is) (λ d first. front_short a.flow.size held.channel.traffic.interrupt_arrived held.channel.traffic.arrived d
    (sym front ∙ first) (fits_at a.flow a.channels.items c.in_ok-place.place held c.self.invariant.fits there).arrived_short)

pub index_mut-channel-requires : goal.index_mut-channel-requires
index_mut-channel-requires c = grind (arith, common_steps)

pub insert-requires : goal.insert-requires
insert-requires c = grind (arith, common_steps)

pub returns-clause-most : goal.returns-clause-most
returns-clause-most c = grind (arith, common_steps)

pub returns-in_err-place-clause-few : goal.returns-in_err-place-clause-few
returns-in_err-place-clause-few c = grind (arith, own_few)
