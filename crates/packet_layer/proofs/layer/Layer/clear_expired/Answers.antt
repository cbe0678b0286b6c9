use Rattle.std.proofs.lemmas.Grind.{common_steps}
use Rattle.std.proofs.Common.{ap, sym, ◌∙◌, arith}
use Rattle.packet_layer.specs.Held.{Layer as Held}
use Rattle.packet_layer.specs.Layer.{set_if}
use Rattle.packet_layer.specs.LayerView.{layer_of}
use Rattle.packet_layer.proofs.Places.{expiry_taken}
use Rattle.packet_layer.proofs.Placed.{placed, plain_at, plain_set, own_held, own_balance, few_after, few, own_few}
use Rattle.packet_layer.proofs.Silence.{layer_stepped}
use Rattle.packet_layer.proofs.layer.Layer.clear_expired.Goals as goal

pub clear_error-relink-requires-clause-holds : goal.clear_error-relink-requires-clause-holds
clear_error-relink-requires-clause-holds c =
    let a = c.self.inside in
    let held = c.index_mut-channel.result.now in
    let there = placed a c.args.self.now c.in-Some.place held c.self.view_is c.in-Some.ensures.1 c.index_mut-channel.ensures.value in
    own_held a c.args.self.now c.args.pool.now c.in-Some.place held c.self.view_is c.requires.holds there

pub returns-clause-pool : goal.returns-clause-pool
returns-clause-pool c =
    let a = c.self.inside in
    let held = c.index_mut-channel.result.now in
    let there = placed a c.args.self.now c.in-Some.place held c.self.view_is c.in-Some.ensures.1 c.index_mut-channel.ensures.value in
    rw c.relink_if.ensures (own_balance a c.args.self.now c.args.pool.now c.clear_error-relink.new.pool c.in-Some.place held c.clear_error-relink.new.self c.self.view_is there
    c.clear_error-relink.ensures.pool)

pub returns-clause-layer : goal.returns-clause-layer
returns-clause-layer c =
    let a = c.self.inside in
    let held = c.index_mut-channel.result.now in
    let there = placed a c.args.self.now c.in-Some.place held c.self.view_is c.in-Some.ensures.1 c.index_mut-channel.ensures.value in
    let l = layer_of a in
    let found = plain_at a.channels.items c.in-Some.place held there in
    ap (λ (x : Held). x.layer) c.relink_if.ensures
    ∙ (rw (← c.self.view_is) (ap (λ chs. record l { channels = chs; relink = set_if c.clear_error-relink.result l.relink; notes = c.clear_error-relink.new.notes }) (plain_set a.channels.items c.in-Some.place c.clear_error-relink.new.self)
    ∙ expiry_taken l c.args.channel c.in-Some.place held.channel c.clear_error-relink.new.self.channel c.clear_error-relink.result c.clear_error-relink.new.notes c.end-end.result.role c.end-end.result.channel (c.in-Some.ensures.0 ∙ c.from.ensures) found (ap (λ (x : Held). x.layer.notes) c.self.view_is ∙ c.requires.read)
    (c.end-end.ensures.role ∙ ap (λ (x : Held). x.layer.role) (sym c.self.view_is)) c.end-end.ensures.channel c.clear_error-relink.ensures.done))

pub invariant_of-self : goal.invariant_of-self
invariant_of-self c =
    let a = c.self.inside in
    let held = c.index_mut-channel.result.now in
    let there = placed a c.args.self.now c.in-Some.place held c.self.view_is c.in-Some.ensures.1 c.index_mut-channel.ensures.value in
    layer_stepped a c.insert.new.self c.in-Some.place held c.clear_error-relink.new.self _ c.clear_error-relink.result c.clear_error-relink.new.notes c.self.invariant c.insert.ensures there (c.clear_error-relink.ensures.fits a.flow) c.clear_error-relink.ensures.done

pub returns-clause-few : goal.returns-clause-few
returns-clause-few c =
    let a = c.self.inside in
    let held = c.index_mut-channel.result.now in
    let there = placed a c.args.self.now c.in-Some.place held c.self.view_is c.in-Some.ensures.1 c.index_mut-channel.ensures.value in
    rw c.relink_if.ensures (few_after a.flow a.channels.items c.in-Some.place held c.clear_error-relink.new.self c.self.invariant.fits there
    (c.clear_error-relink.ensures.fits a.flow))

pub index_mut-channel-requires : goal.index_mut-channel-requires
index_mut-channel-requires c = grind (arith, common_steps)

pub insert-requires : goal.insert-requires
insert-requires c = grind (arith, common_steps)

pub returns-clause-most : goal.returns-clause-most
returns-clause-most c = grind (arith, common_steps)

pub returns-in_default-clause-few : goal.returns-in_default-clause-few
returns-in_default-clause-few c = grind (arith, own_few, few)
