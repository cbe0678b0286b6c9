use Rattle.std.proofs.lemmas.Grind.{common_steps}
use Rattle.std.proofs.Common.{◌∙◌, ◌≤◌, ap, sym, subst, length, arith}
use Rattle.flow_window.specs.Pool.{Balances}
use Rattle.packet_layer.specs.Held.{Layer as Held, most_held}
use Rattle.packet_layer.specs.RequestView.{request_of}
use Rattle.packet_layer.proofs.Asked.{IsAt, is_at, done, allowed, refused, told, same_layer, on_err, when_sending}
use Rattle.packet_layer.proofs.Placed.{own_held, own_room, own_balance, few_after, own_few}
use Rattle.packet_layer.proofs.Silence.{layer_touched}
use Rattle.packet_layer.proofs.layer.Layer.ask.Goals as goal

-- the channel that is asked
at_ok : (c : goal.After-relink_if) → IsAt c.self.inside c.args.self.now c.args.channel c.in-Some.place c.index_mut-channel.result.now
at_ok c =
    is_at c.self.inside c.args.self.now c.args.channel c.in-Some.place c.index_mut-channel.result.now c.self.view_is
    (c.in-Some.ensures.0 ∙ c.from.ensures) c.in-Some.ensures.1 c.index_mut-channel.ensures.value

at_err : (c : goal.After-from_residual) → IsAt c.self.inside c.args.self.now c.args.channel c.in-Some.place c.index_mut-channel.result.now
at_err c =
    is_at c.self.inside c.args.self.now c.args.channel c.in-Some.place c.index_mut-channel.result.now c.self.view_is
    (c.in-Some.ensures.0 ∙ c.from.ensures) c.in-Some.ensures.1 c.index_mut-channel.ensures.value

pub invariant_of-self : goal.invariant_of-self
invariant_of-self c =
    layer_touched c.self.inside c.insert.new.self c.in-Some.place c.index_mut-channel.result.now c.request.new.self
    c.self.inside.relink c.self.invariant c.insert.ensures (at_err c).there c.request.ensures.fits

pub invariant_of-self-2 : goal.invariant_of-self-2
invariant_of-self-2 c =
    let at = is_at c.self.inside c.args.self.now c.args.channel c.in-Some.place c.index_mut-channel.result.now
    c.self.view_is (c.in-Some.ensures.0 ∙ c.from.ensures) c.in-Some.ensures.1 c.index_mut-channel.ensures.value in
    layer_touched c.self.inside c.insert.new.self c.in-Some.place c.index_mut-channel.result.now c.request.new.self
    c.self.inside.relink c.self.invariant c.insert.ensures at.there c.request.ensures.fits

pub returns-clause-answer : goal.returns-clause-answer
returns-clause-answer c =
    allowed c.self.inside c.args.self.now c.args.channel c.in-Some.place c.index_mut-channel.result.now
    c.request.new.self (request_of c.args.request.now) c.in_ok-relink.relink (at_ok c)
    c.in_ok-relink.ensures.answer

pub returns-clause-layer : goal.returns-clause-layer
returns-clause-layer c =
    ap (λ (x : Held). x.layer) c.relink_if.ensures
    ∙ done c.self.inside c.args.self.now c.args.channel c.in-Some.place c.index_mut-channel.result.now
    c.request.new.self (request_of c.args.request.now) c.in_ok-relink.relink (at_ok c)
    c.in_ok-relink.ensures.answer

pub returns-in_err-relink-clause-answer : goal.returns-in_err-relink-clause-answer
returns-in_err-relink-clause-answer c =
    told c.self.inside c.args.self.now c.args.channel c.in-Some.place c.index_mut-channel.result.now
    c.request.new.self (request_of c.args.request.now) c.in_err-relink.field-0.0 c.from_residual.result
    c.from_residual.ensures.1 (at_err c) c.in_err-relink.ensures.answer

pub returns-in_err-relink-clause-layer : goal.returns-in_err-relink-clause-layer
returns-in_err-relink-clause-layer c =
    refused c.self.inside c.args.self.now c.args.channel c.in-Some.place c.index_mut-channel.result.now
    c.request.new.self (request_of c.args.request.now) c.in_err-relink.field-0.0 (at_err c) c.in_err-relink.ensures.answer

pub returns-in_err-relink-clause-kept : goal.returns-in_err-relink-clause-kept
returns-in_err-relink-clause-kept c =
    on_err c.from_residual.result (
      same_layer c.self.inside c.args.self.now c.args.channel c.in-Some.place c.index_mut-channel.result.now
          c.request.new.self (at_err c) c.in_err-relink.ensures.kept.0,
      c.in_err-relink.ensures.kept.1,
    )

pub request-requires-clause-holds : goal.request-requires-clause-holds
request-requires-clause-holds c =
    let at = is_at c.self.inside c.args.self.now c.args.channel c.in-Some.place c.index_mut-channel.result.now
    c.self.view_is (c.in-Some.ensures.0 ∙ c.from.ensures) c.in-Some.ensures.1 c.index_mut-channel.ensures.value in
    own_held c.self.inside c.args.self.now c.args.pool.now c.in-Some.place c.index_mut-channel.result.now c.self.view_is
    c.requires.holds at.there

pub request-requires-clause-room : goal.request-requires-clause-room
request-requires-clause-room c =
    when_sending (request_of c.args.request.now)
    (own_room c.self.inside c.args.self.now c.args.pool.now c.self.invariant c.self.view_is) c.requires.room

pub returns-in_err-relink-clause-pool : goal.returns-in_err-relink-clause-pool
returns-in_err-relink-clause-pool c =
    own_balance c.self.inside c.args.self.now c.args.pool.now c.request.new.pool c.in-Some.place
    c.index_mut-channel.result.now c.request.new.self c.self.view_is (at_err c).there c.request.ensures.pool

pub returns-clause-pool : goal.returns-clause-pool
returns-clause-pool c =
    subst (λ (x : Held). Balances c.args.pool.now c.args.self.now.held c.request.new.pool x.held)
    (sym c.relink_if.ensures)
    (own_balance c.self.inside c.args.self.now c.args.pool.now c.request.new.pool c.in-Some.place
    c.index_mut-channel.result.now c.request.new.self c.self.view_is (at_ok c).there c.request.ensures.pool)

pub returns-in_err-relink-clause-few : goal.returns-in_err-relink-clause-few
returns-in_err-relink-clause-few c =
    few_after c.self.inside.flow c.self.inside.channels.items c.in-Some.place c.index_mut-channel.result.now c.request.new.self
    c.self.invariant.fits (at_err c).there c.request.ensures.fits

pub returns-clause-few : goal.returns-clause-few
returns-clause-few c =
    subst (λ (x : Held). length x.held ≤ most_held x.layer) (sym c.relink_if.ensures)
    (few_after c.self.inside.flow c.self.inside.channels.items c.in-Some.place c.index_mut-channel.result.now c.request.new.self
    c.self.invariant.fits (at_ok c).there c.request.ensures.fits)

pub index_mut-channel-requires : goal.index_mut-channel-requires
index_mut-channel-requires c = grind (arith, common_steps)

pub insert-requires : goal.insert-requires
insert-requires c = grind (arith, common_steps)

pub returns-clause-most : goal.returns-clause-most
returns-clause-most c = grind (arith, common_steps)

pub returns-in_default-clause-few : goal.returns-in_default-clause-few
returns-in_default-clause-few c = grind (arith, own_few)

pub returns-in_err-relink-clause-most : goal.returns-in_err-relink-clause-most
returns-in_err-relink-clause-most c = grind (arith, common_steps)
