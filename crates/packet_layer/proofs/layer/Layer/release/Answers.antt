use Rattle.std.proofs.lemmas.Grind.{common_steps}
use Rattle.std.proofs.Common.{◌∙◌, arith}
use Rattle.packet_channel.proofs.Fitting.{fits_same}
use Rattle.packet_channel.specs.Channel.{Request}
use Rattle.packet_layer.proofs.Asked.{is_at, asked}
use Rattle.packet_layer.proofs.Silence.{layer_touched}
use Rattle.packet_layer.proofs.layer.Layer.release.Goals as goal

pub index_mut-channel-requires : goal.index_mut-channel-requires
index_mut-channel-requires c = grind (arith, common_steps)

pub insert-requires : goal.insert-requires
insert-requires c = grind (arith, common_steps)

pub invariant_of-self : goal.invariant_of-self
invariant_of-self c =
    let at = is_at c.self.inside c.args.self.now c.args.channel c.in-Some.place c.index_mut-channel.result.now c.self.view_is
    (c.in-Some.ensures.0 ∙ c.from.ensures) c.in-Some.ensures.1 c.index_mut-channel.ensures.value in
    layer_touched c.self.inside c.insert.new.self c.in-Some.place c.index_mut-channel.result.now c.release-answer.new.self
    c.self.inside.relink c.self.invariant c.insert.ensures at.there
    (fits_same c.self.inside.flow c.index_mut-channel.result.now c.release-answer.new.self c.release-answer.ensures.held
    c.release-answer.ensures.arrived c.release-answer.ensures.waiting)

pub returns : goal.returns
returns c =
    let at = is_at c.self.inside c.args.self.now c.args.channel c.in-Some.place c.index_mut-channel.result.now c.self.view_is
    (c.in-Some.ensures.0 ∙ c.from.ensures) c.in-Some.ensures.1 c.index_mut-channel.ensures.value in
    let asked = asked c.self.inside c.args.self.now c.args.channel c.in-Some.place c.index_mut-channel.result.now c.release-answer.new.self
    (Request.Releasing c.args.count) c.release-answer.result c.answered.new.self c.answered.result at
    (c.release-answer.ensures.answer c.self.inside.role c.self.inside.flow) c.release-answer.ensures.held c.release-answer.ensures.kept c.answered.ensures in
    record { layer = asked.layer; held = asked.held; most = asked.most }
