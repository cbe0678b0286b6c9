use Rattle.std.proofs.Common.{◌∙◌, subst, ◌≤◌}
use Rattle.flow_window.specs.Pool.{weight}
use Rattle.packet_layer.specs.Held.{Layer as Held}
use Rattle.packet_layer.proofs.Places.{channel_at}
use Rattle.packet_layer.proofs.Placed.{placed, plain_at, buffers_there}
use Rattle.packet_layer.specs.LayerView.{layer_of}
use Rattle.packet_layer.proofs.layer.Layer.channel.Goals as goal

pub returns-clause-found : goal.returns-clause-found
returns-clause-found c =
    let a = c.self.inside in
    let there = placed a c.args.self.now c.in_ok-place.place c.index.result.now c.self.view_is c.in_ok-place.ensures.1 c.index.ensures in
    rw (← c.self.view_is) (channel_at (layer_of a).channels c.args.number c.in_ok-place.place c.in_ok-place.ensures.0 ∙ plain_at a.channels.items c.in_ok-place.place c.index.result.now there)

pub returns-clause-held : goal.returns-clause-held
returns-clause-held c w =
    let a = c.self.inside in
    let there = placed a c.args.self.now c.in_ok-place.place c.index.result.now c.self.view_is c.in_ok-place.ensures.1 c.index.ensures in
    subst (λ (x : Held). weight w c.index.result.now.held ≤ weight w x.held) c.self.view_is (buffers_there w a.channels.items c.in_ok-place.place c.index.result.now there)
