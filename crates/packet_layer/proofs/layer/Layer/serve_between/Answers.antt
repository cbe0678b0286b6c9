use Rattle.std.proofs.Common.{◌≡◌, ◌∙◌, ◌+◌, ◌-◌, refl, ap, sym, subst, true, false}
use Rattle.std.specs.Prelude.{is_some}
use Rattle.packet_layer.specs.Layer.{Layer, Next, serve}
use Rattle.packet_layer.specs.Events.{written_packet}
use Rattle.packet_layer.specs.LayerView.{layer_of}
use Rattle.packet_layer.proofs.Serving.{silent_same}
use Rattle.packet_layer.proofs.Round.{ArePassed, none_passed, one_passed}
use Rattle.packet_layer.proofs.Served.{IsServed, found, none_found}
use Rattle.flow_window.proofs.Weights.{balances_same, balances_then, holds_after}
use Rattle.packet_layer.specs.Held.{Layer as Held}
use Rattle.packet_layer.proofs.layer.Layer.serve_between.Goals as goal

served : (c : goal.Then-serve_channel) →
    IsServed c.args.self.now.layer.flow (serve (c.args.end - c.args.first) c.args.self.now.layer (c.args.first + 1)) c.serve_channel.new.self.layer
    true c.args.buf.now.items c.serve_channel.new.buf.items
served c =
    found c.args.self.now.layer c.loop-place.self.layer c.serve_channel.new.self.layer c.args.first c.args.end
    c.in-Some.place c.loop-place.places c.take_first.new.self c.args.buf.now.items c.loop-place.buf.items
    c.serve_channel.new.buf.items c.loop-place.invariant.same c.loop-place.invariant.octets c.requires.within
    c.loop-place.invariant.passed c.in-Some.ensures.first
    (record {
      layer = c.if-serve_channel.ensures.layer;
      said = c.if-serve_channel.ensures.said;
      octets = c.if-serve_channel.ensures.octets;
      reads_back = c.if-serve_channel.ensures.reads_back;
    })

none : (c : goal.In_default) →
    IsServed c.args.self.now.layer.flow (serve (c.args.end - c.args.first) c.args.self.now.layer (c.args.first + 1)) c.loop-place.self.layer
    false c.args.buf.now.items c.loop-place.buf.items
none c =
    none_found c.args.self.now.layer c.loop-place.self.layer c.args.first c.args.end c.loop-place.places
    c.args.buf.now.items c.loop-place.buf.items c.loop-place.invariant.same c.loop-place.invariant.octets
    c.requires.order c.requires.within c.loop-place.invariant.passed c.in_default.ensures.first

pub returns-then-serve_channel-clause-layer : goal.returns-then-serve_channel-clause-layer
returns-then-serve_channel-clause-layer c = (served c).layer

pub returns-then-serve_channel-clause-said : goal.returns-then-serve_channel-clause-said
returns-then-serve_channel-clause-said c = (served c).said

pub returns-then-serve_channel-clause-octets : goal.returns-then-serve_channel-clause-octets
returns-then-serve_channel-clause-octets c = (served c).octets

pub returns-then-serve_channel-clause-reads_back : goal.returns-then-serve_channel-clause-reads_back
returns-then-serve_channel-clause-reads_back c = (served c).reads_back

pub returns-clause-layer : goal.returns-clause-layer
returns-clause-layer c = (none c).layer

pub returns-clause-said : goal.returns-clause-said
returns-clause-said c = (none c).said

pub returns-clause-octets : goal.returns-clause-octets
returns-clause-octets c = (none c).octets

pub returns-clause-reads_back : goal.returns-clause-reads_back
returns-clause-reads_back c = (none c).reads_back

pub loop-place-init : goal.loop-place-init
loop-place-init c = record {
  same = refl;
  pool = balances_same c.args.pool.now c.args.self.now.held;
  few = c.requires.few;
  octets = refl;
  passed = subst (λ (x : Held). ArePassed x.layer c.args.first c.args.end c.between-places.result) c.self.view_is
      (none_passed (layer_of c.self.inside) c.args.first c.args.end c.self.inside.to_serve c.between-places.result
      c.self.invariant.others c.between-places.ensures);
}

pub loop-place-preserved : goal.loop-place-preserved
loop-place-preserved c =
    let old = c.args.self.now.layer in
    let place = c.in-Some.place in
    let same = c.loop-place.invariant.same in
    let silent : is_some (serve 1 old (place + 1)).packet ≡ false =
    sym (c.if-serve_channel.ensures.said ∙ ap (λ (x : Layer). is_some (serve 1 x (place + 1)).packet) same) in
    let nothing = silent_same old (place + 1) silent in
    record {
      same = c.serve_channel.ensures.layer ∙ ap (λ (x : Layer). (serve 1 x (place + 1)).layer) same
          ∙ ap (λ (n : Next). n.layer) nothing;
      pool = balances_then c.args.pool.now c.loop-place.pool c.serve_channel.new.pool c.args.self.now.held
          c.loop-place.self.held c.serve_channel.new.self.held c.loop-place.invariant.pool c.serve_channel.ensures.pool;
      few = c.serve_channel.ensures.few;
      octets = c.serve_channel.ensures.octets
          ∙ ap (λ (x : Layer). written_packet x.flow (serve 1 x (place + 1)).packet c.loop-place.buf.items) same
          ∙ ap (λ (n : Next). written_packet old.flow n.packet c.loop-place.buf.items) nothing ∙ c.loop-place.invariant.octets;
      passed = one_passed old c.args.first c.args.end place c.loop-place.places c.take_first.new.self
          c.loop-place.invariant.passed c.in-Some.ensures.first silent;
    }

pub serve_channel-requires-clause-holds : goal.serve_channel-requires-clause-holds
serve_channel-requires-clause-holds c =
    holds_after c.args.pool.now c.loop-place.pool c.args.self.now.held c.loop-place.self.held c.requires.holds
    c.loop-place.invariant.pool

pub returns-then-serve_channel-clause-pool : goal.returns-then-serve_channel-clause-pool
returns-then-serve_channel-clause-pool c =
    balances_then c.args.pool.now c.loop-place.pool c.serve_channel.new.pool c.args.self.now.held c.loop-place.self.held
    c.serve_channel.new.self.held c.loop-place.invariant.pool c.serve_channel.ensures.pool
