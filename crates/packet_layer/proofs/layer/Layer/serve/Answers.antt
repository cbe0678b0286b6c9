use Rattle.std.proofs.Common.{◌∙◌, ◌+◌, ◌-◌, ◌≤◌, length, true, ap, sym, subst}
use Rattle.packet_layer.specs.Held.{Layer as Held}
use Rattle.packet_layer.specs.Layer.{Layer, next_number, serve}
use Rattle.flow_window.proofs.Weights.{balances_then, holds_after}
use Rattle.packet_layer.proofs.Placed.{plain_length}
use Rattle.packet_layer.proofs.Served.{IsServed, first_part, second_part, same_layer}
use Rattle.packet_layer.proofs.layer.Layer.serve.Goals as goal

served_then : (c : goal.Then-serve_between) →
    let l = c.args.self.now.layer in
    IsServed l.flow (serve (length l.channels) l (next_number l l.served_last)) c.serve_between.new.self.layer true
    c.args.buf.now.items c.serve_between.new.buf.items
served_then c =
    first_part c.args.self.now.layer c.serve_between.new.self.layer c.len-count.result c.next_place-next.result
    c.args.buf.now.items c.serve_between.new.buf.items
    (c.len-count.ensures ∙ c.self.inside.channels.ok.0
    ∙ sym (plain_length c.self.inside.channels.items) ∙ ap (λ (x : Held). length x.layer.channels) c.self.view_is)
    c.next_place-next.ensures.place c.next_place-next.ensures.most
    (record {
      layer = c.if-serve_between.ensures.layer;
      said = c.if-serve_between.ensures.said;
      octets = c.if-serve_between.ensures.octets;
      reads_back = c.if-serve_between.ensures.reads_back;
    })

served_else : (c : goal.After-serve_between-else-serve_between) →
    let l = c.args.self.now.layer in
    IsServed l.flow (serve (length l.channels) l (next_number l l.served_last)) c.serve_between-else-serve_between.new.self.layer
    c.serve_between-else-serve_between.result c.args.buf.now.items c.serve_between-else-serve_between.new.buf.items
served_else c =
    second_part c.args.self.now.layer c.serve_between.new.self.layer c.serve_between-else-serve_between.new.self.layer
    c.len-count.result c.next_place-next.result c.serve_between-else-serve_between.result c.args.buf.now.items
    c.serve_between.new.buf.items c.serve_between-else-serve_between.new.buf.items
    (c.len-count.ensures ∙ c.self.inside.channels.ok.0
    ∙ sym (plain_length c.self.inside.channels.items) ∙ ap (λ (x : Held). length x.layer.channels) c.self.view_is)
    c.next_place-next.ensures.place c.next_place-next.ensures.most
    (record {
      layer = c.if-serve_between.ensures.layer;
      said = c.if-serve_between.ensures.said;
      octets = c.if-serve_between.ensures.octets;
      reads_back = c.if-serve_between.ensures.reads_back;
    })
    (record {
      layer = c.serve_between-else-serve_between.ensures.layer;
      said = c.serve_between-else-serve_between.ensures.said;
      octets = c.serve_between-else-serve_between.ensures.octets;
      reads_back = c.serve_between-else-serve_between.ensures.reads_back;
    })

pub returns-then-serve_between-clause-layer : goal.returns-then-serve_between-clause-layer
returns-then-serve_between-clause-layer c = (served_then c).layer

pub returns-then-serve_between-clause-said : goal.returns-then-serve_between-clause-said
returns-then-serve_between-clause-said c = c.if-serve_between.true ∙ (served_then c).said

pub returns-then-serve_between-clause-octets : goal.returns-then-serve_between-clause-octets
returns-then-serve_between-clause-octets c = (served_then c).octets

pub returns-then-serve_between-clause-reads_back : goal.returns-then-serve_between-clause-reads_back
returns-then-serve_between-clause-reads_back c = (served_then c).reads_back

pub returns-else-serve_between-clause-layer : goal.returns-else-serve_between-clause-layer
returns-else-serve_between-clause-layer c = (served_else c).layer

pub returns-else-serve_between-clause-said : goal.returns-else-serve_between-clause-said
returns-else-serve_between-clause-said c = (served_else c).said

pub returns-else-serve_between-clause-octets : goal.returns-else-serve_between-clause-octets
returns-else-serve_between-clause-octets c = (served_else c).octets

pub returns-else-serve_between-clause-reads_back : goal.returns-else-serve_between-clause-reads_back
returns-else-serve_between-clause-reads_back c = (served_else c).reads_back

pub serve_between-requires-else-serve_between-clause-within : goal.serve_between-requires-else-serve_between-clause-within
serve_between-requires-else-serve_between-clause-within c =
    let next = c.next_place-next.result in
    subst (λ (x : Layer). next ≤ length x.channels)
    (sym (same_layer (c.len-count.result - next) c.args.self.now.layer c.serve_between.new.self.layer (next + 1)
    c.if-serve_between.ensures.layer c.if-serve_between.ensures.said))
    c.next_place-next.ensures.most

pub serve_between-requires-else-serve_between-clause-holds : goal.serve_between-requires-else-serve_between-clause-holds
serve_between-requires-else-serve_between-clause-holds c =
    holds_after c.args.pool.now c.serve_between.new.pool c.args.self.now.held c.serve_between.new.self.held c.requires.holds
    c.serve_between.ensures.pool

pub returns-else-serve_between-clause-pool : goal.returns-else-serve_between-clause-pool
returns-else-serve_between-clause-pool c =
    balances_then c.args.pool.now c.serve_between.new.pool c.serve_between-else-serve_between.new.pool c.args.self.now.held
    c.serve_between.new.self.held c.serve_between-else-serve_between.new.self.held c.serve_between.ensures.pool
    c.serve_between-else-serve_between.ensures.pool
