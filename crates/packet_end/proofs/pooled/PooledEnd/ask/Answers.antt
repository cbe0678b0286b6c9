use Rattle.std.proofs.Common.{inl, ap, sym, ◌∙◌}
use Rattle.packet_layer.specs.RequestView.{request_of}
use Rattle.packet_layer.proofs.Flows.{flow_request}
use Rattle.packet_layer.proofs.Asked.{if_sending}
use Rattle.packet_end.specs.Params.{info_of}
use Rattle.packet_end.proofs.Pools.{served, layer_holds, layer_size, layer_room, layer_balanced}
use Rattle.packet_end.proofs.Waits.{others_agree, request_apart_or_alike}
use Rattle.packet_end.proofs.pooled.PooledEnd.ask.Goals as goal

pub ask-requires-clause-holds : goal.ask-requires-clause-holds
ask-requires-clause-holds c =
    layer_holds c.args.pool.now c.self.inside.line.value c.self.inside.layer
    (served c.self.inside c.args.self.now c.args.pool.now c.self.view_is c.requires)

pub ask-requires-clause-size : goal.ask-requires-clause-size
ask-requires-clause-size c =
    if_sending (request_of c.args.request.now)
    (layer_size c.args.pool.now c.self.inside.line.value c.self.inside.layer
    (served c.self.inside c.args.self.now c.args.pool.now c.self.view_is c.requires) c.self.invariant.info)

pub ask-requires-clause-room : goal.ask-requires-clause-room
ask-requires-clause-room c =
    if_sending (request_of c.args.request.now)
    (layer_room c.args.pool.now c.self.inside.line.value c.self.inside.layer
    (served c.self.inside c.args.self.now c.args.pool.now c.self.view_is c.requires) c.self.invariant.line)

pub invariant_of-self : goal.invariant_of-self
invariant_of-self c =
    let e = c.self.inside in
    record {
      line = c.self.invariant.line;
      layer = c.ask.ensures.few;
      info = rw c.ask.ensures.layer
          (c.self.invariant.info ∙ ap info_of (sym (flow_request e.layer.layer c.args.channel (request_of c.args.request.now))));
      agree = rw c.ask.ensures.layer
          (others_agree e.layer.layer _ e.timers e.touched c.insert_asked.new.self c.self.invariant.agree
          (λ n out.
          let apart = c.insert_asked.ensures.others n out in
          (apart.0, request_apart_or_alike e.layer.layer c.args.channel n (request_of c.args.request.now) apart.1)));
      finished = inl c.insert_asked.ensures.touched;
    }

pub returns-clause-pool : goal.returns-clause-pool
returns-clause-pool c =
    layer_balanced c.self.inside c.args.self.now c.args.pool.now c.ask.new.pool c.ask.new.self c.self.view_is
    c.ask.ensures.pool
