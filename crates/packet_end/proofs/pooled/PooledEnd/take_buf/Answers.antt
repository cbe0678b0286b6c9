use Rattle.std.proofs.Common.{refl, sym, ap, ◌∙◌, inl}
use Rattle.packet_channel.specs.Channel.Request.{Taking}
use Rattle.data_transfer.specs.TakenView.{maybe_buffers_in}
use Rattle.packet_layer.proofs.Flows.{flow_request}
use Rattle.packet_end.specs.Params.{info_of}
use Rattle.packet_end.proofs.Pools.{layer_loses}
use Rattle.packet_end.proofs.Waits.{others_agree, request_alike}
use Rattle.packet_end.proofs.pooled.PooledEnd.take_buf.Goals as goal

pub invariant_of-self : goal.invariant_of-self
invariant_of-self c =
    let e = c.self.inside in
    record {
      line = c.self.invariant.line;
      layer = c.take_buf.ensures.few;
      info = rw c.take_buf.ensures.layer (c.self.invariant.info ∙ ap info_of (sym (flow_request e.layer.layer c.args.channel Taking)));
      agree = rw c.take_buf.ensures.layer
          (others_agree e.layer.layer _ e.timers e.touched c.touch.new.self c.self.invariant.agree
          (λ n out. (sym (c.touch.ensures.others n) ∙ out, request_alike e.layer.layer c.args.channel n Taking refl)));
      finished = inl c.touch.ensures.touched;
    }

pub returns-clause-held : goal.returns-clause-held
returns-clause-held c =
    layer_loses c.self.inside c.args.self.now (maybe_buffers_in c.take_buf.result) c.take_buf.new.self c.self.view_is
    c.take_buf.ensures.held
