use Rattle.std.proofs.Common.{refl, sym, ap, ◌∙◌, inl}
use Rattle.packet_channel.specs.Answers.{handed_back, sending}
use Rattle.packet_layer.proofs.Flows.{flow_request}
use Rattle.packet_end.specs.Params.{info_of}
use Rattle.packet_end.proofs.Pools.{layer_takes}
use Rattle.packet_end.proofs.Waits.{others_agree, request_alike}
use Rattle.packet_end.proofs.pooled.PooledEnd.send_buf.Goals as goal

pub invariant_of-self : goal.invariant_of-self
invariant_of-self c =
    let e = c.self.inside in
    record {
      line = c.self.invariant.line;
      layer = c.send_buf.ensures.few;
      info = rw c.send_buf.ensures.layer
          (c.self.invariant.info ∙ ap info_of (sym (flow_request e.layer.layer c.args.channel (sending c.args.packet))));
      agree = rw c.send_buf.ensures.layer
          (others_agree e.layer.layer _ e.timers e.touched c.touch.new.self c.self.invariant.agree
          (λ n out. (
            sym (c.touch.ensures.others n) ∙ out,
            request_alike e.layer.layer c.args.channel n (sending c.args.packet) refl,
          )));
      finished = inl c.touch.ensures.touched;
    }

pub returns-clause-held : goal.returns-clause-held
returns-clause-held c =
    layer_takes c.self.inside c.args.self.now c.args.packet.buffer (handed_back c.send_buf.result) c.send_buf.new.self
    c.self.view_is c.send_buf.ensures.held
