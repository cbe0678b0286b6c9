use Rattle.std.proofs.Common.{sym, ap, ◌∙◌, inl, length, arith}
use Rattle.packet_codec.specs.View.{call_view}
use Rattle.data_transfer.specs.Octets.{parts_of}
use Rattle.packet_layer.specs.Held.{Layer}
use Rattle.packet_layer.proofs.Flows.{flow_call}
use Rattle.packet_end.specs.Params.{info_of}
use Rattle.packet_end.proofs.Waits.{others_agree, call_placed, call_refused}
use Rattle.packet_end.proofs.pooled.PooledEnd.call.Goals as goal

pub invariant_of-self : goal.invariant_of-self
invariant_of-self c =
    let e = c.self.inside in
    record {
      line = c.self.invariant.line;
      layer =
          let held = ap (λ (l : Layer). length l.held) c.call.ensures.layer in
          omega (arith, held, c.call.ensures.most, c.self.invariant.layer);
      info = rw (ap (λ (l : Layer). l.layer) c.call.ensures.layer)
          (c.self.invariant.info ∙ ap info_of (sym (flow_call e.layer.layer (parts_of (call_view c.args.call.now)))));
      agree = rw (ap (λ (l : Layer). l.layer) c.call.ensures.layer)
          (others_agree e.layer.layer _ e.timers e.touched c.touch.new.self c.self.invariant.agree
          (λ n out. (
            sym (c.touch.ensures.others n) ∙ out,
            call_refused e.layer.layer n (parts_of (call_view c.args.call.now)) _ c.in_err-channel.ensures.answer,
          )));
      finished = inl c.touch.ensures.touched;
    }

pub invariant_of-self-2 : goal.invariant_of-self-2
invariant_of-self-2 c =
    let e = c.self.inside in
    record {
      line = c.self.invariant.line;
      layer =
          let held = ap (λ (l : Layer). length l.held) c.call.ensures.layer in
          omega (arith, held, c.call.ensures.most, c.self.invariant.layer);
      info = rw (ap (λ (l : Layer). l.layer) c.call.ensures.layer)
          (c.self.invariant.info ∙ ap info_of (sym (flow_call e.layer.layer (parts_of (call_view c.args.call.now)))));
      agree = rw (ap (λ (l : Layer). l.layer) c.call.ensures.layer)
          (others_agree e.layer.layer _ e.timers e.touched c.insert.new.self c.self.invariant.agree
          (λ n out.
          let apart = c.insert.ensures.others n out in (
            sym (c.touch.ensures.others n) ∙ apart.0,
            call_placed e.layer.layer n _ (parts_of (call_view c.args.call.now)) c.in_ok-channel.ensures.answer apart.1,
          )));
      finished = inl c.insert.ensures.touched;
    }
