use Rattle.std.proofs.Common.{◌≡◌, ◌+◌, suc, map, drop, refl, sym, ap, ◌∙◌, arith}
use Rattle.std.proofs.lemmas.Option.{slice_get_read}
use Rattle.lapb.proofs.Frames.{drop-slice_get}
use Rattle.call_records.specs.Register.{with_lines, with_free_line}
use Rattle.call_records.specs.RegisterView.{register_of}
use Rattle.net_config.specs.NetPlan.{NewLine}
use Rattle.net_events.specs.Opening.{line_plan}
use Rattle.net_node.proofs.NewNodes.{free_line, none_left}
use Rattle.net_node.proofs.making.free_register.Goals as goal

pub loop-line-init : goal.loop-line-init
loop-line-init c = record {
  value = ap (with_lines (map line_plan c.args.lines.now)) c.in_ok-register.ensures.value;
  closed = c.in_ok-register.ensures.closed;
}

pub add_line-requires : goal.add_line-requires
add_line-requires c = c.loop-line.invariant.closed

pub loop-line-preserved : goal.loop-line-preserved
loop-line-preserved c =
    let at = c.loop-line.line-index in
    let item = c.line-item.result in
    let there = slice_get_read c.args.lines.now _ at item refl c.loop-line-test.true c.line-item.is in
    let added = c.in_ok-add_line.ensures.ok ∙ ap (λ (x : NewLine). with_free_line (line_plan x) (register_of c.loop-line.register)) c.line.view_is in
    let next : at + 1 ≡ suc at = omega arith in
    record {
      value = ap (λ k. with_lines (map line_plan (drop k c.args.lines.now)) (register_of c.add_line.new.self)) next
          ∙ ap (with_lines (map line_plan (drop (suc at) c.args.lines.now))) (added ∙ sym (free_line item (register_of c.loop-line.register) (c.requires at item there)))
          ∙ ap (λ xs. with_lines (map line_plan xs) (register_of c.loop-line.register)) (sym (drop-slice_get at c.args.lines.now item there))
          ∙ c.loop-line.invariant.value;
      closed = c.add_line.ensures.closed;
    }

pub returns-clause-ok : goal.returns-clause-ok
returns-clause-ok c =
    none_left c.args.lines.now c.loop-line.line-index (register_of c.loop-line.register) (omega (arith, c.loop-line-test.false)) ∙ c.loop-line.invariant.value
