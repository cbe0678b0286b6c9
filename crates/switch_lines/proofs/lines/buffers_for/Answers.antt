-- One line more.
use Rattle.std.proofs.Common.{◌∙◌, ap, arith}
use Rattle.switch_lines.specs.Making.{shares_with}
use Rattle.switch_lines.proofs.Changing.{there}
use Rattle.switch_lines.proofs.Making.{one_share_more, all_taken}
use Rattle.switch_lines.proofs.lines.buffers_for.Goals as goal

pub overflow_add-total : goal.overflow_add-total
overflow_add-total c =
    omega (arith, c.buffers-total.ensures.most, c.loop-line.invariant.most, c.loop-line-test.true, c.requires.most)

pub loop-line-preserved : goal.loop-line-preserved
loop-line-preserved c =
    let more = one_share_more c.args.lines.now c.loop-line.line-index c.line-item.result c.loop-line-test.true c.line-item.is in
    record {
      sum = omega (arith, c.buffers-total.ensures.share, c.loop-line.invariant.sum, more);
      most = omega (arith, c.buffers-total.ensures.most, c.loop-line.invariant.most);
    }

pub returns : goal.returns
returns c =
    c.loop-line.invariant.sum ∙ ap shares_with (all_taken c.args.lines.now c.loop-line.line-index (omega (arith, c.loop-line-test.false)))

pub buffers-total-requires : goal.buffers-total-requires
buffers-total-requires c = c.requires.each c.loop-line.line-index c.line-item.result (there c.args.lines.now c.loop-line.line-index c.line-item.result c.loop-line-test.true c.line-item.is)
