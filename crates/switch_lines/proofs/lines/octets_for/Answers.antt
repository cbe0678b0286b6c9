use Rattle.std.proofs.Common.{◌∙◌, ap, arith}
use Rattle.data_transfer.proofs.Windows.{size_most}
use Rattle.switch_lines.specs.Making.{greatest_info}
use Rattle.switch_lines.proofs.Changing.{there}
use Rattle.switch_lines.proofs.Making.{one_info_more, all_taken}
use Rattle.switch_lines.proofs.lines.octets_for.Goals as goal

pub info-requires : goal.info-requires
info-requires c =
    size_most _ (c.requires.each c.loop-line.line-index c.line-item.result
    (there c.args.lines.now c.loop-line.line-index c.line-item.result c.loop-line-test.true c.line-item.is)).params.layer.flow_is

pub loop-line-preserved : goal.loop-line-preserved
loop-line-preserved c =
    let more = one_info_more c.args.lines.now c.loop-line.line-index c.line-item.result c.loop-line-test.true c.line-item.is in
    let small = size_most _ (c.requires.each c.loop-line.line-index c.line-item.result
    (there c.args.lines.now c.loop-line.line-index c.line-item.result c.loop-line-test.true c.line-item.is)).params.layer.flow_is in
    record {
      greatest = omega (arith, more, c.max-most.ensures, c.info.ensures, c.loop-line.invariant.greatest);
      fits = omega (arith, c.max-most.ensures, c.info.ensures, c.loop-line.invariant.fits, small);
    }

pub returns-clause-value : goal.returns-clause-value
returns-clause-value c =
    c.loop-line.invariant.greatest ∙ ap greatest_info (all_taken c.args.lines.now c.loop-line.line-index (omega (arith, c.loop-line-test.false)))
