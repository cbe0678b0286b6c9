-- One line more.
use Rattle.std.proofs.Common.{◌∙◌, ◌<◌, ap, get_or, length, set, refl, sym, arith}
use Rattle.std.proofs.lemmas.List.Edits.{map_over_more}
use Rattle.switch_lines.specs.Lines.{SwitchLine}
use Rattle.switch_lines.specs.Pooled.{PooledLine, plain}
use Rattle.switch_lines.specs.Switch.{without_joins}
use Rattle.switch_lines.proofs.Ending.{all_changed}
use Rattle.switch_lines.proofs.Pooled.{plain_length, plain_set, plain_get, got_again, pooled_set, serves_got}
use Rattle.switch_lines.proofs.lines.touched.restart_lines.Goals as goal

pub restart-requires : goal.restart-requires
restart-requires c =
    serves_got c.loop-line.pool c.loop-line.lines c.loop-line.line-index c.line-item.result
    c.loop-line.invariant.pooled (omega arith)

pub loop-line-init : goal.loop-line-init
loop-line-init c = record { lines = refl; pooled = c.requires }

pub loop-line-preserved : goal.loop-line-preserved
loop-line-preserved c =
    let ps = c.loop-line.lines in
    let n = c.loop-line.line-index in
    let old = c.line-item.result in
    let inside : n < length ps = omega arith in
    let long = plain_length c.args.lines.now in
    let done = c.restart.ensures.line ∙ ap (λ (p : PooledLine). without_joins p.line) (sym c.line-item.is) in
    record {
      lines = plain_set ps n c.restart.new.self ∙ ap (λ (l : SwitchLine). set (plain ps) n l) done
          ∙ map_over_more (without_joins) (plain c.args.lines.now) (plain ps) n old.line (omega (arith, long))
          c.loop-line.invariant.lines (plain_get ps n old c.line-item.is);
      pooled = pooled_set c.loop-line.pool c.restart.new.pool ps n (get_or ps n old) c.restart.new.self
          c.loop-line.invariant.pooled inside (got_again ps n old inside) c.restart.ensures.pool c.restart.ensures.claim
          c.restart.ensures.within;
    }

pub returns-clause-lines : goal.returns-clause-lines
returns-clause-lines c =
    let long = plain_length c.args.lines.now in
    all_changed (without_joins) c.loop-line.line-index (plain c.args.lines.now) (plain c.loop-line.lines)
    (omega (arith, long, c.loop-line-test.false)) c.loop-line.invariant.lines
