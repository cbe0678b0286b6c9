use Rattle.std.proofs.Common.{◌∙◌, sym, refl, get_or, true≢false}
use Rattle.packet_end.specs.PacketEnd.{settled}
use Rattle.switch_lines.specs.Pooled.{on_line}
use Rattle.switch_lines.specs.Switch.{with_end}
use Rattle.switch_lines.proofs.Pooled.{there_in, here, timers_in, serves_got, got_again, pooled_same, pool_kept}
use Rattle.switch_lines.proofs.Touched.{line_changed, none_changed}
use Rattle.switch_lines.proofs.lines.touched.settle_lines.Goals as goal

pub settle-requires : goal.settle-requires
settle-requires c =
    let i = c.loop-line.invariant in
    serves_got c.loop-line.pool c.loop-line.lines c.in-Some.line c.index-lines-line.result i.pooled
    (here c.loop-line.which c.take_first.new.self c.in-Some.line c.loop-line.lines c.in-Some.ensures.first i.there)

pub loop-line-init : goal.loop-line-init
loop-line-init c = record {
  there = c.requires.there;
  timers = λ n x in_all out found. absurd (true≢false (sym in_all ∙ out));
  lines = refl;
  pooled = c.requires.pool;
}

pub loop-line-preserved : goal.loop-line-preserved
loop-line-preserved c =
    let first = c.in-Some.ensures.first in
    let i = c.loop-line.invariant in
    let inside = here c.loop-line.which c.take_first.new.self c.in-Some.line c.loop-line.lines first i.there in
    record {
      there = there_in c.loop-line.which c.take_first.new.self c.in-Some.line c.loop-line.lines c.settle.new.self
          first i.there;
      timers = timers_in c.args.which c.loop-line.which c.take_first.new.self c.in-Some.line c.loop-line.lines
          c.settle.new.self first i.timers c.settle.ensures.timers;
      lines = line_changed c.loop-line.which c.take_first.new.self c.in-Some.line (on_line (with_end settled))
          c.loop-line.lines c.index-lines-line.result c.settle.new.self
          first inside c.index-lines-line.is c.settle.ensures.line ∙ i.lines;
      pooled = pool_kept c.loop-line.pool c.settle.new.pool _ c.settle.ensures.pool
          (pooled_same c.loop-line.pool (with_end settled) c.loop-line.lines c.in-Some.line
          (get_or c.loop-line.lines c.in-Some.line c.index-lines-line.result)
          c.settle.new.self i.pooled inside (got_again c.loop-line.lines c.in-Some.line c.index-lines-line.result inside)
          c.settle.ensures.line);
    }

pub returns-clause-lines : goal.returns-clause-lines
returns-clause-lines c =
    sym (none_changed c.loop-line.which (on_line (with_end settled)) 0 c.loop-line.lines c.in_default.ensures.first)
    ∙ c.loop-line.invariant.lines

pub returns-clause-timers : goal.returns-clause-timers
returns-clause-timers c = λ n x is found. c.loop-line.invariant.timers n x is (c.in_default.ensures.first n) found
