use Rattle.std.proofs.Common.{◌∙◌, sym}
use Rattle.packet_end.specs.PacketEnd.{begun}
use Rattle.switch_lines.specs.Pooled.{on_line}
use Rattle.switch_lines.specs.Switch.{with_end}
use Rattle.switch_lines.proofs.Pooled.{there_in, here}
use Rattle.switch_lines.proofs.Touched.{line_changed, none_changed}
use Rattle.switch_lines.proofs.lines.touched.begin_lines.Goals as goal

pub loop-line-preserved : goal.loop-line-preserved
loop-line-preserved c =
    let first = c.in-Some.ensures.first in
    record {
      there = there_in c.loop-line.which c.take_first.new.self c.in-Some.line c.loop-line.lines c.begin.new.self
          first c.loop-line.invariant.there;
      lines = line_changed c.loop-line.which c.take_first.new.self c.in-Some.line (on_line (with_end begun)) c.loop-line.lines
          c.index-lines-line.result c.begin.new.self
          first (here c.loop-line.which c.take_first.new.self c.in-Some.line c.loop-line.lines first c.loop-line.invariant.there) c.index-lines-line.is c.begin.ensures ∙ c.loop-line.invariant.lines;
    }

pub returns : goal.returns
returns c =
    sym (none_changed c.loop-line.which (on_line (with_end begun)) 0 c.loop-line.lines c.in_default.ensures.first)
    ∙ c.loop-line.invariant.lines
