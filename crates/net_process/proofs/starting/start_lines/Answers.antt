use Rattle.std.proofs.Common.{arith}
use Rattle.std.proofs.lemmas.List.Edits.{map_over_more}
use Rattle.net_process.specs.Starting.{started_at}
use Rattle.net_process.proofs.starting.start_lines.Goals as goal

pub loop-line-preserved : goal.loop-line-preserved
loop-line-preserved c =
    rw (c.start_line.ensures, ← c.line-item.is)
    (map_over_more (started_at c.args.node) c.deref_mut-line-items.result.now c.loop-line.line-items c.loop-line.line-index c.line-item.result
    (omega arith) c.loop-line.invariant c.line-item.is)
