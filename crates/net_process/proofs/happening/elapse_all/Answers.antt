use Rattle.std.proofs.Common.{arith}
use Rattle.std.proofs.lemmas.List.Edits.{map_over_more}
use Rattle.remote_lines.specs.RemoteLine.{elapsed}
use Rattle.net_process.proofs.happening.elapse_all.Goals as goal

pub loop-line-preserved : goal.loop-line-preserved
loop-line-preserved c =
    rw (c.elapse.ensures, ← c.line-item.is)
    (map_over_more (λ line. elapsed line c.args.ticks) c.deref_mut-line-items.result.now c.loop-line.line-items c.loop-line.line-index
    c.line-item.result (omega arith) c.loop-line.invariant c.line-item.is)
