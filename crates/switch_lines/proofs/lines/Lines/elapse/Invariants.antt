-- The lines so far are changed.
use Rattle.std.proofs.Common.{◌≡◌, ◌++◌, map, take, drop}
use Rattle.packet_end.specs.PacketEnd.{elapsed}
use Rattle.switch_lines.specs.Pooled.{on_line}
use Rattle.switch_lines.specs.Switch.{with_end}
use Rattle.switch_lines.proofs.lines.Lines.elapse.Given as goal

abbrev pub invariant-loop-line : goal.invariant-loop-line
invariant-loop-line l =
    l.line-items ≡ map (on_line (with_end (λ e. elapsed e l.ticks))) (take l.line-index l.initial.line-items) ++ drop l.line-index l.initial.line-items
