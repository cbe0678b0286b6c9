-- The timers so far are lowered.
use Rattle.std.proofs.Common.{◌≡◌, ◌++◌, map, take, drop}
use Rattle.link_timers.specs.Timers.{lowered}
use Rattle.link_timers.proofs.timers.Timers.elapse.Given as goal

abbrev pub invariant-loop-left : goal.invariant-loop-left
invariant-loop-left l =
    l.left-items
    ≡ map (lowered l.ticks) (take l.left-index l.initial.left-items) ++ drop l.left-index l.initial.left-items
