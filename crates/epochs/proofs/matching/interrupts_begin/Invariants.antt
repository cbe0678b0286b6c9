use Rattle.std.proofs.Common.{◌↔◌, ℕ, List, drop}
use Rattle.epochs.specs.Prefix.{IsListPrefix}
use Rattle.epochs.proofs.matching.interrupts_begin.Given as goal

-- what is left is to be a prefix of what is left
abbrev pub invariant-loop-interrupt : goal.invariant-loop-interrupt
invariant-loop-interrupt l =
    IsListPrefix (List ℕ) l.interrupts l.initial.rest ↔ IsListPrefix (List ℕ) (drop l.interrupt-index l.interrupts) l.rest
