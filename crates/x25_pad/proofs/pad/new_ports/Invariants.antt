-- The ports so far.
use Rattle.std.proofs.Common.{◌≡◌, ◌≤◌, ◌-◌, ◌∷◌, None, replicate}
use Rattle.pad_ports.specs.Ports.{new_port}
use Rattle.x25_pad.proofs.pad.new_ports.Given as goal

abbrev pub invariant-loop : goal.invariant-loop
invariant-loop l =
    (l.ports.items ≡ new_port l.params l.fn.standing ∷ replicate (l.counter - 1) (new_port l.params None))
    × (1 ≤ l.counter)
