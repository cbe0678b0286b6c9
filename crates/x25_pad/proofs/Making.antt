-- Ports as they are made, one after the other.
use Rattle.std.proofs.Common.{◌≡◌, ℕ, ◌+◌, ◌-◌, ◌≤◌, [], ◌∷◌, ◌++◌, replicate, ap, arith, ◌∙◌}
use Rattle.std.proofs.lemmas.List.{replicate-append-replicate}
use Rattle.pad_ports.specs.Ports.{PortState}

-- one port more
pub one_port_more : (first port : PortState) (n : ℕ) → 1 ≤ n →
    (first ∷ replicate (n - 1) port) ++ port ∷ [] ≡ first ∷ replicate (n + 1 - 1) port
one_port_more first port n some =
    let count : n - 1 + 1 ≡ n + 1 - 1 = omega arith in
    ap (λ ports. first ∷ ports) (replicate-append-replicate (n - 1) 1 port ∙ ap (λ k. replicate k port) count)
