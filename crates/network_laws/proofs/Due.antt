-- Where a timer that is due expires, fewer are due then.
use Rattle.std.proofs.Common.{◌≡◌, ℕ, zero, suc, ◌<◌, arith, List, [], ◌∷◌, set, Some, sym, subst}
use Rattle.std.specs.Prelude.{slice_get}
use Rattle.std.proofs.lemmas.Option.{same_Some, none-some}
use Rattle.node_laws.proofs.Expiring as expiry_law
use Rattle.net_events.specs.Network.{NetNode}
use Rattle.network_laws.specs.DueCount.{due_at_node, all_due}

pub fewer_of : (nodes : List NetNode) (place : ℕ) (p q : NetNode) → slice_get nodes place ≡ Some p → due_at_node q < due_at_node p
    → all_due (set nodes place q) < all_due nodes
fewer_of [] place p q e h = absurd (none-some p e)
fewer_of (n ∷ nodes) zero p q e h =
    let less : due_at_node q < due_at_node n = subst (λ (x : NetNode). due_at_node q < due_at_node x) (sym (same_Some n p e)) h in
    omega (arith, less)
fewer_of (n ∷ nodes) (suc place) p q e h = let less = fewer_of nodes place p q e h in omega (arith, less)
