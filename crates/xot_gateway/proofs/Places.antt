-- The channels below a place.
use Rattle.std.proofs.Common.{◌≡◌, ℕ, zero, suc, ◌+◌, cond, List, Some, ap, arith}
use Rattle.xot_gateway.specs.declared.states.ChannelState.{ChannelState}
use Rattle.xot_gateway.specs.declared.connection.Connection.{Connection}
use Rattle.xot_gateway.specs.Calls.{is_free, highest_free}

pub one_below : (channels : List ChannelState) (connections : List Connection) (below place : ℕ) → below ≡ place + 1
    → highest_free channels connections below
    ≡ cond (is_free channels connections place) (Some place) (highest_free channels connections place)
one_below channels connections zero place is = absurd (omega arith)
one_below channels connections (suc p) place is =
    let same : p ≡ place = omega arith in
    ap (λ n. cond (is_free channels connections n) (Some n) (highest_free channels connections n)) same
