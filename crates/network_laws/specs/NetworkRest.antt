-- Rest and delivery: if a network is at rest nothing is missing, and if a host says that delivery is confirmed it is.
use Rattle.std.specs.Prelude.{◌≡◌, ℕ, true, List, slice_get, Some}
use Rattle.link_timers.specs.declared.role.Role.{Role}
use Rattle.call_records.specs.Records.{RecordValue}
use Rattle.record_laws.specs.Books.BookRest.{NothingMissing}
use Rattle.record_laws.specs.Books.Delivery.{IsAllCovered}
use Rattle.user_nodes.specs.Node.{node_rests}
use Rattle.net_events.specs.Network.{PlacedNode, NetNode, User, NetLine, Network, place_at}
use Rattle.network_laws.specs.LinesPromise.{its_slot}

-- of each call that is open at both ends, each end took all that the other one sent since the last reset
abbrev pub MissesNothing : Network → Type 0
MissesNothing s = NothingMissing s.register.records s.register.pairs

abbrev pub AreAtRest : List NetNode → Type 0
AreAtRest nodes = (place : ℕ) (n : PlacedNode) → slice_get nodes place ≡ Some (User n) → node_rests n.node ≡ true

-- each packet with D = 1 that the present call of a channel sent since its last reset is covered, at the node of this
-- place
abbrev pub IsDelivered : (place channel : ℕ) → Network → Type 0
IsDelivered place channel s =
    (line : ℕ) (l : NetLine) (role : Role) (number : ℕ) (r : RecordValue) → slice_get s.lines line ≡ Some l
    → place_at role l ≡ place → (its_slot line role channel s.register).present ≡ Some number
    → slice_get s.register.records number ≡ Some r → IsAllCovered r.sent
