-- The expiry that is due first in a network is that of the first node at which one is due.
use Rattle.std.specs.Prelude.{◌≡◌, ◌<◌, ℕ, Option, Some, None, MatchOption}
use Rattle.net_events.specs.declared.event.Event.{Event}
use Rattle.net_events.specs.Network.{Network}
use Rattle.net_nodes.specs.Due.{net_due, net_due_at}

-- it is due at this place, and nothing is due at a place before
pub record IsDueFirst (e : Event) (s : Network) : Type 0 where
  pub place : ℕ
  pub here : net_due_at place s ≡ Some e
  pub before : (other : ℕ) → other < place → net_due_at other s ≡ None

abbrev pub FirstDueLaw : Type 0
FirstDueLaw = (s : Network)
    → MatchOption (net_due s) ((place : ℕ) → net_due_at place s ≡ None) (λ e. IsDueFirst e s)
