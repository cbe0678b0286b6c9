-- Which timer is due next.
use Rattle.std.specs.Prelude.{ℕ, Option, Some, None, slice_get}
use Rattle.link_timers.specs.declared.timers.TimerId.{TimerId}
use Rattle.net_events.specs.declared.event.Event.{Event}
use Rattle.net_events.specs.declared.event.Event.TheVariants.{Expire}
use Rattle.net_events.specs.Network.{NetNode, Network}
use Rattle.net_events.specs.NextDue.{DueTimer, due_at, next_due}

abbrev pub expiry_of : Option DueTimer → Option Event
expiry_of None = None
expiry_of (Some due) = Some (Expire due.place due.line due.timer)

-- the expiry of the first timer without a tick left, of the first node that has one
abbrev pub net_due : Network → Option Event
net_due s = expiry_of (next_due s)

-- ---- at one node

abbrev pub due_in : Option NetNode → Option (ℕ × TimerId)
due_in None = None
due_in (Some n) = due_at n

abbrev pub expiry_at : (place : ℕ) → Option (ℕ × TimerId) → Option Event
expiry_at place None = None
expiry_at place (Some d) = Some (Expire place d.0 d.1)

-- the expiry of the first timer without a tick left of the node of this place
abbrev pub net_due_at : (place : ℕ) → Network → Option Event
net_due_at place s = expiry_at place (due_in (slice_get s.nodes place))
