-- What a call in data transfer leaves unsent (X.25 4.3, 4.4).
use Rattle.std.specs.Prelude.{◌≡◌, ◌≤◌, ◌⊎◌, true, false, [], None}
use Rattle.data_transfer.specs.Traffic.{Traffic, in_flight}
use Rattle.data_transfer.specs.declared.flow.Flow.{Flow}

-- Nothing that may go stays unsent: no interrupt and no interrupt confirmation waits, and the partner was told the P(R)
-- that may be sent and whether this end is stopped. Packets wait only until the window has room, or until the partner is
-- ready again.
pub record HasSaidAll (flow : Flow) (t : Traffic) : Type 0 where
  pub confirmation : t.confirmation_due ≡ false
  pub interrupt : t.interrupt_waiting ≡ None
  pub receive_number : t.untold ≡ false
  pub stop : t.told_stopped ≡ t.stopped
  pub packets : (t.waiting ≡ []) ⊎ ((flow.window ≤ in_flight t) ⊎ (t.partner_busy ≡ true))
