-- One direction of a join: from its near leg to its far leg.
use Rattle.std.specs.Prelude.{◌≡◌, ℕ, zero, suc, Bool, true, false, List, Option, Some, None}
use Rattle.data_transfer.specs.Traffic.{Taken, front, interrupt_pending}
use Rattle.packet_channel.specs.Channel.{Request}
use Rattle.packet_channel.specs.Channel.Request.{Taking, Releasing, Confirming}
use Rattle.packet_channel.specs.Channel.ChannelState.{Transfer}
use Rattle.switch_joins.specs.Direction.{Direction, releasable, released, covered_by}
use Rattle.switch_joins.specs.Turning.{Sizes, IsGathered}
use Rattle.switch_lines.specs.Lines.{takes_all}
use Rattle.switch_lines.specs.Relay.{carried_by, requests_for}
use Rattle.switch_laws.specs.Leg.{Leg, IsLeg, asked, asked_all}
use Rattle.switch_laws.specs.Clause.{Passed, IsDirection, taken_part, sent_part}

pub record Way : Type 0 where
  pub near : Leg
  pub far : Leg
  pub kept : Direction

-- what may be released is
abbrev pub freed : Way → Way
freed w = record w { near = asked (Releasing (releasable w.kept.held)) w.near; kept = released w.kept }

abbrev pub sizes : Way → Sizes
sizes w = record { near = w.near.flow.size; far = w.far.flow.size }

-- what is asked of the far leg for this
abbrev pub due : Way → Taken → List Request
due w t = requests_for (sizes w) w.kept.gathered t

-- what waits first on the near leg is taken there, if the far leg takes all that it makes due
abbrev pub moved_if : Bool → Taken → Way → Way
moved_if true t w = freed (record {
  near = asked Taking w.near;
  far = asked_all (due w t) w.far;
  kept = carried_by (sizes w) t w.kept;
})
moved_if false t w = w

abbrev pub moved_front : Option Taken → Way → Way
moved_front None w = w
moved_front (Some t) w = moved_if (takes_all w.far.role w.far.flow w.far.channel (due w t)) t w

abbrev pub moved : Way → Way
moved w = moved_front (front w.near.channel.traffic) w

abbrev pub relayed : (most : ℕ) → Way → Way
relayed zero w = w
relayed (suc most) w = relayed most (moved w)

-- P(R) covers n more packets of the far leg
abbrev pub covers : ℕ → Way → Way
covers n w = freed (record w { kept = covered_by n w.kept })

-- the far leg's interrupt was confirmed
abbrev pub confirms : Way → Way
confirms w = record w { near = asked Confirming w.near }

-- what always holds of a direction while both legs are in data transfer: past epochs have passed, the present ones
-- carry each other, less than a packet of the far line is gathered, and an interrupt is unconfirmed on the near leg
-- exactly where it is on the far leg
pub record Holds (w : Way) : Type 0 where
  pub near : IsLeg w.near
  pub far : IsLeg w.far
  pub near_call : w.near.channel.state ≡ Transfer
  pub far_call : w.far.channel.state ≡ Transfer
  pub passed : Passed (sizes w) w.near.before w.far.before
  pub direction : IsDirection w.kept (taken_part w.near.epoch) (sent_part w.far.epoch)
  pub gathered : IsGathered (sizes w) w.kept.gathered
  -- between lines of one size each packet makes itself due, with M, Q and D
  pub packets : w.near.flow.size ≡ w.far.flow.size → w.far.epoch.sent ≡ w.near.epoch.taken
  pub interrupted : w.near.channel.traffic.interrupt_taken ≡ interrupt_pending w.far.channel.traffic

-- and all that may be released is
pub record IsRight (w : Way) : Type 0 where
  pub holds : Holds w
  pub all_released : releasable w.kept.held ≡ 0

-- nothing waits on the near leg that the far leg takes
abbrev pub IsStuck : Way → Type 0
IsStuck w = (t : Taken) → front w.near.channel.traffic ≡ Some t
    → takes_all w.far.role w.far.flow w.far.channel (due w t) ≡ false
