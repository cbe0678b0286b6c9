-- What the laws of the lines and of the switches give, of which the promise of a network is made.
use Rattle.std.specs.Prelude.{◌≡◌, ◌⊎◌, ℕ, false, slice_get, Some}
use Rattle.epochs.specs.Confirmed.{Confirms}
use Rattle.epochs.specs.ConfirmedLaws.{AreEmpty}
use Rattle.call_records.specs.Records.{RecordValue}
use Rattle.record_laws.specs.Words.{sent_by, taken_by}
use Rattle.record_laws.specs.Registers.RegisterPromise.{RegisterHolds}
use Rattle.record_laws.specs.Registers.RegisterPromise as line
use Rattle.record_laws.specs.CallPaths.World.{Origin, World, Plan, calling_on}
use Rattle.record_laws.specs.CallPaths.Seen.{CameFrom, IsJoined}

-- of the lines: each call that came in holds as a pair does, accepted or not, and it came in once
pub record CallsHold (w : World) : Type 0 where
  pub register : RegisterHolds w.whole
  pub came : (a x : ℕ) → CameFrom w.origins a x → line.PairHolds w.whole (record { caller = x; callee = a })
  pub once : (a b x : ℕ) → CameFrom w.origins a x → CameFrom w.origins b x → a ≡ b

-- of the relay of a join: what was sent on the one leg comes of what was taken on the other one, both ways; the called
-- address is handed on, and so is the calling one where the line that the call came on has no address; the line is that
-- of the switch's route
pub record JoinHolds (plan : Plan) (w : World) (a b : ℕ) : Type 0 where
  pub from : RecordValue
  pub to : RecordValue
  pub from_there : slice_get w.whole.records a ≡ Some from
  pub to_there : slice_get w.whole.records b ≡ Some to
  pub onward : Confirms (sent_by to) (taken_by from)
  pub backward : Confirms (sent_by from) (taken_by to)
  pub own : (o : Origin) → slice_get w.origins a ≡ Some o → to.own ≡ calling_on (plan.address o.line) from.far
  pub far : to.far ≡ from.own
  pub routed : (o : Origin) → slice_get w.origins b ≡ Some o → plan.route to.node to.far ≡ Some o.line

-- and of all joins; what a switch sent on a call that came in, it sent on a joined one
pub record JoinsHold (plan : Plan) (w : World) : Type 0 where
  pub joins : (a b : ℕ) → IsJoined w.joins a b → JoinHolds plan w a b
  pub sent : (a x : ℕ) (o : Origin) (r : RecordValue) → slice_get w.origins a ≡ Some o → o.caller ≡ Some x
      → plan.has_user o.line o.role ≡ false → slice_get w.whole.records a ≡ Some r
      → AreEmpty (sent_by r) ⊎ ((b : ℕ) × IsJoined w.joins a b)
