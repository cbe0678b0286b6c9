-- Nothing is missing in the register of a network with switches, over paths of any length, if nothing is missing on its
-- lines and each join handed on all that it took.
use Rattle.std.specs.Prelude.{◌≡◌, ℕ, false, slice_get, Some}
use Rattle.epochs.specs.Epoch.{sent_epoch, taken_epoch}
use Rattle.call_records.specs.Records.{RecordValue, PairValue}
use Rattle.record_laws.specs.Books.BookRest.{NothingMissing}
use Rattle.record_laws.specs.CallPaths.World.{World, Plan}
use Rattle.record_laws.specs.CallPaths.Seen.{CameFrom, IsJoined, Seen}

-- what was sent on the one leg since the last reset is what was taken on the other one: items and interrupts
abbrev pub HandedAll : (taker sender : RecordValue) → Type 0
HandedAll taker sender = sent_epoch sender.sent ≡ taken_epoch taker.taken

-- both records of a join are open, the call that came in is accepted, and all is handed on, both ways
pub record HasHandedAll (w : World) (a b : ℕ) : Type 0 where
  pub from : RecordValue
  pub to : RecordValue
  pub from_there : slice_get w.whole.records a ≡ Some from
  pub to_there : slice_get w.whole.records b ≡ Some to
  pub from_open : from.closed ≡ false
  pub to_open : to.closed ≡ false
  pub onward : HandedAll from to
  pub backward : HandedAll to from
  pub place : ℕ
  pub pair : PairValue
  pub there : slice_get w.whole.pairs place ≡ Some pair
  pub accepted : pair.callee ≡ a

-- so it is of each join whose call onward was accepted and is open at the other end of its line
abbrev pub HaveHandedAll : World → Type 0
HaveHandedAll w = (a b x i : ℕ) (pair : PairValue) (callee : RecordValue) → CameFrom w.origins a x
    → IsJoined w.joins a b → slice_get w.whole.pairs i ≡ Some pair → pair.caller ≡ b
    → slice_get w.whole.records pair.callee ≡ Some callee → callee.closed ≡ false → HasHandedAll w a b

abbrev pub RestLaw : Type 0
RestLaw = (plan : Plan) (w : World) → Seen plan w → NothingMissing w.whole.records w.whole.pairs → HaveHandedAll w
    → NothingMissing w.register.records w.register.pairs
