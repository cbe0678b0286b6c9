-- Nothing is missing: of each call that is open at both ends, each end took all that the other one sent since the last
-- reset.
use Rattle.std.specs.Prelude.{◌≡◌, ℕ, false, List, slice_get, Some}
use Rattle.epochs.specs.Epoch.{sent_epoch, taken_epoch}
use Rattle.call_records.specs.Records.{RecordValue, PairValue}

-- the last epoch that the one end took is the last that the other one sent: items and interrupts
abbrev pub TookAll : (sender taker : RecordValue) → Type 0
TookAll sender taker = taken_epoch taker.taken ≡ sent_epoch sender.sent

-- so it is both ways in each pair of which both records are open
abbrev pub NothingMissing : List RecordValue → List PairValue → Type 0
NothingMissing records pairs = (i : ℕ) (pair : PairValue) (caller callee : RecordValue) → slice_get pairs i ≡ Some pair
    → slice_get records pair.caller ≡ Some caller → slice_get records pair.callee ≡ Some callee
    → caller.closed ≡ false → callee.closed ≡ false → TookAll caller callee × TookAll callee caller
