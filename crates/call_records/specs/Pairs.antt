-- In each call what each end took matches what the other one sent.
use Rattle.std.specs.Prelude.{◌≡◌, List, slice_get, Some}
use Rattle.std.specs.List.{All}
use Rattle.epochs.specs.Match.{Match}
use Rattle.call_records.specs.Records.{RecordValue, PairValue, taken_epochs, sent_epochs}

-- the records of the pair are there, and match both ways
pub record PairMatches (records : List RecordValue) (pair : PairValue) : Type 0 where
  pub caller : RecordValue
  pub callee : RecordValue
  pub caller_there : slice_get records pair.caller ≡ Some caller
  pub callee_there : slice_get records pair.callee ≡ Some callee
  pub onward : Match (taken_epochs callee) (sent_epochs caller)
  pub backward : Match (taken_epochs caller) (sent_epochs callee)

abbrev pub AllMatch : List RecordValue → List PairValue → Type 0
AllMatch records pairs = All (PairMatches records) pairs
