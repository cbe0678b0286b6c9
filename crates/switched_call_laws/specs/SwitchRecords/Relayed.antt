-- What one record sent is what another one took, handed on by a switch that both are records of.
use Rattle.std.specs.Prelude.{List, [], ◌∷◌, ◌++◌, map}
use Rattle.epochs.specs.Epoch.{SentEpoch, TakenEpoch}
use Rattle.epochs.specs.Confirmed.{Confirms, sent_confirmed, taken_confirmed}
use Rattle.call_records.specs.Records.{RecordValue}

-- what was sent on the one leg came of what was taken on the other one, and no more of it is confirmed there than here
abbrev pub RelayedTo : (taken : List TakenEpoch) → (sent : List SentEpoch) → Type 0
RelayedTo taken sent = Confirms (map sent_confirmed sent) (map taken_confirmed taken)

-- all epochs that an end sent, and all that it took
abbrev pub all_sent_by : RecordValue → List SentEpoch
all_sent_by r = r.sent_before ++ r.sent ∷ []

abbrev pub all_taken_by : RecordValue → List TakenEpoch
all_taken_by r = r.taken_before ++ r.taken ∷ []

-- what each record sent is what the other one took
pub record AreRelayed (a b : RecordValue) : Type 0 where
  pub there : RelayedTo (all_taken_by a) (all_sent_by b)
  pub back : RelayedTo (all_taken_by b) (all_sent_by a)
