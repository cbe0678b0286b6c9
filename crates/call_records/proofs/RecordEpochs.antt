-- The epochs of a record are those of what passed.
use Rattle.std.specs.Prelude.{◌≡◌, ◌↔◌, List, [], ◌∷◌, ◌++◌, map, Bool, IsTrue}
use Rattle.std.proofs.Common.{refl, ap}
use Rattle.epochs.specs.Epoch.{sent_epoch, taken_epoch}
use Rattle.epochs.specs.Passed.{Part}
use Rattle.epochs.specs.Match.{Match}
use Rattle.epochs.specs.Matching.Epochs.{epoch_of, epochs_in}
use Rattle.call_records.specs.Records.{taken_epochs as taken_by, sent_epochs as sent_by}
use Rattle.call_records.specs.RecordView.{sent_of, taken_of, shown}
use Rattle.call_records.specs.declared.record.Record.{Record}

pub sent-epochs : (before : List Part) (last : Part)
    → map sent_epoch (map sent_of before ++ sent_of last ∷ []) ≡ map epoch_of (before ++ last ∷ [])
sent-epochs [] last = refl
sent-epochs (p ∷ before) last = ap (λ es. epoch_of p ∷ es) (sent-epochs before last)

pub taken-epochs : (before : List Part) (last : Part)
    → map taken_epoch (map taken_of before ++ taken_of last ∷ []) ≡ map epoch_of (before ++ last ∷ [])
taken-epochs [] last = refl
taken-epochs (p ∷ before) last = ap (λ es. epoch_of p ∷ es) (taken-epochs before last)

-- what was found of what passed holds of the records
pub records-match : (taker sender : Record) (found : Bool) → (IsTrue found ↔ Match (epochs_in taker.taken.epochs) (epochs_in sender.sent.epochs))
    → (IsTrue found ↔ Match (taken_by (shown taker)) (sent_by (shown sender)))
records-match taker sender found is =
    let taken = taker.taken.epochs in
    let sent = sender.sent.epochs in
    rw (taken-epochs taken.before taken.last, sent-epochs sent.before sent.last) is
