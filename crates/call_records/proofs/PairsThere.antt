-- The records of a pair that are there, or not.
use Rattle.std.specs.Prelude.{◌≡◌, List, slice_get, Some, None}
use Rattle.std.proofs.Common.{sym, subst, ◌∙◌}
use Rattle.std.proofs.lemmas.Option.{same_Some, none-some}
use Rattle.epochs.specs.Match.{Match}
use Rattle.call_records.specs.Records.{RecordValue, PairValue, taken_epochs, sent_epochs}
use Rattle.call_records.specs.Pairs.{PairMatches}

-- they are the ones that match
pub match-there : (records : List RecordValue) (pair : PairValue) (caller callee : RecordValue)
    → slice_get records pair.caller ≡ Some caller → slice_get records pair.callee ≡ Some callee → PairMatches records pair
    → Match (taken_epochs callee) (sent_epochs caller) × Match (taken_epochs caller) (sent_epochs callee)
match-there records pair caller callee a b m =
    let same_caller : m.caller ≡ caller = same_Some _ _ (sym m.caller_there ∙ a) in
    let same_callee : m.callee ≡ callee = same_Some _ _ (sym m.callee_there ∙ b) in
    let P : RecordValue → RecordValue → Type 0 =
    λ r s. Match (taken_epochs s) (sent_epochs r) × Match (taken_epochs r) (sent_epochs s) in
    subst (λ r. P r callee) same_caller (subst (λ s. P m.caller s) same_callee (m.onward, m.backward))

pub no-caller : (records : List RecordValue) (pair : PairValue) → slice_get records pair.caller ≡ None → PairMatches records pair → ⊥
no-caller records pair none m = none-some m.caller (sym none ∙ m.caller_there)

pub no-callee : (records : List RecordValue) (pair : PairValue) → slice_get records pair.callee ≡ None → PairMatches records pair → ⊥
no-callee records pair none m = none-some m.callee (sym none ∙ m.callee_there)
