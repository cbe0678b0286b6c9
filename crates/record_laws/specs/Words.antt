-- The words of the promises: what a record sent and took, which pair it is in, and what was typed on its call.
use Rattle.std.specs.Prelude.{◌≡◌, ◌⊎◌, ℕ, List, [], ◌∷◌, ◌++◌, map, slice_get, Some}
use Rattle.epochs.specs.Item.{Item, Octet, End, user_items}
use Rattle.epochs.specs.Epoch.{Epoch, IsEmpty, AreAligned}
use Rattle.epochs.specs.Confirmed.{Confirmed, sent_confirmed, taken_confirmed, all_taken}
use Rattle.pad_editing.specs.Edited.{edited}
use Rattle.call_records.specs.Records.{RecordValue, PairValue, sent_epochs, taken_epochs}

-- epoch by epoch, what one end of a call took begins what the other end sent, packet by packet; what is covered at the
-- sender was released at the taker, and what is released was taken
abbrev pub IsTakenFrom : (sender taker : RecordValue) → Type 0
IsTakenFrom sender taker =
    AreAligned (sender.sent_before ++ sender.sent ∷ []) (taker.taken_before ++ taker.taken ∷ [])

-- the epochs that an end sent and took, each with what is confirmed of it
abbrev pub sent_by : RecordValue → List Confirmed
sent_by r = map sent_confirmed (r.sent_before ++ r.sent ∷ [])

abbrev pub taken_by : RecordValue → List Confirmed
taken_by r = map taken_confirmed (r.taken_before ++ r.taken ∷ [])

-- and each with all that was taken in it
abbrev pub all_taken_by : RecordValue → List Confirmed
all_taken_by r = map all_taken (r.taken_before ++ r.taken ∷ [])

-- the record of this number is in the pair
abbrev pub IsIn : PairValue → ℕ → Type 0
IsIn pair number = (pair.caller ≡ number) ⊎ (pair.callee ≡ number)

-- each epoch that was taken is empty
abbrev pub TookNothing : List Epoch → Type 0
TookNothing [] = Unit {0}
TookNothing (e ∷ es) = IsEmpty e × TookNothing es

pub record ArePaired (records : List RecordValue) (pairs : List PairValue) : Type 0 where
  -- the record of each number is at that place
  pub numbers : (i : ℕ) (r : RecordValue) → slice_get records i ≡ Some r → r.number ≡ i
  -- no record is in two pairs, and each that took anything is in one
  pub in_one : (i j : ℕ) (p q : PairValue) (number : ℕ) → slice_get pairs i ≡ Some p → slice_get pairs j ≡ Some q
      → IsIn p number → IsIn q number → i ≡ j
  pub took : (n : ℕ) (r : RecordValue) → slice_get records n ≡ Some r
      → TookNothing (taken_epochs r) ⊎ ((i : ℕ) × (p : PairValue) × (slice_get pairs i ≡ Some p) × IsIn p n)

-- ---- what was typed

-- the items of epochs, one after the other
abbrev pub items_of_epochs : List Epoch → List Item
items_of_epochs [] = []
items_of_epochs (e ∷ es) = e.items ++ items_of_epochs es

abbrev pub items_sent : RecordValue → List Item
items_sent r = items_of_epochs (sent_epochs r)

-- each block, and an end
abbrev pub user_messages : List (List ℕ) → List Item
user_messages [] = []
user_messages (block ∷ blocks) = map Octet block ++ End ∷ user_messages blocks

-- the user items of all epochs are, for each block that the editing rules make of the steps, its octets and an end
abbrev pub HasTyped : RecordValue → Type 0
HasTyped r = user_items (items_sent r) ≡ user_messages (edited r.steps)
