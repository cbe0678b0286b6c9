-- The laws of matching with confirmed items.
use Rattle.std.specs.Prelude.{◌≡◌, ℕ, ◌≤◌, ◌<◌, true, List, [], ◌∷◌, ◌++◌, map, slice_get, Some}
use Rattle.epochs.specs.Item.{DataPacket}
use Rattle.epochs.specs.Epoch.{SentEpoch, TakenEpoch, IsEmpty, AreAligned}
use Rattle.epochs.specs.Match.{Match}
use Rattle.epochs.specs.Confirmed.{Confirmed, Confirms, confirmed_from, sent_confirmed, taken_confirmed, all_taken}

-- each list matches itself, and what came of what came of a list came of that list
abbrev pub ConfirmsItself : Type 0
ConfirmsItself = (es : List Confirmed) → Confirms es es

abbrev pub ConfirmsOnward : Type 0
ConfirmsOnward = (xs ys zs : List Confirmed) → Confirms xs ys → Confirms ys zs → Confirms xs zs

-- what matched before is followed by what matches after it
abbrev pub ConfirmsInTurn : Type 0
ConfirmsInTurn =
    (xs ys us vs : List Confirmed) → Confirms xs ys → Confirms us vs → Confirms (xs ++ us) (ys ++ vs)

-- the two ends of a line match
abbrev pub AlignedListsConfirm : Type 0
AlignedListsConfirm =
    (sent : List SentEpoch) (taken : List TakenEpoch) → AreAligned sent taken
    → Confirms (map taken_confirmed taken) (map sent_confirmed sent)

-- where nothing was taken and nothing is confirmed, that matches
abbrev pub AreEmpty : List Confirmed → Type 0
AreEmpty [] = Unit {0}
AreEmpty (e ∷ es) = IsEmpty e.epoch × AreEmpty es

abbrev pub AreUnconfirmed : List Confirmed → Type 0
AreUnconfirmed [] = Unit {0}
AreUnconfirmed (e ∷ es) = (e.items ≡ 0) × AreUnconfirmed es

abbrev pub NothingConfirms : Type 0
NothingConfirms = (taken sent : List Confirmed) → AreEmpty taken → AreUnconfirmed sent → Confirms taken sent

-- what is confirmed was taken, and the matching is one
abbrev pub ConfirmedIsTaken : Type 0
ConfirmedIsTaken =
    (taken : List TakenEpoch) (sent : List Confirmed) → Confirms (map taken_confirmed taken) sent
    → Confirms (map all_taken taken) sent

abbrev pub ConfirmsIsMatch : Type 0
ConfirmsIsMatch =
    (taken sent : List Confirmed) → Confirms taken sent → Match (map (λ e. e.epoch) taken) (map (λ e. e.epoch) sent)

-- a switch releases a packet with D = 1 when it is covered on the other leg: no more is then confirmed by what it
-- released than by what is covered there
abbrev pub AreReleasedWhenCovered : (released covered : ℕ) → List DataPacket → Type 0
AreReleasedWhenCovered released covered packets =
    (i : ℕ) (p : DataPacket) → slice_get packets i ≡ Some p → p.delivery ≡ true → i < released → i < covered

abbrev pub RelayConfirms : Type 0
RelayConfirms =
    (released covered : ℕ) (packets : List DataPacket) → AreReleasedWhenCovered released covered packets
    → confirmed_from 0 0 released packets ≤ confirmed_from 0 0 covered packets
