-- What is confirmed end to end: of a packet that was sent with D = 1, a P(R) that covers it says that the other end of
-- the call took it (X.25 4.3.3).
use Rattle.std.specs.Prelude.{◌≡◌, ℕ, zero, suc, ◌+◌, ◌≤◌, if◌then◌else◌, List, [], ◌∷◌, length}
use Rattle.epochs.specs.Item.{DataPacket, items_of}
use Rattle.epochs.specs.Epoch.{Epoch, SentEpoch, TakenEpoch, IsEmpty, IsPrefixOf, sent_epoch, taken_epoch}

-- how many items, from the front, end with the last one of the first `count` packets that has D = 1; `before` items
-- stand before these packets, of which `found` end with such a packet
abbrev pub confirmed_from : (before found count : ℕ) → List DataPacket → ℕ
confirmed_from before found zero packets = found
confirmed_from before found (suc count) [] = found
confirmed_from before found (suc count) (p ∷ packets) =
    confirmed_from (before + length (items_of p)) (if p.delivery then before + length (items_of p) else found)
    count packets

-- an epoch of a list, and how many of its items are confirmed
pub record Confirmed : Type 0 where
  pub epoch : Epoch
  pub items : ℕ

-- at the sender P(R) confirms, and at the taker what was released
abbrev pub sent_confirmed : SentEpoch → Confirmed
sent_confirmed s = record { epoch = sent_epoch s; items = confirmed_from 0 0 s.covered s.packets }

abbrev pub taken_confirmed : TakenEpoch → Confirmed
taken_confirmed t = record { epoch = taken_epoch t; items = confirmed_from 0 0 t.released t.packets }

-- all that was taken
abbrev pub all_taken : TakenEpoch → Confirmed
all_taken t = record { epoch = taken_epoch t; items = length (taken_epoch t).items }

-- the taken epoch begins the sent one, and has all of it that is confirmed
pub record Has (taken sent : Confirmed) : Type 0 where
  pub begins : IsPrefixOf taken.epoch sent.epoch
  pub confirmed : sent.items ≤ taken.items

-- Taken epochs match sent ones, front by front, as `Match` has it, by one matching in which each sent epoch of which
-- anything is confirmed is matched, and with a taken epoch that has it.
pub data Confirms : List Confirmed → List Confirmed → Type 0 where
  nothing : Confirms [] []
  drop_empty : {e : Confirmed} {taken sent : List Confirmed} → IsEmpty e.epoch → Confirms taken sent
      → Confirms (e ∷ taken) sent
  join : {e f : Confirmed} {taken sent : List Confirmed} → Has e f → Confirms taken sent
      → Confirms (e ∷ taken) (f ∷ sent)
  skip : {f : Confirmed} {taken sent : List Confirmed} → f.items ≡ 0 → Confirms taken sent
      → Confirms taken (f ∷ sent)
