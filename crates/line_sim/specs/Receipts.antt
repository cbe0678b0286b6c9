-- What a confirmation says of the other end of the call.
use Rattle.std.specs.Prelude.{◌≡◌, ℕ, ◌⊎◌, length, slice_get, Some}
use Rattle.link_timers.specs.declared.role.Role.{Role}
use Rattle.epochs.specs.Epoch.{SentEpoch, sent_epoch}
use Rattle.epochs.specs.Confirmed.{Confirmed, Has, confirmed_from}
use Rattle.call_records.specs.Records.{RecordValue, PairValue}
use Rattle.record_laws.specs.Words.{all_taken_by}
use Rattle.net_events.specs.Network.{NetLine, Network, place_at}
use Rattle.network_laws.specs.Switched.InnerPromise.{its_slot}

-- what was sent since the last reset, up to the end of the last packet with D = 1
abbrev pub to_be_confirmed : SentEpoch → Confirmed
to_be_confirmed s = record { epoch = sent_epoch s; items = confirmed_from 0 0 (length s.packets) s.packets }

-- no packet with D = 1 was sent since then, or the taker took all this between two resets of its own, from the front on
abbrev pub HasTaken : (taker sender : RecordValue) → Type 0
HasTaken taker sender = ((to_be_confirmed sender.sent).items ≡ 0)
    ⊎ ((i : ℕ) × (e : Confirmed) × (slice_get (all_taken_by taker) i ≡ Some e) × Has e (to_be_confirmed sender.sent))

-- these two records are a pair
abbrev pub AreInPair : PairValue → (number other : ℕ) → Type 0
AreInPair pair number other =
    ((pair.caller ≡ number) × (pair.callee ≡ other)) ⊎ ((pair.callee ≡ number) × (pair.caller ≡ other))

-- so it is of the present call of a channel at the node of this place and the other end of that call
abbrev pub IsTakenBeyond : (place channel : ℕ) → Network → Type 0
IsTakenBeyond place channel s =
    (line : ℕ) (l : NetLine) (role : Role) (i number other : ℕ) (pair : PairValue) (sender taker : RecordValue)
    → slice_get s.lines line ≡ Some l → place_at role l ≡ place
    → (its_slot line role channel s.register).present ≡ Some number
    → slice_get s.register.pairs i ≡ Some pair → AreInPair pair number other
    → slice_get s.register.records number ≡ Some sender → slice_get s.register.records other ≡ Some taker
    → HasTaken taker sender
