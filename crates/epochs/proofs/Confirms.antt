-- Matching with confirmed items: transitive, from aligned lists, and what follows from it.
use Rattle.std.proofs.Common.{◌≡◌, ℕ, ◌≤◌, List, [], ◌∷◌, refl, ap, arith}
use Rattle.std.specs.Prelude.{map, ◌++◌}
use Rattle.epochs.specs.Epoch.{SentEpoch, TakenEpoch, IsEmpty, IsAligned, AreAligned, taken_epoch}
use Rattle.epochs.specs.Match.Match.{nothing as none_match, drop_empty as dropped, join as joined, skip as skipped}
use Rattle.epochs.specs.Confirmed.{Confirmed, Has, Confirms, confirmed_from, sent_confirmed, taken_confirmed, all_taken}
use Rattle.epochs.specs.Confirmed.Confirms.{nothing, drop_empty, join, skip}
use Rattle.epochs.specs.ConfirmedLaws.{ConfirmsInTurn, ConfirmsOnward, AreEmpty, AreUnconfirmed, ConfirmedIsTaken, ConfirmsIsMatch}
use Rattle.epochs.proofs.Prefixes.{prefix-refl, prefix-trans, empty-prefix, all_items-prefix}
use Rattle.epochs.proofs.Confirming.{within, more, same_of_prefix}

has_trans : {x y z : Confirmed} → Has x y → Has y z → Has x z
has_trans h k =
    let a = h.confirmed in let b = k.confirmed in record { begins = prefix-trans h.begins k.begins; confirmed = omega arith }

pub confirms_itself : (es : List Confirmed) → Confirms es es
confirms_itself [] = nothing
confirms_itself (e ∷ es) = join (record { begins = prefix-refl e.epoch; confirmed = omega arith }) (confirms_itself es)

-- ---- transitivity: by recursion on the second matching, with one walk along the first for each of its constructors

through_drop : {xs ys : List Confirmed} {y : Confirmed} → IsEmpty y.epoch → Confirms xs (y ∷ ys) → Confirms xs ys
through_drop h (drop_empty g m) = drop_empty g (through_drop h m)
through_drop h (join c m) = drop_empty (empty-prefix c.begins h) m
through_drop h (skip e m) = m

through_join : {xs ys zs : List Confirmed} {y z : Confirmed} → Has y z → ((ws : List Confirmed) → Confirms ws ys → Confirms ws zs)
    → Confirms xs (y ∷ ys) → Confirms xs (z ∷ zs)
through_join h k (drop_empty g m) = drop_empty g (through_join h k m)
through_join h k (join {taken = ts} c m) = join (has_trans c h) (k ts m)
through_join {xs} h k (skip e m) = let less = h.confirmed in skip (omega arith) (k xs m)

pub confirms_trans : {ys zs : List Confirmed} → Confirms ys zs → (xs : List Confirmed) → Confirms xs ys → Confirms xs zs
confirms_trans nothing xs m = m
confirms_trans (drop_empty h n) xs m = confirms_trans n xs (through_drop h m)
confirms_trans (join h n) xs m = through_join h (confirms_trans n) m
confirms_trans (skip e n) xs m = skip e (confirms_trans n xs m)

pub confirms_onward : ConfirmsOnward
confirms_onward xs ys zs m n = confirms_trans n xs m

in_turn : {xs ys us vs : List Confirmed} → Confirms xs ys → Confirms us vs → Confirms (xs ++ us) (ys ++ vs)
in_turn nothing n = n
in_turn (drop_empty e m) n = drop_empty e (in_turn m n)
in_turn (join h m) n = join h (in_turn m n)
in_turn (skip e m) n = skip e (in_turn m n)

pub confirms_in_turn : ConfirmsInTurn
confirms_in_turn xs ys us vs m n = in_turn m n

-- ---- the two ends of a line

aligned_has : {s : SentEpoch} {t : TakenEpoch} → IsAligned s t → Has (taken_confirmed t) (sent_confirmed s)
aligned_has {s} {t} a =
    let less = more 0 0 s.covered t.released s.packets (omega arith) a.covered in
    let same = same_of_prefix t.released t.packets s.packets a.packets a.released in
    record { begins = record { items = all_items-prefix a.packets; interrupts = a.interrupts }; confirmed = omega arith }

none_covered : (s : SentEpoch) → s.covered ≤ 0 → confirmed_from 0 0 s.covered s.packets ≡ 0
none_covered s h =
    let none : s.covered ≡ 0 = omega arith in ap (λ (n : ℕ). confirmed_from 0 0 n s.packets) none

pub aligned_confirms : (sent : List SentEpoch) (taken : List TakenEpoch) → AreAligned sent taken
    → Confirms (map taken_confirmed taken) (map sent_confirmed sent)
aligned_confirms [] [] a = nothing
aligned_confirms [] (t ∷ ts) a =
    drop_empty (empty-prefix (aligned_has a.0).begins (record { items = refl; interrupts = refl })) (aligned_confirms [] ts a.1)
aligned_confirms (s ∷ ss) [] a = skip (none_covered s a.0.covered) (aligned_confirms ss [] a.1)
aligned_confirms (s ∷ ss) (t ∷ ts) a = join (aligned_has a.0) (aligned_confirms ss ts a.1)

-- ---- nothing

pub nothing_confirms : (taken sent : List Confirmed) → AreEmpty taken → AreUnconfirmed sent → Confirms taken sent
nothing_confirms [] [] e u = nothing
nothing_confirms [] (f ∷ fs) e u = skip u.0 (nothing_confirms [] fs e u.1)
nothing_confirms (e ∷ es) sent h u = drop_empty h.0 (nothing_confirms es sent h.1 u)

-- ---- what follows

has_all : (t : TakenEpoch) → Has (all_taken t) (taken_confirmed t)
has_all t =
    let less = within 0 0 t.released t.packets (omega arith) in
    record { begins = prefix-refl (taken_epoch t); confirmed = omega arith }

all_confirm : (ts : List TakenEpoch) → Confirms (map all_taken ts) (map taken_confirmed ts)
all_confirm [] = nothing
all_confirm (t ∷ ts) = join (has_all t) (all_confirm ts)

pub confirmed_taken : ConfirmedIsTaken
confirmed_taken taken sent m = confirms_trans m (map all_taken taken) (all_confirm taken)

pub confirms_match : ConfirmsIsMatch
confirms_match [] [] nothing = none_match
confirms_match (e ∷ es) sent (drop_empty g m) = dropped g (confirms_match es sent m)
confirms_match (e ∷ es) (f ∷ sent) (join h m) = joined h.begins (confirms_match es sent m)
confirms_match es (f ∷ sent) (skip e m) = skipped (confirms_match es sent m)
