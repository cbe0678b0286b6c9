-- The laws of matching.
use Rattle.std.proofs.Common.{List, [], ◌∷◌, ◌++◌, refl}
use Rattle.std.specs.Prelude.{map}
use Rattle.epochs.specs.Epoch.{Epoch, SentEpoch, TakenEpoch, IsPrefixOf, IsEmpty, IsAligned, AreAligned, sent_epoch, taken_epoch}
use Rattle.epochs.specs.Match.{Match}
use Rattle.epochs.specs.Match.Match.{nothing, drop_empty, join, skip}
use Rattle.epochs.proofs.Prefixes.{prefix-refl, prefix-trans, empty-prefix, all_items-prefix}

pub match-refl : (es : List Epoch) → Match es es
match-refl [] = nothing
match-refl (e ∷ es) = join (prefix-refl e) (match-refl es)

-- Transitivity: by recursion on the second matching, with one walk along the first for each of its constructors.
through_drop : {xs ys : List Epoch} {y : Epoch} → IsEmpty y → Match xs (y ∷ ys) → Match xs ys
through_drop h nothing = nothing
through_drop h (drop_empty g m) = drop_empty g (through_drop h m)
through_drop h (join p m) = drop_empty (empty-prefix p h) m
through_drop h (skip m) = m

through_join : {xs ys zs : List Epoch} {y z : Epoch} → IsPrefixOf y z → ((ws : List Epoch) → Match ws ys → Match ws zs) → Match xs (y ∷ ys) → Match xs (z ∷ zs)
through_join h k nothing = nothing
through_join h k (drop_empty g m) = drop_empty g (through_join h k m)
through_join h k (join {taken = ts} p m) = join (prefix-trans p h) (k ts m)
through_join {xs} h k (skip m) = skip (k xs m)

pub match-trans : {ys zs : List Epoch} → Match ys zs → (xs : List Epoch) → Match xs ys → Match xs zs
match-trans nothing xs m = only_empty xs m where
  only_empty : {zs : List Epoch} (xs : List Epoch) → Match xs [] → Match xs zs
  only_empty [] m = nothing
  only_empty (x ∷ xs) (drop_empty g m) = drop_empty g (only_empty xs m)
match-trans (drop_empty h n) xs m = match-trans n xs (through_drop h m)
match-trans (join h n) xs m = through_join h (match-trans n) m
match-trans (skip n) xs m = skip (match-trans n xs m)

-- What the sender adds to its last epoch, or opens, keeps a match.
grown : (sent : List Epoch) (f g : Epoch) → IsPrefixOf f g → Match (sent ++ f ∷ []) (sent ++ g ∷ [])
grown [] f g p = join p nothing
grown (s ∷ ss) f g p = join (prefix-refl s) (grown ss f g p)

pub match-grows : (taken sent : List Epoch) (f g : Epoch) → IsPrefixOf f g → Match taken (sent ++ f ∷ []) → Match taken (sent ++ g ∷ [])
match-grows taken sent f g p m = match-trans (grown sent f g p) taken m

opened : (sent : List Epoch) (f : Epoch) → Match sent (sent ++ f ∷ [])
opened [] f = nothing
opened (s ∷ ss) f = join (prefix-refl s) (opened ss f)

pub match-opens : (taken sent : List Epoch) (f : Epoch) → Match taken sent → Match taken (sent ++ f ∷ [])
match-opens taken sent f m = match-trans (opened sent f) taken m

only_this : {sent : List Epoch} (e : Epoch) → IsEmpty e → Match (e ∷ []) sent
only_this e h = drop_empty h nothing

both_opened : {taken all : List Epoch} (e : Epoch) → IsEmpty e → Match taken all → Match (taken ++ e ∷ []) all
both_opened e h nothing = only_this e h
both_opened e h (drop_empty g m) = drop_empty g (both_opened e h m)
both_opened e h (join p m) = join p (both_opened e h m)
both_opened e h (skip m) = skip (both_opened e h m)

pub match-both_open : (taken sent : List Epoch) (e f : Epoch) → IsEmpty e → Match taken sent → Match (taken ++ e ∷ []) (sent ++ f ∷ [])
match-both_open taken sent e f h m = both_opened e h (match-opens taken sent f m)

-- Lists that are aligned match.
aligned-prefix : {s : SentEpoch} {t : TakenEpoch} → IsAligned s t → IsPrefixOf (taken_epoch t) (sent_epoch s)
aligned-prefix a = record { items = all_items-prefix a.packets; interrupts = a.interrupts }

pub aligned-match : (sent : List SentEpoch) (taken : List TakenEpoch) → AreAligned sent taken → Match (map taken_epoch taken) (map sent_epoch sent)
aligned-match [] [] a = nothing
aligned-match [] (t ∷ ts) a =
    drop_empty (empty-prefix (aligned-prefix a.0) (record { items = refl; interrupts = refl })) (aligned-match [] ts a.1)
aligned-match (s ∷ ss) [] a = nothing
aligned-match (s ∷ ss) (t ∷ ts) a = join (aligned-prefix a.0) (aligned-match ss ts a.1)
