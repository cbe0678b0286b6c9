-- What a list of pairs makes of the settings, one pair after the other.
use Rattle.std.proofs.Common.{◌≡◌, ℕ, ◌+◌, ◌<◌, List, [], length, take, get_or, refl}
use Rattle.std.proofs.lemmas.List.Sums.{fold_more}
use Rattle.pad_terminal.specs.Settings.{one_more, after_pairs}
use Rattle.pad_terminal.specs.declared.settings.Settings.{Settings}

-- one pair more
pub pairs_more : (pairs : List (ℕ × ℕ)) (s : Settings) (i : ℕ) (d : ℕ × ℕ) → i < length pairs →
    after_pairs (take (i + 1) pairs) s ≡ one_more (after_pairs (take i pairs) s) (get_or pairs i d)
unfolding after_pairs
pairs_more pairs s i d lt = fold_more one_more _ pairs i d lt

-- no pairs
pub pairs_none : (s : Settings) → after_pairs [] s ≡ record { settings = s; report = [] }
unfolding after_pairs
pairs_none s = refl
