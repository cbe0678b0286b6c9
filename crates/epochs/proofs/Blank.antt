-- Lists with nothing in them are one epoch in which nothing passed.
use Rattle.std.proofs.Common.{◌≡◌, ℕ, List, [], ◌∷◌, length, refl, arith}
use Rattle.epochs.specs.Item.{DataPacket}
use Rattle.epochs.specs.Passed.{first_epoch}
use Rattle.epochs.specs.EpochEnds.{epochs_of}
use Rattle.epochs.specs.declared.passed.EpochEnd.{EpochEnd}

none : {A : Type 0} (xs : List A) → length xs ≡ 0 → xs ≡ []
none [] e = refl
none (x ∷ xs) e = absurd (omega (arith, e))

pub nothing_passed : (ends : List EpochEnd) (counted : ℕ) (packets : List DataPacket) (interrupts : List (List ℕ)) →
    length ends ≡ 0 → counted ≡ 0 → length packets ≡ 0 → length interrupts ≡ 0 →
    epochs_of ends counted packets interrupts ≡ first_epoch
nothing_passed ends counted packets interrupts no_ends none_counts no_packets no_interrupts =
    rw (none ends no_ends, none_counts, none packets no_packets, none interrupts no_interrupts) refl
