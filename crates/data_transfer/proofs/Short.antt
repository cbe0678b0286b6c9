-- Packets that have at most so many octets.
use Rattle.std.proofs.Common.{◌≡◌, ℕ, ◌≤◌, leb-true, le-leb, true, List, [], ◌∷◌, ◌++◌, length, drop, Option, Some, None, refl, ap, subst}
use Rattle.std.specs.Prelude.{nat_le, slice_get}
use Rattle.std.proofs.lemmas.Bool.{and_from, and_parts}
use Rattle.std.proofs.lemmas.Option.{same_Some, none-some}
use Rattle.data_transfer.specs.Held.{are_short}
use Rattle.data_transfer.specs.Packets.{Datum}
use Rattle.data_transfer.specs.Traffic.{front_of}
use Rattle.data_transfer.specs.Traffic.Taken.{TakenPacket}

pub short_append : (size : ℕ) (ds : List Datum) (d : Datum) → are_short size ds ≡ true → length d.octets ≤ size →
    are_short size (ds ++ d ∷ []) ≡ true
short_append size [] d short le = and_from (nat_le (length d.octets) size) true (le-leb (length d.octets) size le) refl
short_append size (e ∷ ds) d short le =
    let both = and_parts (nat_le (length e.octets) size) (are_short size ds) short in
    and_from (nat_le (length e.octets) size) (are_short size (ds ++ d ∷ [])) both.0 (short_append size ds d both.1 le)

pub short_rest : (size : ℕ) (ds : List Datum) → are_short size ds ≡ true → are_short size (drop 1 ds) ≡ true
short_rest size [] short = refl
short_rest size (d ∷ ds) short = (and_parts (nat_le (length d.octets) size) (are_short size ds) short).1

pub short_first : (size : ℕ) (ds : List Datum) (d : Datum) → slice_get ds 0 ≡ Some d → are_short size ds ≡ true →
    length d.octets ≤ size
short_first size [] d first short = absurd (none-some d first)
short_first size (e ∷ ds) d first short =
    subst (λ (x : Datum). length x.octets ≤ size) (same_Some e d first)
    (leb-true (length e.octets) size (and_parts (nat_le (length e.octets) size) (are_short size ds) short).0)

-- what comes next on a call
pub front_short : (size : ℕ) (interrupt : Option (List ℕ)) (ds : List Datum) (d : Datum) →
    front_of interrupt ds ≡ Some (TakenPacket d) → are_short size ds ≡ true → length d.octets ≤ size
front_short size (Some octets) ds d first short = cc
front_short size None [] d first short = cc
front_short size None (e ∷ ds) d first short = short_first size (e ∷ ds) d (let same : e ≡ d = cc in ap Some same) short
