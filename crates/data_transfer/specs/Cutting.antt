-- A packet cut into packets of a smaller size (X.25 4.3.4).
use Rattle.std.specs.Prelude.{ℕ, zero, suc, ◌-◌, ◌/◌, true, false, List, [], ◌∷◌, length, take, drop}
use Rattle.data_transfer.specs.Packets.{Datum}

-- how many full packets go before the last one, which has the rest: of no octets, too, there is one
abbrev pub full_packets : (size : ℕ) → List ℕ → ℕ
full_packets size octets = (length octets - 1) / size

-- full packets say by M = 1 that the message goes on; the last one has M and D of the whole; Q is on all
abbrev pub cut_after : (full size : ℕ) → Datum → List Datum
cut_after zero size d = d ∷ []
cut_after (suc full) size d =
    record d { octets = take size d.octets; more = true; delivery = false }
    ∷ cut_after full size (record d { octets = drop size d.octets })

abbrev pub cut : (size : ℕ) → Datum → List Datum
cut size d = cut_after (full_packets size d.octets) size d
