-- Keys and their events.
use Rattle.std.proofs.Common.{◌≡◌, ℕ, zero, suc, ◌<◌, List, [], ◌∷◌, length, get_or, refl, sym, ap, ◌∙◌, arith}
use Rattle.std.proofs.lemmas.List.{length-map, get_or-map}
use Rattle.net_player.specs.Playing.{key_event, key_events}

-- the event of a key stands among the events where its octet stands among the octets
pub key_within : (node terminal : ℕ) (octets : List ℕ) (at : ℕ) → at < length octets → at < length (key_events node terminal octets)
key_within node terminal octets at within = omega (arith, within, length-map octets (key_event node terminal))

pub key_there : (node terminal : ℕ) (octets : List ℕ) (at octet : ℕ) → at < length octets → octet ≡ get_or octets at octet
    → key_event node terminal octet ≡ get_or (key_events node terminal octets) at (key_event node terminal octet)
key_there node terminal octets at octet within there =
    ap (key_event node terminal) there
    ∙ sym (get_or-map (key_event node terminal) octets at octet (key_event node terminal octet) within)

pub own_or : (xs : List ℕ) (i d : ℕ) → i < length xs → get_or xs i d ≡ get_or xs i (get_or xs i d)
own_or [] i d within = absurd (let no : ⊥ = omega arith in no)
own_or (x ∷ xs) zero d within = refl
own_or (x ∷ xs) (suc i) d within = own_or xs i d (omega arith)
