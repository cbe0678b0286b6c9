-- What a port heard, octet by octet.
use Rattle.std.proofs.Common.{◌≡◌, ℕ, ◌+◌, ◌<◌, List, [], ◌∷◌, ◌++◌, refl, take, get_or, length, ap, sym, ◌∙◌}
use Rattle.std.proofs.lemmas.List.{take_more}
use Rattle.service_ports.specs.Ports.{PortState, after_octet, after_octets}

-- the last octet comes after all others
pub after_octets-push : (port : PortState) (xs : List ℕ) (x : ℕ) → after_octets port (xs ++ x ∷ []) ≡ after_octet (after_octets port xs) x
after_octets-push port [] x = refl
after_octets-push port (y ∷ xs) x = after_octets-push (after_octet port y) xs x

pub after_octets-more : (port : PortState) (xs : List ℕ) (i : ℕ) → i < length xs
    → after_octets port (take (i + 1) xs) ≡ after_octet (after_octets port (take i xs)) (get_or xs i 0)
after_octets-more port xs i within =
    rw (take_more xs i 0 within) (after_octets-push port (take i xs) (get_or xs i 0))

pub heard_more : (before now next : PortState) (xs : List ℕ) (i : ℕ) → i < length xs → now ≡ after_octets before (take i xs)
    → next ≡ after_octet now (get_or xs i 0) → next ≡ after_octets before (take (i + 1) xs)
heard_more before now next xs i within so_far is =
    is ∙ ap (λ port. after_octet port (get_or xs i 0)) so_far ∙ sym (after_octets-more before xs i within)
