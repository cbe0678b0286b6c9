-- How octets stand in a text, run by run.
use Rattle.std.proofs.Common.{◌≡◌, ℕ, Bool, true, false, not, ◌&&◌, ◌==◌, nat_le, nat_lt, List, [], ◌∷◌, ◌++◌, refl, ap, sym, ◌∙◌, append_assoc}
use Rattle.std.specs.List.{flat_map, list_all}
use Rattle.std.proofs.lemmas.Bool.{not-true}
use Rattle.answer_texts.specs.Answers.{shown, is_plain}

both_true : (a b : Bool) → a && b ≡ true → (a ≡ true) × (b ≡ true)
both_true true b h = (refl, h)
both_true false b h = cc

-- octets that stand for themselves are shown as they are
pub plain_shown : (octets : List ℕ) → list_all is_plain octets ≡ true → flat_map shown octets ≡ octets
plain_shown [] h = refl
plain_shown (octet ∷ octets) h =
    let parts = both_true (is_plain octet) (list_all is_plain octets) h in
    let plain = both_true (nat_le 32 octet && nat_lt octet 127) (not (octet == 92)) parts.0 in
    rw (not-true _ plain.1, plain.0, plain_shown octets parts.1) refl

pub shown_append : (front rest : List ℕ) → flat_map shown (front ++ rest) ≡ flat_map shown front ++ flat_map shown rest
shown_append [] rest = refl
shown_append (octet ∷ front) rest =
    ap (λ (xs : List ℕ). shown octet ++ xs) (shown_append front rest) ∙ sym (append_assoc (shown octet) (flat_map shown front) (flat_map shown rest))
