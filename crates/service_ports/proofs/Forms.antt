-- What text becomes, octet by octet.
use Rattle.std.proofs.Common.{◌≡◌, ℕ, ◌+◌, ◌*◌, ◌≤◌, Bool, true, false, List, [], ◌∷◌, eqb, length, arith, append_assoc, append-nil, length-append, ap, ◌∙◌, drop, get_or, ◌<◌, suc, add-one, drop-cons}
use Rattle.std.proofs.lemmas.Bool.Decides.{nat_tests}
use Rattle.service_ports.specs.Writing.{Output, octet_form, text_form, with_text}

-- the NUL that a CR may still need
abbrev pub owed : Bool → ℕ
owed true = 1
owed false = 0

-- an octet has two octets at most, besides that NUL
pub octet_form-bounded : (after : Bool) (x : ℕ) → length (octet_form after x) + owed (eqb x 13) ≤ 2 + owed after
octet_form-bounded true x = grind (arith, nat_tests)
octet_form-bounded false x = grind (arith, nat_tests)

-- text has two octets for each of its own at most, besides that NUL
pub text_form-bounded : (after : Bool) (xs : List ℕ) → length (text_form after xs) ≤ 2 * length xs + owed after
text_form-bounded after [] = omega arith
text_form-bounded after (x ∷ xs) =
    omega (arith, octet_form-bounded after x, text_form-bounded (eqb x 13) xs, length-append (octet_form after x) (text_form (eqb x 13) xs))

-- the octets of an octet and of what follows it
pub with_text-cons : (o : Output) (x : ℕ) (xs : List ℕ) → with_text (with_text o (x ∷ [])) xs ≡ with_text o (x ∷ xs)
with_text-cons o x xs = simp (append_assoc, append-nil)

pub owed-bounded : (after : Bool) → owed after ≤ 1
owed-bounded true = omega arith
owed-bounded false = omega arith

-- the room for what is left is room for its first octet, and then for the rest
pub room_for_first : (after : Bool) (text : List ℕ) (i used most : ℕ) → i < length text
    → used + length (text_form after (drop i text)) ≤ most → used + length (octet_form after (get_or text i 0)) ≤ most
room_for_first after text i used most within room =
    let room' = rw (drop-cons text i 0 within) at room in
    omega (arith, room', length-append (octet_form after (get_or text i 0)) (text_form (eqb (get_or text i 0) 13) (drop (suc i) text)))

-- a text that is written from an octet on is written from the next one on
pub record IsLeft (o whole : Output) (rest : List ℕ) : Type 0 where
  pub same : with_text o rest ≡ whole
  pub room : length o.octets + length (text_form o.after_return rest) ≤ o.capacity

pub left-cons : (o whole : Output) (x : ℕ) (rest : List ℕ) → IsLeft o whole (x ∷ rest) → IsLeft (with_text o (x ∷ [])) whole rest
left-cons o whole x rest left = record {
  same = with_text-cons o x rest ∙ left.same;
  room = omega (arith, left.room, ap (λ w. length w.octets) (with_text-cons o x rest), length-append o.octets (text_form o.after_return (x ∷ rest)), length-append (with_text o (x ∷ [])).octets (text_form (eqb x 13) rest));
}

pub left_more : (o whole next : Output) (text : List ℕ) (i : ℕ) → i < length text → IsLeft o whole (drop i text)
    → next ≡ with_text o (get_or text i 0 ∷ []) → IsLeft next whole (drop (i + 1) text)
left_more o whole next text i within left is =
    let left' = rw (drop-cons text i 0 within) at left in
    rw (is, add-one) (left-cons o whole (get_or text i 0) (drop (suc i) text) left')
