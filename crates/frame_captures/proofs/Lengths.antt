-- The block of a frame has the length that it says.
use Rattle.std.proofs.Common.{◌≡◌, ℕ, ◌+◌, ◌-◌, ◌%◌, List, [], ◌∷◌, ◌++◌, length, ap, ◌∙◌, append_assoc, length-append, arith}
use Rattle.std.specs.Prelude.{replicate, codes}
use Rattle.std.proofs.lemmas.List.{length-replicate}
use Rattle.frame_lines.specs.declared.line.Direction.{Direction}
use Rattle.trace_capture.specs.Capture.{packet, padded, comment}
use Rattle.frame_captures.specs.Capture.{padded_length, body_length, frame_body}

padded_is : (octets : List ℕ) (n : ℕ) → length octets ≡ n → length (padded octets) ≡ padded_length n
padded_is octets n is =
    length-append octets (replicate ((4 - length octets % 4) % 4) 0)
    ∙ ap (λ m. length octets + m) (length-replicate ((4 - length octets % 4) % 4) 0)
    ∙ ap padded_length is

packet_is : (d : Direction) (octets : List ℕ) → length (packet d octets) ≡ length octets + 20
packet_is d octets = omega arith

name_is : (digits : List ℕ) → length (codes "line " ++ digits) ≡ length digits + 5
name_is digits = omega arith

comment_is : (digits : List ℕ) → length (comment digits) ≡ padded_length (length digits + 5) + 8
comment_is digits =
    let name = padded_is (codes "line " ++ digits) (length digits + 5) (name_is digits) in
    let all = length-append (padded (codes "line " ++ digits)) (0 ∷ 0 ∷ 0 ∷ 0 ∷ []) in
    omega (arith, name, all)

pub body_is : (time : ℕ) (digits : List ℕ) (d : Direction) (octets : List ℕ)
    → length (frame_body time digits d octets) ≡ body_length (length digits) (length octets)
body_is time digits d octets =
    let first = padded_is (packet d octets) (length octets + 20) (packet_is d octets) in
    let second = comment_is digits in
    let both = length-append (padded (packet d octets)) (comment digits) in
    omega (arith, first, second, both)

-- ten pieces, one after the other
pub in_order : (old kind size none high low count packet comment : List ℕ) (a b c d e f g h i j : List ℕ)
    → a ≡ old ++ kind → b ≡ a ++ size → c ≡ b ++ none → d ≡ c ++ high → e ≡ d ++ low → f ≡ e ++ count → g ≡ f ++ count
    → h ≡ g ++ packet → i ≡ h ++ comment → j ≡ i ++ size
    → j ≡ old ++ (kind ++ (size ++ ((none ++ (high ++ (low ++ (count ++ (count ++ (packet ++ comment)))))) ++ size)))
in_order old kind size none high low count packet comment a b c d e f g h i j p q r s t u v w x y =
    y ∙ simp (x, w, v, u, t, s, r, q, p, append_assoc)
