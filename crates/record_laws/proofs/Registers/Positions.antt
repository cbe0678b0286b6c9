-- The places at which a list of lines has a line.
use Rattle.std.proofs.Common.{◌≡◌, ◌≢◌, ℕ, zero, suc, ◌<◌, ◌+◌, Bool, true, false, ◌==◌, List, [], ◌∷◌, ◌++◌, length, Some, refl, ap, subst, ◌∙◌, arith}
use Rattle.std.specs.Prelude.{slice_get, if◌then◌else◌}
use Rattle.std.proofs.lemmas.Option.{none-some, same_Some}
use Rattle.std.proofs.lemmas.Bool.{eq-eqb, eqb-true, ne_eqb}
use Rattle.record_laws.proofs.Books.Basics.{by_true, by_false}
use Rattle.record_laws.specs.Registers.Seen.{positions_from, positions}

-- a place of the list, counted from its first
pub record IsPlace (place line : ℕ) (owners : List ℕ) (n : ℕ) : Type 0 where
  pub offset : ℕ
  pub is : n ≡ place + offset
  pub there : slice_get owners offset ≡ Some line

-- ---- each number of the list of places is one, and they rise

further : (place line owner : ℕ) (owners : List ℕ) (n : ℕ) → IsPlace (suc place) line owners n → IsPlace place line (owner ∷ owners) n
further place line owner owners n p =
    let is : n ≡ suc place + p.offset = p.is in
    record { offset = suc p.offset; is = omega arith; there = p.there }

is_place_by : (here : Bool) (place line owner : ℕ) (owners : List ℕ) (i n : ℕ) → (owner == line) ≡ here
    → ((k m : ℕ) → slice_get (positions_from (suc place) line owners) k ≡ Some m → IsPlace (suc place) line owners m)
    → slice_get (if here then place ∷ positions_from (suc place) line owners else positions_from (suc place) line owners) i ≡ Some n
    → IsPlace place line (owner ∷ owners) n
is_place_by true place line owner owners zero n e rest h =
    let same : place ≡ n = same_Some place n h in
    record { offset = 0; is = omega arith; there = ap (λ (k : ℕ). Some k) (eqb-true owner line e) }
is_place_by true place line owner owners (suc i) n e rest h = further place line owner owners n (rest i n h)
is_place_by false place line owner owners i n e rest h = further place line owner owners n (rest i n h)

pub is_place_from : (place line : ℕ) (owners : List ℕ) (i n : ℕ) → slice_get (positions_from place line owners) i ≡ Some n → IsPlace place line owners n
is_place_from place line [] i n h = absurd (none-some n h)
is_place_from place line (owner ∷ owners) i n h =
    is_place_by (owner == line) place line owner owners i n refl (λ k m. is_place_from (suc place) line owners k m) h

pub is_place : (line : ℕ) (owners : List ℕ) (i n : ℕ) → slice_get (positions line owners) i ≡ Some n → slice_get owners n ≡ Some line
is_place line owners i n h =
    let p : IsPlace 0 line owners n = is_place_from 0 line owners i n h in
    let is : n ≡ 0 + p.offset = p.is in
    let same : p.offset ≡ n = omega arith in
    subst (λ (k : ℕ). slice_get owners k ≡ Some line) same p.there

rises_by : (here : Bool) (place line : ℕ) (owners : List ℕ) (i j m n : ℕ)
    → ((a b : ℕ) → slice_get (positions_from (suc place) line owners) a ≡ Some m → slice_get (positions_from (suc place) line owners) b ≡ Some n → a < b → m < n)
    → slice_get (if here then place ∷ positions_from (suc place) line owners else positions_from (suc place) line owners) i ≡ Some m
    → slice_get (if here then place ∷ positions_from (suc place) line owners else positions_from (suc place) line owners) j ≡ Some n
    → i < j → m < n
rises_by true place line owners i zero m n rest p q less = absurd (omega arith)
rises_by true place line owners zero (suc j) m n rest p q less =
    let r : IsPlace (suc place) line owners n = is_place_from (suc place) line owners j n q in
    let is : n ≡ suc place + r.offset = r.is in
    let same : place ≡ m = same_Some place m p in
    omega arith
rises_by true place line owners (suc i) (suc j) m n rest p q less = rest i j p q (omega arith)
rises_by false place line owners i j m n rest p q less = rest i j p q less

pub rises_from : (place line : ℕ) (owners : List ℕ) (i j m n : ℕ) → slice_get (positions_from place line owners) i ≡ Some m → slice_get (positions_from place line owners) j ≡ Some n → i < j → m < n
rises_from place line [] i j m n p q less = absurd (none-some m p)
rises_from place line (owner ∷ owners) i j m n p q less =
    rises_by (owner == line) place line owners i j m n (λ a b. rises_from (suc place) line owners a b m n) p q less

-- ---- each place of the line is in the list of places

pub record IsNth (numbers : List ℕ) (n : ℕ) : Type 0 where
  pub place : ℕ
  pub there : slice_get numbers place ≡ Some n

later : (here : Bool) (place : ℕ) (rest : List ℕ) (n : ℕ) → IsNth rest n → IsNth (if here then place ∷ rest else rest) n
later true place rest n p = record { place = suc p.place; there = p.there }
later false place rest n p = p

pub place_of_from : (place line : ℕ) (owners : List ℕ) (offset : ℕ) → slice_get owners offset ≡ Some line → IsNth (positions_from place line owners) (place + offset)
place_of_from place line [] offset h = absurd (none-some line h)
place_of_from place line (owner ∷ owners) zero h =
    let here : (owner == line) ≡ true = eq-eqb owner line (same_Some owner line h) in
    let rest : List ℕ = positions_from (suc place) line owners in
    let same : place ≡ place + 0 = omega arith in
    record {
      place = 0;
      there = ap (λ (ns : List ℕ). slice_get ns 0) (by_true (owner == line) (place ∷ rest) rest here) ∙ ap (λ (k : ℕ). Some k) same;
    }
place_of_from place line (owner ∷ owners) (suc offset) h =
    let same : suc place + offset ≡ place + suc offset = omega arith in
    later (owner == line) place (positions_from (suc place) line owners) (place + suc offset)
    (subst (λ (n : ℕ). IsNth (positions_from (suc place) line owners) n) same (place_of_from (suc place) line owners offset h))

pub place_of : (line : ℕ) (owners : List ℕ) (n : ℕ) → slice_get owners n ≡ Some line → IsNth (positions line owners) n
place_of line owners n h =
    let same : 0 + n ≡ n = omega arith in
    subst (λ (k : ℕ). IsNth (positions line owners) k) same (place_of_from 0 line owners n h)

-- ---- one more at the end

moved : (here : Bool) (n : ℕ) (rest more : List ℕ) → (if here then n ∷ (rest ++ more) else (rest ++ more)) ≡ (if here then n ∷ rest else rest) ++ more
moved true n rest more = refl
moved false n rest more = refl

pub here_from : (place line : ℕ) (owners : List ℕ) → positions_from place line (owners ++ line ∷ []) ≡ positions_from place line owners ++ (place + length owners) ∷ []
here_from place line [] =
    let same : place ≡ place + 0 = omega arith in
    by_true (line == line) (place ∷ []) [] (eq-eqb line line refl) ∙ ap (λ (n : ℕ). n ∷ []) same
here_from place line (owner ∷ owners) =
    let same : suc place + length owners ≡ place + suc (length owners) = omega arith in
    ap (λ (rest : List ℕ). if owner == line then place ∷ rest else rest) (here_from (suc place) line owners ∙ ap (λ (n : ℕ). positions_from (suc place) line owners ++ n ∷ []) same)
    ∙ moved (owner == line) place (positions_from (suc place) line owners) ((place + suc (length owners)) ∷ [])

pub one_here : (line : ℕ) (owners : List ℕ) → positions line (owners ++ line ∷ []) ≡ positions line owners ++ length owners ∷ []
one_here line owners =
    let same : 0 + length owners ≡ length owners = omega arith in
    here_from 0 line owners ∙ ap (λ (n : ℕ). positions line owners ++ n ∷ []) same

elsewhere_from : (place line other : ℕ) (owners : List ℕ) → other ≢ line → positions_from place line (owners ++ other ∷ []) ≡ positions_from place line owners
elsewhere_from place line other [] h = by_false (other == line) (place ∷ []) [] (ne_eqb other line h)
elsewhere_from place line other (owner ∷ owners) h =
    ap (λ (rest : List ℕ). if owner == line then place ∷ rest else rest) (elsewhere_from (suc place) line other owners h)

pub one_elsewhere : (line other : ℕ) (owners : List ℕ) → other ≢ line → positions line (owners ++ other ∷ []) ≡ positions line owners
one_elsewhere line other owners h = elsewhere_from 0 line other owners h
