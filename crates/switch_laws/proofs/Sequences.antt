-- What ends a sequence of packets leaves nothing gathered, and no packet but the last that is made due has D = 1.
use Rattle.std.proofs.Common.{◌≡◌, ℕ, zero, suc, ◌+◌, ◌<◌, ◌⊎◌, inl, inr, Bool, true, false, not, ◌&&◌, ◌==◌, if◌then◌else◌, List, [], ◌∷◌, ◌++◌, length, drop, refl, sym, ap, subst, append-nil, nat_le, nat_lt, arith, true≢false}
use Rattle.std.proofs.lemmas.Bool.{eqb-true}
use Rattle.data_transfer.specs.Packets.{Datum}
use Rattle.data_transfer.specs.Cutting.{full_packets, cut_after, cut}
use Rattle.switch_joins.specs.Turning.{Sizes, Gathered, nothing_gathered, all_made, going_on, flushed, same_bit, is_full, joined, turned}
use Rattle.switch_laws.specs.Clause.{EndsSequence, OnlyLast}

not_full : (near : ℕ) (d : Datum) → EndsSequence near d → is_full near d ≡ false
not_full near d (inl more) = ap (λ (m : Bool). (m && not d.delivery) && (length d.octets == near)) more
not_full near d (inr (inl delivery)) = by d.more d.delivery delivery
  where
    by : (m e : Bool) → e ≡ true → ((m && not e) && (length d.octets == near)) ≡ false
    by true true h = refl
    by false e h = refl
    by true false h = cc
not_full near d (inr (inr short)) = by (d.more && not d.delivery) (length d.octets == near) refl
  where
    by : (m b : Bool) → (length d.octets == near) ≡ b → (m && b) ≡ false
    by false b h = refl
    by true false h = refl
    by true true h = let same = eqb-true (length d.octets) near h in absurd (omega (arith, same, short))

joined_ends : (s : Sizes) (before : List Datum) (octets : List ℕ) (d : Datum) → is_full s.near d ≡ false
    → (joined s before octets d).left ≡ nothing_gathered
joined_ends s before octets d e =
    ap (λ (b : Bool).
    (if b && nat_le (length octets + s.near) s.far
    then record { made = before; left = record { octets = octets; qualified = d.qualified } }
    else all_made (before ++ record d { octets = octets } ∷ [])).left) e

pub turned_ends : (s : Sizes) (g : Gathered) (d : Datum) → EndsSequence s.near d → (turned s g d).left ≡ nothing_gathered
turned_ends s g d ends =
    by ((s.near == s.far) && (length g.octets == 0)) (nat_lt s.far (length (g.octets ++ d.octets))) (same_bit g.qualified d.qualified)
  where
    by : (a b c : Bool)
        → (if a then all_made (d ∷ [])
        else if b then all_made (flushed g ++ cut s.far d)
        else if c then joined s [] (g.octets ++ d.octets) d
        else joined s (flushed g) d.octets d).left ≡ nothing_gathered
    by true b c = refl
    by false true c = refl
    by false false true = joined_ends s [] (g.octets ++ d.octets) d (not_full s.near d ends)
    by false false false = joined_ends s (flushed g) d.octets d (not_full s.near d ends)

-- ---- D

flushed_only : (g : Gathered) (delivery : Bool) (ds : List Datum) → OnlyLast delivery ds → OnlyLast delivery (flushed g ++ ds)
flushed_only g delivery ds only = by (length g.octets == 0)
  where
    by : (b : Bool) → OnlyLast delivery ((if b then [] else going_on g ∷ []) ++ ds)
    by true = only
    by false = (λ e. absurd (true≢false (sym e)), only)

cut_only : (full size : ℕ) (d : Datum) → OnlyLast d.delivery (cut_after full size d)
cut_only zero size d = (λ e. (refl, e), tt)
cut_only (suc full) size d = (λ e. absurd (true≢false (sym e)), cut_only full size (record d { octets = drop size d.octets }))

joined_only : (s : Sizes) (before : List Datum) (octets : List ℕ) (d : Datum)
    → ((ds : List Datum) → OnlyLast d.delivery ds → OnlyLast d.delivery (before ++ ds)) → OnlyLast d.delivery (joined s before octets d).made
joined_only s before octets d behind = by (is_full s.near d && nat_le (length octets + s.near) s.far)
  where
    by : (b : Bool)
        → OnlyLast d.delivery (if b then record { made = before; left = record { octets = octets; qualified = d.qualified } }
        else all_made (before ++ record d { octets = octets } ∷ [])).made
    by true = subst (λ (ds : List Datum). OnlyLast d.delivery ds) (append-nil before) (behind [] tt)
    by false = behind (record d { octets = octets } ∷ []) (λ e. (refl, e), tt)

pub turned_only : (s : Sizes) (g : Gathered) (d : Datum) → OnlyLast d.delivery (turned s g d).made
turned_only s g d =
    by ((s.near == s.far) && (length g.octets == 0)) (nat_lt s.far (length (g.octets ++ d.octets))) (same_bit g.qualified d.qualified)
  where
    by : (a b c : Bool)
        → OnlyLast d.delivery (if a then all_made (d ∷ [])
        else if b then all_made (flushed g ++ cut s.far d)
        else if c then joined s [] (g.octets ++ d.octets) d
        else joined s (flushed g) d.octets d).made
    by true b c = (λ e. (refl, e), tt)
    by false true c = flushed_only g d.delivery (cut s.far d) (cut_only (full_packets s.far d.octets) s.far d)
    by false false true = joined_only s [] (g.octets ++ d.octets) d (λ ds only. only)
    by false false false = joined_only s (flushed g) d.octets d (flushed_only g d.delivery)
