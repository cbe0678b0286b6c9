-- Plans by lengths: what they make is what becomes of the packet, how many packets that is, and whether they are short.
use mir.Val.{bool_byte}
use Rattle.std.proofs.Common.{◌≡◌, ℕ, suc, ◌+◌, ◌-◌, ◌/◌, ◌<◌, ◌≤◌, ◌⊎◌, inl, inr, Bool, true, false, not, ◌&&◌, ◌||◌, ◌==◌, if◌then◌else◌, List, [], ◌∷◌, ◌++◌, length, drop, refl, sym, ap, ap₂, ◌∙◌, arith, true≢false, length-append, max}
use Rattle.std.specs.Prelude.{nat_le, nat_lt}
use Rattle.std.proofs.lemmas.Bool.{leb-true, leb-false, le-leb, lt-leb, eqb-true, eq-eqb}
use Rattle.std.proofs.lemmas.List.{append-nil}
use Rattle.std.proofs.Math.Seq.{drop-length}
use Rattle.std.proofs.Math.Bool.{and-true, or-false}
use Rattle.epochs.specs.Item.{DataPacket}
use Rattle.data_transfer.specs.Held.{are_short}
use Rattle.data_transfer.specs.Cutting.{full_packets, cut}
use Rattle.switch_joins.specs.Turning.{Sizes, Gathered, nothing_gathered, Turn, all_made, going_on, flushed, same_bit, is_full, joined, turned}
use Rattle.switch_joins.specs.Plan.{outline_of, goes_first, rest_length, waits, plan_for, rest_of, planned}
use Rattle.switch_joins.specs.declared.plan.Outline.{Outline}
use Rattle.switch_joins.specs.declared.plan.Plan.{Plan}
use Rattle.switch_joins.proofs.Apart.{decided, and_both}
use Rattle.switch_joins.proofs.Cut.{cut_whole, cut_short, cut_count}

-- ---- nothing is gathered

no_octets : (octets others : List ℕ) → length octets ≡ 0 → octets ++ others ≡ others
no_octets [] others e = refl
no_octets (x ∷ xs) others e = absurd (omega (arith, e))

-- what is gathered goes first or stands in the rest: where nothing is, that is one
rest_alone : (first : Bool) (g : Gathered) (d : DataPacket) → length g.octets ≡ 0 → rest_of first g d ≡ d
rest_alone true g d e = refl
rest_alone false g d e = ap (λ octets. record d { octets = octets }) (no_octets g.octets d.octets e)

-- ---- a plan makes what becomes of the packet

-- the rest waits, or goes as one packet
one_rest : (size : ℕ) (before : List DataPacket) (waits : Bool) (d : DataPacket) → length d.octets ≤ size →
    record {
      made = before ++ (if waits then [] else cut size d);
      left = if waits then record { octets = d.octets; qualified = d.qualified } else nothing_gathered;
    }
    ≡ (if waits then record { made = before; left = record { octets = d.octets; qualified = d.qualified } }
    else all_made (before ++ d ∷ []))
one_rest size before true d le = ap (λ ds. record { made = ds; left = record { octets = d.octets; qualified = d.qualified } }) (append-nil before)
one_rest size before false d le = ap (λ ds. all_made (before ++ ds)) (cut_whole size d le)

-- lines of one size, with nothing gathered
planned_whole : (s : Sizes) (g : Gathered) (d : DataPacket) → ((s.near == s.far) && (length g.octets == 0)) ≡ true →
    planned (plan_for s (length g.octets) g.qualified (outline_of d)) g d ≡ turned s g d
planned_whole s g d whole =
    let empty = eqb-true (length g.octets) 0 (and_both (s.near == s.far) (length g.octets == 0) whole).1 in
    let size = max (length d.octets) 1 in
    rw whole
    (ap (λ ds. all_made ds) (ap (λ e. cut size e) (rest_alone false g d empty) ∙ cut_whole size d (omega arith)))

-- the packet does not fit behind what is gathered
planned_over : (s : Sizes) (g : Gathered) (d : DataPacket) → ((s.near == s.far) && (length g.octets == 0)) ≡ false →
    s.far < length (g.octets ++ d.octets) →
    planned (plan_for s (length g.octets) g.qualified (outline_of d)) g d ≡ turned s g d
planned_over s g d whole over =
    let all = length-append g.octets d.octets in
    let fits = lt-leb (length g.octets + length d.octets) s.far (omega (arith, over, all)) in
    let long = le-leb (suc s.far) (length (g.octets ++ d.octets)) (omega (arith, over)) in
    rw (whole, fits, long) (by_length (decided (nat_lt 0 (length g.octets))))
  where
    by_length : (nat_lt 0 (length g.octets) ≡ true) ⊎ (nat_lt 0 (length g.octets) ≡ false) →
        planned (record { gathered_first = nat_lt 0 (length g.octets) && true; rest_waits = false; size = s.far }) g d
        ≡ all_made (flushed g ++ cut s.far d)
    by_length (inl some) = rw some refl
    by_length (inr none) =
        let empty : length g.octets ≡ 0 = omega (arith, leb-false 1 (length g.octets) none) in
        rw (none, eq-eqb (length g.octets) 0 empty) (ap (λ e. all_made (cut s.far e)) (rest_alone false g d empty))

-- it fits, and has the same Q
planned_same : (s : Sizes) (g : Gathered) (d : DataPacket) → ((s.near == s.far) && (length g.octets == 0)) ≡ false →
    length (g.octets ++ d.octets) ≤ s.far → same_bit g.qualified d.qualified ≡ true →
    planned (plan_for s (length g.octets) g.qualified (outline_of d)) g d ≡ turned s g d
planned_same s g d whole fit same =
    let all = length-append g.octets d.octets in
    let fits = le-leb (length g.octets + length d.octets) s.far (omega (arith, fit, all)) in
    let short = lt-leb (suc s.far) (length (g.octets ++ d.octets)) (omega (arith, fit)) in
    rw (whole, fits, short, same) (by_length (nat_lt 0 (length g.octets)))
  where
    as_one : planned (record {
      gathered_first = false;
      rest_waits = is_full s.near d && nat_le (length g.octets + length d.octets + s.near) s.far;
      size = s.far;
    }) g d
        ≡ joined s [] (g.octets ++ d.octets) d
    as_one =
        rw (← length-append g.octets d.octets)
        (one_rest s.far [] (is_full s.near d && nat_le (length (g.octets ++ d.octets) + s.near) s.far)
        (record d { octets = g.octets ++ d.octets }) fit)

    by_length : (b : Bool) →
        planned (record {
          gathered_first = b && false;
          rest_waits =
              is_full s.near d
              && nat_le (rest_length (b && false) (length g.octets) (length d.octets) + s.near) s.far;
          size = s.far;
        }) g d
        ≡ joined s [] (g.octets ++ d.octets) d
    by_length true = as_one
    by_length false = as_one

-- it fits, and has another Q
planned_other : (s : Sizes) (g : Gathered) (d : DataPacket) → ((s.near == s.far) && (length g.octets == 0)) ≡ false →
    length (g.octets ++ d.octets) ≤ s.far → same_bit g.qualified d.qualified ≡ false →
    planned (plan_for s (length g.octets) g.qualified (outline_of d)) g d ≡ turned s g d
planned_other s g d whole fit other =
    let all = length-append g.octets d.octets in
    let fits = le-leb (length g.octets + length d.octets) s.far (omega (arith, fit, all)) in
    let short = lt-leb (suc s.far) (length (g.octets ++ d.octets)) (omega (arith, fit)) in
    rw (whole, fits, short, other) (by_length (decided (nat_lt 0 (length g.octets))))
  where
    by_length : (nat_lt 0 (length g.octets) ≡ true) ⊎ (nat_lt 0 (length g.octets) ≡ false) →
        planned (record {
          gathered_first = nat_lt 0 (length g.octets) && true;
          rest_waits =
              is_full s.near d
              && nat_le (rest_length (nat_lt 0 (length g.octets) && true) (length g.octets) (length d.octets) + s.near) s.far;
          size = s.far;
        }) g d
        ≡ joined s (flushed g) d.octets d
    by_length (inl some) =
        rw some (one_rest s.far (flushed g) (is_full s.near d && nat_le (length d.octets + s.near) s.far) d (omega (arith, fit, length-append g.octets d.octets)))
    by_length (inr none) =
        let empty : length g.octets ≡ 0 = omega (arith, leb-false 1 (length g.octets) none) in
        let sum : length g.octets + length d.octets ≡ length d.octets = omega (arith, empty) in
        rw (none, eq-eqb (length g.octets) 0 empty, no_octets g.octets d.octets empty, sum)
        (one_rest s.far [] (is_full s.near d && nat_le (length d.octets + s.near) s.far) d (omega (arith, fit, length-append g.octets d.octets)))

pub planned_is : (s : Sizes) (g : Gathered) (d : DataPacket) →
    planned (plan_for s (length g.octets) g.qualified (outline_of d)) g d ≡ turned s g d
planned_is s g d = by_sizes (decided ((s.near == s.far) && (length g.octets == 0)))
  where
    by_bit : ((s.near == s.far) && (length g.octets == 0)) ≡ false → length (g.octets ++ d.octets) ≤ s.far →
        (same_bit g.qualified d.qualified ≡ true) ⊎ (same_bit g.qualified d.qualified ≡ false) →
        planned (plan_for s (length g.octets) g.qualified (outline_of d)) g d ≡ turned s g d
    by_bit whole fit (inl same) = planned_same s g d whole fit same
    by_bit whole fit (inr other) = planned_other s g d whole fit other

    by_length : ((s.near == s.far) && (length g.octets == 0)) ≡ false →
        (nat_le (length (g.octets ++ d.octets)) s.far ≡ true) ⊎ (nat_le (length (g.octets ++ d.octets)) s.far ≡ false) →
        planned (plan_for s (length g.octets) g.qualified (outline_of d)) g d ≡ turned s g d
    by_length whole (inl fit) =
        by_bit whole (leb-true (length (g.octets ++ d.octets)) s.far fit) (decided (same_bit g.qualified d.qualified))
    by_length whole (inr over) = planned_over s g d whole (leb-false (length (g.octets ++ d.octets)) s.far over)

    by_sizes : (((s.near == s.far) && (length g.octets == 0)) ≡ true) ⊎ (((s.near == s.far) && (length g.octets == 0)) ≡ false) →
        planned (plan_for s (length g.octets) g.qualified (outline_of d)) g d ≡ turned s g d
    by_sizes (inl whole) = planned_whole s g d whole
    by_sizes (inr whole) = by_length whole (decided (nat_le (length (g.octets ++ d.octets)) s.far))

-- ---- how many packets, and whether they are short

-- what goes first has octets
pub first_some : (s : Sizes) (n : ℕ) (q : Bool) (o : Outline) → (plan_for s n q o).gathered_first ≡ true → 1 ≤ n
first_some s n q o = by_sizes (decided ((s.near == s.far) && (n == 0)))
  where
    by_sizes : (((s.near == s.far) && (n == 0)) ≡ true) ⊎ (((s.near == s.far) && (n == 0)) ≡ false) →
        (plan_for s n q o).gathered_first ≡ true → 1 ≤ n
    by_sizes (inl whole) h = absurd (true≢false (sym (none h)))
      where
        none : (plan_for s n q o).gathered_first ≡ true → false ≡ true
        none = rw whole (λ e. e)
    by_sizes (inr whole) h = leb-true 1 n (and_both (nat_lt 0 n) (not (nat_le (n + o.length) s.far) || not (same_bit q o.qualified)) (first h)).0
      where
        first : (plan_for s n q o).gathered_first ≡ true → goes_first s n q o ≡ true
        first = rw whole (λ e. e)

-- what waits is a full packet, or more
pub waits_some : (s : Sizes) (n : ℕ) (q : Bool) (o : Outline) → 1 ≤ s.near → (plan_for s n q o).rest_waits ≡ true → 1 ≤ o.length
waits_some s n q o near = by_sizes (decided ((s.near == s.far) && (n == 0)))
  where
    by_sizes : (((s.near == s.far) && (n == 0)) ≡ true) ⊎ (((s.near == s.far) && (n == 0)) ≡ false) →
        (plan_for s n q o).rest_waits ≡ true → 1 ≤ o.length
    by_sizes (inl whole) h = absurd (true≢false (sym (none h)))
      where
        none : (plan_for s n q o).rest_waits ≡ true → false ≡ true
        none = rw whole (λ e. e)
    by_sizes (inr whole) h =
        let rest = rest_length (goes_first s n q o) n o.length in
        let full = (o.more && not o.delivery) && (o.length == s.near) in
        let fits = nat_le (n + o.length) s.far in
        let is = (and_both fits full (and_both (fits && full) (nat_le (rest + s.near) s.far) (wait h)).0).1 in
        let same = eqb-true o.length s.near (and_both (o.more && not o.delivery) (o.length == s.near) is).1 in
        omega (arith, near, same)
      where
        wait : (plan_for s n q o).rest_waits ≡ true → waits s n (rest_length (goes_first s n q o) n o.length) o ≡ true
        wait = rw whole (λ e. e)

-- what is gathered and a packet that it does not go before have one place of 1,024 octets
pub rest_fits : (s : Sizes) (n : ℕ) (q : Bool) (o : Outline) → s.far ≤ 1024 → o.length ≤ 1024 →
    (plan_for s n q o).gathered_first ≡ false → n + o.length ≤ 1024
rest_fits s n q o far le = by_sizes (decided ((s.near == s.far) && (n == 0)))
  where
    none_first : (some fits same : Bool) → (some && (not fits || not same)) ≡ false → (some ≡ false) ⊎ (fits ≡ true)
    none_first false fits same h = inl refl
    none_first true true same h = inr refl
    none_first true false same h = absurd (true≢false h)

    by_sizes : (((s.near == s.far) && (n == 0)) ≡ true) ⊎ (((s.near == s.far) && (n == 0)) ≡ false) →
        (plan_for s n q o).gathered_first ≡ false → n + o.length ≤ 1024
    by_sizes (inl whole) h = omega (arith, le, eqb-true n 0 (and_both (s.near == s.far) (n == 0) whole).1)
    by_sizes (inr whole) h = by_first (none_first (nat_lt 0 n) (nat_le (n + o.length) s.far) (same_bit q o.qualified) (first h))
      where
        first : (plan_for s n q o).gathered_first ≡ false → goes_first s n q o ≡ false
        first = rw whole (λ e. e)

        by_first : (nat_lt 0 n ≡ false) ⊎ (nat_le (n + o.length) s.far ≡ true) → n + o.length ≤ 1024
        by_first (inl none) = omega (arith, le, leb-false 1 n none)
        by_first (inr fits) = omega (arith, far, leb-true (n + o.length) s.far fits)

flushed_some : (g : Gathered) → 1 ≤ length g.octets → flushed g ≡ going_on g ∷ []
flushed_some g some = by_length (decided (length g.octets == 0))
  where
    by_length : ((length g.octets == 0) ≡ true) ⊎ ((length g.octets == 0) ≡ false) → flushed g ≡ going_on g ∷ []
    by_length (inl none) = absurd (omega (arith, some, eqb-true (length g.octets) 0 none))
    by_length (inr e) = rw e refl

le_not_lt : (a b : ℕ) → nat_le a b ≡ not (nat_lt b a)
le_not_lt a b = by_order (decided (nat_le a b))
  where
    by_order : (nat_le a b ≡ true) ⊎ (nat_le a b ≡ false) → nat_le a b ≡ not (nat_lt b a)
    by_order (inl le) = rw (le, lt-leb (suc b) a (omega (arith, leb-true a b le))) refl
    by_order (inr lt) = rw (lt, le-leb (suc b) a (omega (arith, leb-false a b lt))) refl

pub rest_is : (first : Bool) (g : Gathered) (d : DataPacket) →
    rest_length first (length g.octets) (length d.octets) ≡ length (rest_of first g d).octets
rest_is true g d = refl
rest_is false g d = sym (length-append g.octets d.octets)

made_count : (first waits : Bool) (size : ℕ) (g : Gathered) (d : DataPacket) → (first ≡ true → 1 ≤ length g.octets) →
    length ((if first then flushed g else []) ++ (if waits then [] else cut size d))
    ≡ bool_byte first + (if waits then 0 else (length d.octets - 1) / size + 1)
made_count true true size g d some = ap (λ ds. length (ds ++ [])) (flushed_some g (some refl))
made_count true false size g d some =
    ap (λ ds. length (ds ++ cut size d)) (flushed_some g (some refl))
    ∙ omega (arith, cut_count (full_packets size d.octets) size d)
made_count false true size g d some = refl
made_count false false size g d some = omega (arith, cut_count (full_packets size d.octets) size d)

made_short : (far : ℕ) (first waits : Bool) (g : Gathered) (d : DataPacket) → 1 ≤ far → (first ≡ true → 1 ≤ length g.octets) →
    are_short far ((if first then flushed g else []) ++ (if waits then [] else cut far d)) ≡ not (first && nat_lt far (length g.octets))
made_short far false true g d is some = refl
made_short far false false g d is some = cut_short far d is
made_short far true waits g d is some =
    ap (λ ds. are_short far (ds ++ (if waits then [] else cut far d))) (flushed_some g (some refl))
    ∙ ap₂ (λ (a b : Bool). a && b) (le_not_lt (length g.octets) far) (short_rest waits)
    ∙ and-true (not (nat_lt far (length g.octets)))
  where
    short_rest : (b : Bool) → are_short far (if b then [] else cut far d) ≡ true
    short_rest true = refl
    short_rest false = cut_short far d is

abbrev is_long : (far gathered : ℕ) → Plan → Bool
is_long far gathered p = nat_lt far p.size || (p.gathered_first && nat_lt far gathered)

-- the packets are short if the size is, and what goes first
plan_short : (s : Sizes) (g : Gathered) (d : DataPacket) → 1 ≤ s.far →
    are_short s.far (turned s g d).made
    ≡ not (is_long s.far (length g.octets) (plan_for s (length g.octets) g.qualified (outline_of d)))
plan_short s g d far = by_sizes (decided ((s.near == s.far) && (length g.octets == 0)))
  where
    by_sizes : (((s.near == s.far) && (length g.octets == 0)) ≡ true) ⊎ (((s.near == s.far) && (length g.octets == 0)) ≡ false) →
        are_short s.far (turned s g d).made
        ≡ not (is_long s.far (length g.octets) (plan_for s (length g.octets) g.qualified (outline_of d)))
    by_sizes (inl whole) =
        rw whole
        (and-true (nat_le (length d.octets) s.far) ∙ le_not_lt (length d.octets) s.far
        ∙ ap not (same_order (length d.octets) s.far far ∙ sym (or-false (nat_lt s.far (max (length d.octets) 1)))))
      where
        same_order : (a b : ℕ) → 1 ≤ b → nat_lt b a ≡ nat_lt b (max a 1)
        same_order a b some = by_order (decided (nat_lt b a))
          where
            by_order : (nat_lt b a ≡ true) ⊎ (nat_lt b a ≡ false) → nat_lt b a ≡ nat_lt b (max a 1)
            by_order (inl lt) = lt ∙ sym (le-leb (suc b) (max a 1) (omega (arith, leb-true (suc b) a lt)))
            by_order (inr le) = le ∙ sym (lt-leb (suc b) (max a 1) (omega (arith, some, leb-false (suc b) a le)))
    by_sizes (inr whole) =
        ap (λ (t : Turn). are_short s.far t.made) (sym (planned_is s g d))
        ∙ rw (whole, lt-leb (suc s.far) s.far (omega arith))
        (made_short s.far (goes_first s (length g.octets) g.qualified (outline_of d))
        (waits s (length g.octets) (rest_length (goes_first s (length g.octets) g.qualified (outline_of d)) (length g.octets) (length d.octets)) (outline_of d))
        g (rest_of (goes_first s (length g.octets) g.qualified (outline_of d)) g d) far
        (λ h. first_some s (length g.octets) g.qualified (outline_of d) (rw whole h)))

-- how many they are
plan_count : (s : Sizes) (g : Gathered) (d : DataPacket) →
    length (turned s g d).made
    ≡ bool_byte (plan_for s (length g.octets) g.qualified (outline_of d)).gathered_first
    + (if (plan_for s (length g.octets) g.qualified (outline_of d)).rest_waits then 0
    else (rest_length (plan_for s (length g.octets) g.qualified (outline_of d)).gathered_first (length g.octets) (length d.octets) - 1)
    / (plan_for s (length g.octets) g.qualified (outline_of d)).size + 1)
plan_count s g d =
    let p = plan_for s (length g.octets) g.qualified (outline_of d) in
    ap (λ (t : Turn). length t.made) (sym (planned_is s g d))
    ∙ made_count p.gathered_first p.rest_waits p.size g (rest_of p.gathered_first g d) (first_some s (length g.octets) g.qualified (outline_of d))
    ∙ ap (λ n. bool_byte p.gathered_first + (if p.rest_waits then 0 else (n - 1) / p.size + 1)) (sym (rest_is p.gathered_first g d))

-- a plan for packets of these lengths and bits
pub due_short : (s : Sizes) (n : ℕ) (q : Bool) (o : Outline) (p : Plan) (g : Gathered) (d : DataPacket) → 1 ≤ s.far →
    p ≡ plan_for s n q o → length g.octets ≡ n → g.qualified ≡ q → outline_of d ≡ o →
    are_short s.far (turned s g d).made ≡ not (nat_lt s.far p.size || (p.gathered_first && nat_lt s.far n))
due_short s n q o p g d far is length_is q_is o_is = rw (is, ← length_is, ← q_is, ← o_is) (plan_short s g d far)

pub due_count : (s : Sizes) (n : ℕ) (q : Bool) (o : Outline) (p : Plan) (g : Gathered) (d : DataPacket) →
    p ≡ plan_for s n q o → length g.octets ≡ n → g.qualified ≡ q → outline_of d ≡ o →
    length (turned s g d).made
    ≡ bool_byte p.gathered_first + (if p.rest_waits then 0 else (rest_length p.gathered_first n o.length - 1) / p.size + 1)
due_count s n q o p g d is length_is q_is o_is = rw (is, ← length_is, ← q_is, ← o_is) (plan_count s g d)

-- ---- a plan carried out

-- what is left behind what goes first, and the packet
pub rest_behind : (first : Bool) (g : Gathered) (d : DataPacket) →
    drop (length (if first then g.octets else [])) g.octets ++ d.octets ≡ (rest_of first g d).octets
rest_behind true g d = ap (λ octets. octets ++ d.octets) (drop-length g.octets)
rest_behind false g d = refl

-- what goes first, and the rest, are what the plan says
pub turned_as : (s : Sizes) (p : Plan) (g : Gathered) (d : DataPacket) (first rest : List ℕ) →
    p ≡ plan_for s (length g.octets) g.qualified (outline_of d) →
    first ≡ (if p.gathered_first then g.octets else []) →
    rest ≡ (rest_of p.gathered_first g d).octets →
    record {
      made =
          flushed (record { octets = first; qualified = g.qualified })
          ++ (if p.rest_waits then [] else cut p.size (record d { octets = rest }));
      left = if p.rest_waits then record { octets = rest; qualified = d.qualified } else nothing_gathered;
    }
    ≡ turned s g d
turned_as s p g d first rest is first_is rest_is =
    rw (first_is, rest_is)
    (ap (λ ds. record {
      made = ds ++ (if p.rest_waits then [] else cut p.size (rest_of p.gathered_first g d));
      left =
          if p.rest_waits
          then record { octets = (rest_of p.gathered_first g d).octets; qualified = d.qualified }
          else nothing_gathered;
    }) (flushed_if p.gathered_first)
    ∙ ap (λ x. planned x g d) is ∙ planned_is s g d)
  where
    flushed_if : (b : Bool) → flushed (record { octets = if b then g.octets else []; qualified = g.qualified }) ≡ (if b then flushed g else [])
    flushed_if true = refl
    flushed_if false = refl
