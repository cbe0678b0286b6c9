-- The relay on the joins of some lines, one channel after the other: what is joined to what stays as it is.
use Rattle.std.proofs.Common.{◌≡◌, ℕ, zero, suc, ◌+◌, ◌-◌, ◌<◌, ◌≤◌, ◌⊎◌, inl, inr, Bool, true, false, List, [], ◌∷◌, ◌++◌, length, drop, get_or, refl, sym, ap, ap₂, ◌∙◌, arith, option_map, Option, Some, None}
use Rattle.std.specs.Prelude.{slice_get}
use Rattle.data_transfer.specs.Traffic.{Taken}
use Rattle.packet_channel.specs.Channel.Request.{Taking, Releasing}
use Rattle.switch_joins.specs.Direction.{released, releasable}
use Rattle.switch_lines.specs.Lines.{SwitchChannel, Joined, SwitchLine, same_place, joined_at, with_joined, ask, ask_all, front_at, sizes_at, takes_at}
use Rattle.switch_lines.specs.Relay.{carried_by, due_at, moved, moved_joined, moved_front, moved_if, relayed, relayed_from, places_of, both_legs, legs_at, legs_of, most_moves}
use Rattle.switch_lines.specs.ByPlace.{places_by}
use Rattle.switch_lines.proofs.Places.{joined_asked, joined_asks, joined_here, joined_apart}
use Rattle.switch_joins.proofs.Apart.{decided, place_is}
use Rattle.switch_lines.proofs.Rounds.{counts, counts_from, counts_there, counts_length, on_line, from_both}

-- ---- a relay leaves the channel that each one is joined to

abbrev pub to_at : List SwitchLine → SwitchChannel → Option SwitchChannel
to_at ls x = option_map (λ (j : Joined). j.other) (joined_at ls x)

to_kept : (p : SwitchChannel) (j k : Joined) (ks ls : List SwitchLine) (x : SwitchChannel) → ((y : SwitchChannel) → joined_at ks y ≡ joined_at ls y) → joined_at ls p ≡ Some j → k.other ≡ j.other
    → to_at (with_joined p (Some k) ks) x ≡ to_at ls x
to_kept p j k ks ls x same e to = by_place (decided (same_place x p))
  where
    by_place : (same_place x p ≡ true) ⊎ (same_place x p ≡ false) → to_at (with_joined p (Some k) ks) x ≡ to_at ls x
    by_place (inl t) =
        let is = place_is x p t in
        ap (λ (y : SwitchChannel). to_at (with_joined p (Some k) ks) y) is ∙ ap (λ (o : Option Joined). option_map (λ (y : Joined). y.other) o) (joined_here p j (Some k) ks (same p ∙ e))
        ∙ ap (λ (q : SwitchChannel). Some q) to ∙ sym (ap (λ (o : Option Joined). option_map (λ (y : Joined). y.other) o) e) ∙ sym (ap (λ (y : SwitchChannel). to_at ls y) is)
    by_place (inr f) = ap (λ (o : Option Joined). option_map (λ (y : Joined). y.other) o) (joined_apart p (Some k) x ks f ∙ same x)

to_if : (b : Bool) (t : Taken) (p : SwitchChannel) (j : Joined) (ls : List SwitchLine) (x : SwitchChannel) → joined_at ls p ≡ Some j → to_at (moved_if b t p j ls) x ≡ to_at ls x
to_if false t p j ls x e = refl
to_if true t p j ls x e =
    let v = carried_by (sizes_at ls p j.other) t j.kept in
    to_kept p j (record j { kept = released v }) _ ls x
    (λ y.
    joined_asked p (Releasing (releasable v.held)) y (ask_all j.other (due_at ls p j t) (ask p Taking ls))
    ∙ joined_asks j.other (due_at ls p j t) y (ask p Taking ls) ∙ joined_asked p Taking y ls)
    e refl

to_front : (o : Option Taken) (p : SwitchChannel) (j : Joined) (ls : List SwitchLine) (x : SwitchChannel) → joined_at ls p ≡ Some j → to_at (moved_front o p j ls) x ≡ to_at ls x
to_front None p j ls x e = refl
to_front (Some t) p j ls x e = to_if (takes_at ls j.other (due_at ls p j t)) t p j ls x e

to_moved : (o : Option Joined) (p : SwitchChannel) (ls : List SwitchLine) (x : SwitchChannel) → joined_at ls p ≡ o → to_at (moved_joined o p ls) x ≡ to_at ls x
to_moved None p ls x e = refl
to_moved (Some j) p ls x e = to_front (front_at ls p) p j ls x e

pub to_relayed : (most : ℕ) (p : SwitchChannel) (ls : List SwitchLine) (x : SwitchChannel) → to_at (relayed most p ls) x ≡ to_at ls x
to_relayed zero p ls x = refl
to_relayed (suc most) p ls x = to_relayed most p (moved p ls) x ∙ to_moved (joined_at ls p) p ls x refl

pub to_from : (ps : List SwitchChannel) (ls : List SwitchLine) (x : SwitchChannel) → to_at (relayed_from ps ls) x ≡ to_at ls x
to_from [] ls x = refl
to_from (p ∷ ps) ls x = to_from ps (relayed most_moves p ls) x ∙ to_relayed most_moves p ls x

-- ---- so the legs of lines are the same before and after

abbrev legs_to : Option SwitchChannel → SwitchChannel → List SwitchChannel
legs_to None p = []
legs_to (Some q) p = p ∷ q ∷ []

legs_by : (o : Option Joined) (p : SwitchChannel) → both_legs o p ≡ legs_to (option_map (λ (j : Joined). j.other) o) p
legs_by None p = refl
legs_by (Some j) p = refl

legs_stay : (ps qs : List SwitchChannel) (ls : List SwitchLine) → legs_at ps (relayed_from qs ls) ≡ legs_at ps ls
legs_stay [] qs ls = refl
legs_stay (p ∷ ps) qs ls =
    let ms = relayed_from qs ls in
    ap₂ (λ (xs ys : List SwitchChannel). xs ++ ys) (legs_by (joined_at ms p) p ∙ ap (λ (o : Option SwitchChannel). legs_to o p) (to_from qs ls p) ∙ sym (legs_by (joined_at ls p) p)) (legs_stay ps qs ls)

pub counted : (ls : List SwitchLine) (n m : ℕ) → places_of m (slice_get ls n) ≡ places_by m 1 (get_or (counts ls) n 0)
counted [] zero m = refl
counted [] (suc n) m = refl
counted (l ∷ ls) zero m = on_line m 1 l.joined
counted (l ∷ ls) (suc n) m = counted ls n m

places_stay : (n : ℕ) (qs : List SwitchChannel) (ls : List SwitchLine) → places_of n (slice_get (relayed_from qs ls) n) ≡ places_of n (slice_get ls n)
places_stay n qs ls =
    counted (relayed_from qs ls) n n ∙ ap (λ (ks : List ℕ). places_by n 1 (get_or ks n 0)) (counts_from qs ls) ∙ sym (counted ls n n)

lines_stay : (ns : List ℕ) (qs : List SwitchChannel) (ls : List SwitchLine) → legs_of ns (relayed_from qs ls) ≡ legs_of ns ls
lines_stay [] qs ls = refl
lines_stay (n ∷ ns) qs ls =
    ap₂ (λ (xs ys : List SwitchChannel). xs ++ ys)
    (ap (λ (ps : List SwitchChannel). legs_at ps (relayed_from qs ls)) (places_stay n qs ls) ∙ legs_stay (places_of n (slice_get ls n)) qs ls) (lines_stay ns qs ls)

-- ---- one channel more

next_join : (p : SwitchChannel) (ps : List SwitchChannel) (ls : List SwitchLine)
    → relayed_from (legs_at ps (relayed_from (both_legs (joined_at ls p) p) ls)) (relayed_from (both_legs (joined_at ls p) p) ls) ≡ relayed_from (legs_at (p ∷ ps) ls) ls
next_join p ps ls =
    let own = both_legs (joined_at ls p) p in
    ap (λ (qs : List SwitchChannel). relayed_from qs (relayed_from own ls)) (legs_stay ps own ls) ∙ sym (from_both own (legs_at ps ls) ls)

first_channel : (n c count : ℕ) (most : ℕ) → most ≡ suc count → places_by n c most ≡ record { line = n; channel = c } ∷ places_by n (suc c) count
first_channel n c count zero e = absurd (omega arith)
first_channel n c count (suc most) e = let same : most ≡ count = omega arith in ap (λ (k : ℕ). record { line = n; channel = c } ∷ places_by n (suc c) k) same

pub one_channel : (n i channels : ℕ) (ls : List SwitchLine) → i < channels →
    (let p : SwitchChannel = record { line = n; channel = i + 1 } in
    let ms = relayed_from (both_legs (joined_at ls p) p) ls in
    relayed_from (legs_at (places_by n (i + 1 + 1) (channels - (i + 1))) ms) ms ≡ relayed_from (legs_at (places_by n (i + 1) (channels - i)) ls) ls)
one_channel n i channels ls within =
    let p : SwitchChannel = record { line = n; channel = i + 1 } in
    let ms = relayed_from (both_legs (joined_at ls p) p) ls in
    let next : i + 1 + 1 ≡ suc (i + 1) = omega arith in
    ap (λ (c : ℕ). relayed_from (legs_at (places_by n c (channels - (i + 1))) ms) ms) next
    ∙ next_join p (places_by n (suc (i + 1)) (channels - (i + 1))) ls
    ∙ ap (λ (ps : List SwitchChannel). relayed_from (legs_at ps ls) ls) (sym (first_channel n (i + 1) (channels - (i + 1)) (channels - i) (omega arith)))

none_by : (n c count : ℕ) → count ≡ 0 → places_by n c count ≡ []
none_by n c zero e = refl
none_by n c (suc count) e = absurd (omega arith)

pub no_channels : (n i channels : ℕ) (ls : List SwitchLine) → channels ≤ i → ls ≡ relayed_from (legs_at (places_by n (i + 1) (channels - i)) ls) ls
no_channels n i channels ls over = sym (ap (λ (ps : List SwitchChannel). relayed_from (legs_at ps ls) ls) (none_by n (i + 1) (channels - i) (omega arith)))

get_past : (ks : List ℕ) (n : ℕ) → length ks ≤ n → get_or ks n 0 ≡ 0
get_past [] zero h = refl
get_past [] (suc n) h = refl
get_past (k ∷ ks) zero h = absurd (omega arith)
get_past (k ∷ ks) (suc n) h = get_past ks n (omega arith)

pub no_line : (ls : List SwitchLine) (n : ℕ) → length ls ≤ n → ls ≡ relayed_from (legs_at (places_of n (slice_get ls n)) ls) ls
no_line ls n over =
    let size = counts_length ls in
    sym (ap (λ (ps : List SwitchChannel). relayed_from (legs_at ps ls) ls) (counted ls n n ∙ ap (λ (k : ℕ). places_by n 1 k) (get_past (counts ls) n (omega arith))))

pub all_channels : (items ls : List SwitchLine) (n k : ℕ) (l : SwitchLine) → items ≡ ls → n < length items → l ≡ get_or items n l → k ≡ length l.joined
    → relayed_from (legs_at (places_by n 1 (k - 0)) ls) ls ≡ relayed_from (legs_at (places_of n (slice_get ls n)) ls) ls
all_channels items ls n k l e within is count =
    let whole : k - 0 ≡ k = omega arith in
    let here : k ≡ get_or (counts ls) n 0 = count ∙ counts_there items n l within is ∙ ap (λ (ks : List ℕ). get_or ks n 0) (ap (λ (xs : List SwitchLine). counts xs) e) in
    ap (λ (ps : List SwitchChannel). relayed_from (legs_at ps ls) ls) (ap (λ (m : ℕ). places_by n 1 m) (whole ∙ here) ∙ sym (counted ls n n))

-- ---- one line more

pub next_line : (n : ℕ) (ns : List ℕ) (ls : List SwitchLine) →
    (let own = legs_at (places_of n (slice_get ls n)) ls in relayed_from (legs_of ns (relayed_from own ls)) (relayed_from own ls) ≡ relayed_from (legs_of (n ∷ ns) ls) ls)
next_line n ns ls =
    let own = legs_at (places_of n (slice_get ls n)) ls in
    ap (λ (qs : List SwitchChannel). relayed_from qs (relayed_from own ls)) (lines_stay ns own ls) ∙ sym (from_both own (legs_of ns ls) ls)

dropped : (i : ℕ) (ns : List ℕ) → i < length ns → drop i ns ≡ get_or ns i 0 ∷ drop (i + 1) ns
dropped i [] h = absurd (omega arith)
dropped zero (n ∷ ns) h = refl
dropped (suc i) (n ∷ ns) h =
    let next : suc i + 1 ≡ suc (i + 1) = omega arith in
    dropped i ns (omega arith) ∙ ap (λ (k : ℕ). get_or ns i 0 ∷ drop k (n ∷ ns)) (sym next)

pub one_line : (i : ℕ) (ns : List ℕ) (ls : List SwitchLine) → i < length ns →
    (let n = get_or ns i 0 in
    let ms = relayed_from (legs_at (places_of n (slice_get ls n)) ls) ls in
    relayed_from (legs_of (drop (i + 1) ns) ms) ms ≡ relayed_from (legs_of (drop i ns) ls) ls)
one_line i ns ls h =
    next_line (get_or ns i 0) (drop (i + 1) ns) ls ∙ ap (λ (ms : List ℕ). relayed_from (legs_of ms ls) ls) (sym (dropped i ns h))

-- ---- the joins of a line of which anything can go on

-- the relay of the channels of a line from one up to below another
abbrev pub from_channel : (line first end : ℕ) → List SwitchLine → List SwitchLine
from_channel n c end ls = relayed_from (legs_at (places_by n c (end - c)) ls) ls

-- what the relay of the join of one channel makes
abbrev pub with_join_relayed : SwitchChannel → List SwitchLine → List SwitchLine
with_join_relayed p ls = relayed_from (both_legs (joined_at ls p) p) ls

pub this_channel : (n c end : ℕ) (ls : List SwitchLine) → c < end →
    from_channel n (c + 1) end (with_join_relayed (record { line = n; channel = c }) ls) ≡ from_channel n c end ls
this_channel n c end ls within =
    let p : SwitchChannel = record { line = n; channel = c } in
    let ms = with_join_relayed p ls in
    let next : c + 1 ≡ suc c = omega arith in
    ap (λ (d : ℕ). relayed_from (legs_at (places_by n d (end - (c + 1))) ms) ms) next
    ∙ next_join p (places_by n (suc c) (end - (c + 1))) ls
    ∙ ap (λ (ps : List SwitchChannel). relayed_from (legs_at ps ls) ls) (sym (first_channel n c (end - (c + 1)) (end - c) (omega arith)))

-- joins of which nothing can go on are left out
pub left_out : (count n c d end : ℕ) (ls : List SwitchLine) → c + count ≡ d → d ≤ end
    → ((e : ℕ) → c ≤ e → e < d → with_join_relayed (record { line = n; channel = e }) ls ≡ ls) → from_channel n c end ls ≡ from_channel n d end ls
left_out zero n c d end ls at within none = let same : c ≡ d = omega (arith, at) in ap (λ (e : ℕ). from_channel n e end ls) same
left_out (suc count) n c d end ls at within none =
    sym (this_channel n c end ls (omega (arith, at, within))) ∙ ap (λ (ms : List SwitchLine). from_channel n (c + 1) end ms) (none c (omega arith) (omega (arith, at)))
    ∙ left_out count n (c + 1) d end ls (omega (arith, at)) within (λ e least less. none e (omega (arith, least)) less)

pub none_left_over : (n end : ℕ) (ls : List SwitchLine) → from_channel n end end ls ≡ ls
none_left_over n end ls = let none : end - end ≡ 0 = omega arith in ap (λ (ps : List SwitchChannel). relayed_from (legs_at ps ls) ls) (none_by n end (end - end) none)

pub whole_line : (items ls : List SwitchLine) (n k end : ℕ) (l : SwitchLine) → items ≡ ls → n < length items → l ≡ get_or items n l → k ≡ length l.joined
    → end ≡ k + 1 → from_channel n 1 end ls ≡ relayed_from (legs_at (places_of n (slice_get ls n)) ls) ls
whole_line items ls n k end l e within is count last =
    let same : end - 1 ≡ k - 0 = omega (arith, last) in
    ap (λ (m : ℕ). relayed_from (legs_at (places_by n 1 m) ls) ls) same ∙ all_channels items ls n k l e within is count
