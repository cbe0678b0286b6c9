-- The relay on all channels, one after the other.
use Rattle.std.proofs.Common.{◌≡◌, ℕ, zero, suc, ◌+◌, ◌-◌, ◌<◌, ◌≤◌, Bool, true, false, List, [], ◌∷◌, ◌++◌, map, length, drop, get_or, refl, sym, ap, ap₂, ◌∙◌, arith, Option, Some, None}
use Rattle.data_transfer.specs.Traffic.{Taken}
use Rattle.packet_channel.specs.Channel.{Request}
use Rattle.packet_channel.specs.Channel.Request.{Taking, Releasing}
use Rattle.switch_joins.specs.Direction.{releasable}
use Rattle.switch_lines.specs.Lines.{SwitchChannel, Joined, SwitchLine, changed, joined_at, with_joined, ask, ask_all, front_at, sizes_at, takes_at, places_on, places_from}
pub use Rattle.switch_lines.specs.ByPlace.{places_by}
use Rattle.switch_lines.specs.Relay.{carried_by, due_at, moved, moved_joined, moved_front, moved_if, relayed, relayed_from, all_relayed, most_moves}
use Rattle.switch_joins.proofs.Slots.{set_size}

-- how many channels the lines have
abbrev pub counts : List SwitchLine → List ℕ
counts ls = map (λ l. length l.joined) ls

-- the channels of lines that have so many, from this line on
abbrev pub places_by_counts : (line : ℕ) → List ℕ → List SwitchChannel
places_by_counts n [] = []
places_by_counts n (k ∷ ks) = places_by n 1 k ++ places_by_counts (suc n) ks

pub on_line : (n c : ℕ) (os : List (Option Joined)) → places_on n c os ≡ places_by n c (length os)
on_line n c [] = refl
on_line n c (o ∷ os) = ap (λ ps. record { line = n; channel = c } ∷ ps) (on_line n (suc c) os)

from_line : (n : ℕ) (ls : List SwitchLine) → places_from n ls ≡ places_by_counts n (counts ls)
from_line n [] = refl
from_line n (l ∷ ls) = ap₂ (λ (ps qs : List SwitchChannel). ps ++ qs) (on_line n 1 l.joined) (from_line (suc n) ls)

pub all_places : (ls : List SwitchLine) → relayed_from (places_by_counts 0 (counts ls)) ls ≡ all_relayed ls
all_places ls = ap (λ ps. relayed_from ps ls) (sym (from_line 0 ls))

-- ---- the channels of a line

first_channel : (n c count : ℕ) (ls : List SwitchLine) (most : ℕ) → most ≡ suc count →
    relayed_from (places_by n c most) ls ≡ relayed_from (places_by n (suc c) count) (relayed most_moves (record { line = n; channel = c }) ls)
first_channel n c count ls zero e = absurd (omega arith)
first_channel n c count ls (suc most) e =
    let same : most ≡ count = omega arith in
    ap (λ (k : ℕ). relayed_from (places_by n (suc c) k) (relayed most_moves (record { line = n; channel = c }) ls)) same

pub one_channel : (n i channels : ℕ) (ls : List SwitchLine) → i < channels →
    relayed_from (places_by n (i + 1 + 1) (channels - (i + 1))) (relayed most_moves (record { line = n; channel = i + 1 }) ls)
    ≡ relayed_from (places_by n (i + 1) (channels - i)) ls
one_channel n i channels ls within =
    let next : i + 1 + 1 ≡ suc (i + 1) = omega arith in
    ap (λ (c : ℕ). relayed_from (places_by n c (channels - (i + 1))) (relayed most_moves (record { line = n; channel = i + 1 }) ls)) next
    ∙ sym (first_channel n (i + 1) (channels - (i + 1)) ls (channels - i) (omega arith))

none_by : (n c count : ℕ) (ls : List SwitchLine) → count ≡ 0 → ls ≡ relayed_from (places_by n c count) ls
none_by n c zero ls e = refl
none_by n c (suc count) ls e = absurd (omega arith)

pub no_channels : (n i channels : ℕ) (ls : List SwitchLine) → channels ≤ i → ls ≡ relayed_from (places_by n (i + 1) (channels - i)) ls
no_channels n i channels ls over = none_by n (i + 1) (channels - i) ls (omega arith)

-- ---- lines keep their channels

pub counts_changed : (n : ℕ) (f : SwitchLine → SwitchLine) (ls : List SwitchLine) → ((l : SwitchLine) → length (f l).joined ≡ length l.joined)
    → counts (changed n f ls) ≡ counts ls
counts_changed n f [] same = refl
counts_changed zero f (l ∷ ls) same = ap (λ k. k ∷ counts ls) (same l)
counts_changed (suc n) f (l ∷ ls) same = ap (λ ks. length l.joined ∷ ks) (counts_changed n f ls same)

pub counts_asked : (p : SwitchChannel) (q : Request) (ls : List SwitchLine) → counts (ask p q ls) ≡ counts ls
counts_asked p q ls = counts_changed p.line _ ls (λ l. refl)

pub counts_joined : (p : SwitchChannel) (o : Option Joined) (ls : List SwitchLine) → counts (with_joined p o ls) ≡ counts ls
counts_joined p o ls = counts_changed p.line _ ls (λ l. set_size l.joined p.channel o)

counts_asks : (p : SwitchChannel) (qs : List Request) (ls : List SwitchLine) → counts (ask_all p qs ls) ≡ counts ls
counts_asks p [] ls = refl
counts_asks p (q ∷ qs) ls = counts_asks p qs (ask p q ls) ∙ counts_asked p q ls

counts_if : (b : Bool) (t : Taken) (p : SwitchChannel) (j : Joined) (ls : List SwitchLine) → counts (moved_if b t p j ls) ≡ counts ls
counts_if false t p j ls = refl
counts_if true t p j ls =
    counts_joined p _ _ ∙ (counts_asked p (Releasing (releasable (carried_by (sizes_at ls p j.other) t j.kept).held)) (ask_all j.other (due_at ls p j t) (ask p Taking ls))
    ∙ (counts_asks j.other (due_at ls p j t) (ask p Taking ls) ∙ counts_asked p Taking ls))

counts_front : (o : Option Taken) (p : SwitchChannel) (j : Joined) (ls : List SwitchLine) → counts (moved_front o p j ls) ≡ counts ls
counts_front None p j ls = refl
counts_front (Some t) p j ls = counts_if (takes_at ls j.other (due_at ls p j t)) t p j ls

counts_moved : (o : Option Joined) (p : SwitchChannel) (ls : List SwitchLine) → counts (moved_joined o p ls) ≡ counts ls
counts_moved None p ls = refl
counts_moved (Some j) p ls = counts_front (front_at ls p) p j ls

counts_relayed : (most : ℕ) (p : SwitchChannel) (ls : List SwitchLine) → counts (relayed most p ls) ≡ counts ls
counts_relayed zero p ls = refl
counts_relayed (suc most) p ls = counts_relayed most p (moved p ls) ∙ counts_moved (joined_at ls p) p ls

pub counts_from : (ps : List SwitchChannel) (ls : List SwitchLine) → counts (relayed_from ps ls) ≡ counts ls
counts_from [] ls = refl
counts_from (p ∷ ps) ls = counts_from ps (relayed most_moves p ls) ∙ counts_relayed most_moves p ls

-- ---- one line more

pub from_both : (ps qs : List SwitchChannel) (ls : List SwitchLine) → relayed_from (ps ++ qs) ls ≡ relayed_from qs (relayed_from ps ls)
from_both [] qs ls = refl
from_both (p ∷ ps) qs ls = from_both ps qs (relayed most_moves p ls)

pub first_line : (n : ℕ) (ks : List ℕ) (m k : ℕ) (ls : List SwitchLine) → n < length ks → k ≡ get_or ks n 0 →
    relayed_from (places_by_counts m (drop n ks)) ls ≡ relayed_from (places_by_counts (suc m) (drop (suc n) ks)) (relayed_from (places_by m 1 k) ls)
first_line n [] m k ls h e = absurd (omega arith)
first_line zero (x ∷ ks) m k ls h e =
    from_both (places_by m 1 x) (places_by_counts (suc m) ks) ls
    ∙ ap (λ (y : ℕ). relayed_from (places_by_counts (suc m) ks) (relayed_from (places_by m 1 y) ls)) (sym e)
first_line (suc n) (x ∷ ks) m k ls h e = first_line n ks m k ls (omega arith) e

pub counts_there : (ls : List SwitchLine) (n : ℕ) (l : SwitchLine) → n < length ls → l ≡ get_or ls n l → length l.joined ≡ get_or (counts ls) n 0
counts_there [] n l h e = absurd (omega arith)
counts_there (x ∷ ls) zero l h e = ap (λ (y : SwitchLine). length y.joined) e
counts_there (x ∷ ls) (suc n) l h e = counts_there ls n l (omega arith) e

pub counts_length : (ls : List SwitchLine) → length (counts ls) ≡ length ls
counts_length [] = refl
counts_length (l ∷ ls) = ap (λ (n : ℕ). suc n) (counts_length ls)

pub same_length : (ls ms : List SwitchLine) → counts ls ≡ counts ms → length ls ≡ length ms
same_length ls ms e = sym (counts_length ls) ∙ ap (λ (ks : List ℕ). length ks) e ∙ counts_length ms

pub still_there : (items ls old : List SwitchLine) (n : ℕ) → items ≡ ls → counts ls ≡ counts old → n < length old → n < length items
still_there items ls old n e kept h =
    let same : length items ≡ length old = ap (λ (xs : List SwitchLine). length xs) e ∙ same_length ls old kept in
    omega arith

pub one_line : (items ls old : List SwitchLine) (n k : ℕ) (l : SwitchLine) → items ≡ ls → counts ls ≡ counts old → n < length old →
    l ≡ get_or items n l → k ≡ length l.joined →
    relayed_from (places_by_counts (n + 1) (drop (n + 1) (counts old))) (relayed_from (places_by n 1 k) ls)
    ≡ relayed_from (places_by_counts n (drop n (counts old))) ls
one_line items ls old n k l e kept h is count =
    let here : k ≡ get_or (counts old) n 0 =
    count ∙ counts_there items n l (still_there items ls old n e kept h) is
    ∙ ap (λ (ks : List ℕ). get_or ks n 0) (ap (λ (xs : List SwitchLine). counts xs) e ∙ kept) in
    let size = counts_length old in
    let next : n + 1 ≡ suc n = omega arith in
    ap (λ (m : ℕ). relayed_from (places_by_counts m (drop m (counts old))) (relayed_from (places_by n 1 k) ls)) next
    ∙ sym (first_line n (counts old) n k ls (omega arith) here)

none_past : (n m : ℕ) (ks : List ℕ) (ls : List SwitchLine) → length ks ≤ n → ls ≡ relayed_from (places_by_counts m (drop n ks)) ls
none_past zero m [] ls h = refl
none_past zero m (k ∷ ks) ls h = absurd (omega arith)
none_past (suc n) m [] ls h = refl
none_past (suc n) m (k ∷ ks) ls h = none_past n m ks ls (omega arith)

pub no_lines : (old ls : List SwitchLine) (n : ℕ) → length old ≤ n → ls ≡ relayed_from (places_by_counts n (drop n (counts old))) ls
no_lines old ls n h = let size = counts_length old in none_past n n (counts old) ls (omega arith)
