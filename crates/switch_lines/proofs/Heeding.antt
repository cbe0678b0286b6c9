-- Heeding a note does not look at the notes that are left.
use Rattle.std.proofs.Common.{◌≡◌, ℕ, zero, suc, ◌<◌, ◌==◌, ◌&&◌, Bool, true, false, true≢false, if◌then◌else◌, List, [], ◌∷◌, ◌++◌, length, drop, refl, sym, ap, ap₂, ◌∙◌, arith, Option, Some, None}
use Rattle.std.specs.Option.{option_or, option_to_list}
use Rattle.std.specs.Prelude.{slice_get, unwrap_or}
use Rattle.std.proofs.lemmas.Option.{none-some, same_Some}
use Rattle.packet_codec.specs.ClearCause.{invalid_facility, not_obtainable}
use Rattle.packet_codec.specs.Diagnostic.{no_information}
use Rattle.data_transfer.specs.Packets.{CallParts, Note}
use Rattle.data_transfer.specs.Packets.Note.{Incoming, Connected, Closed, WasReset, InterruptConfirmed, Covered}
use Rattle.packet_channel.specs.Channel.{Request}
use Rattle.packet_channel.specs.Channel.Request.{Accept, Clearing, Resetting, Confirming, Releasing}
use Rattle.packet_layer.specs.Layer.{Phase, channel_given}
use Rattle.packet_end.specs.PacketEnd.{PacketEnd, without_first_note}
use Rattle.address_routes.specs.Routes.{RouteMap, line_for}
use Rattle.switch_joins.specs.Direction.{Direction, new_direction, releasable, released, covered_by}
use Rattle.joined_line.specs.Causes.{reset_cause, clear_cause, far_diagnostic}
use Rattle.switch_lines.specs.Lines.{SwitchChannel, Joined, SwitchLine, is_trunk, changed, joined_at, with_joined, ask}
use Rattle.switch_lines.specs.Relay.{told_joined, told_of, with_kept, freed, kept_anew, covered_on}
use Rattle.switch_lines.specs.Switch.{Answer, answer, answer_by, answer_on, answer_free, no_channel_cause, has_any, route_from, forwarded, address_of, place_call, with_join, answered, heed, heed_all, with_end, without_notes, notes_heeded, acted, all_begun, quieted}
use Rattle.switch_lines.specs.Switch.Answer.{Clears, Joins}
use Rattle.switch_lines.specs.NewJoins.{NewJoin, join_of, joins_of_note, joins_of_notes, joins_heeded}
use Rattle.switch_lines.specs.ByPlace.{notes_on, AreRead}
use Rattle.switch_lines.proofs.Changing.{length_changed}
use Rattle.switch_lines.proofs.Places.{fused, same_there, joined_after}

-- no notes are left on a line
abbrev pub unnoted : ℕ → List SwitchLine → List SwitchLine
unnoted n ls = changed n (with_end without_notes) ls

-- what neither changes notes nor depends on them
record Calm (t : List SwitchLine → List SwitchLine) : Type 0 where
  commutes : (n : ℕ) (ls : List SwitchLine) → unnoted n (t ls) ≡ t (unnoted n ls)
  notes : (n : ℕ) (ls : List SwitchLine) → notes_on (t ls) n ≡ notes_on ls n
  lengths : (ls : List SwitchLine) → length (t ls) ≡ length ls

swapped : {X : Type 0} (f g : X → X) (n k : ℕ) (xs : List X) → ((x : X) → f (g x) ≡ g (f x)) → changed n f (changed k g xs) ≡ changed k g (changed n f xs)
swapped f g n k [] same = refl
swapped f g zero zero (x ∷ xs) same = ap (λ y. y ∷ xs) (same x)
swapped f g zero (suc k) (x ∷ xs) same = refl
swapped f g (suc n) zero (x ∷ xs) same = refl
swapped f g (suc n) (suc k) (x ∷ xs) same = ap (λ ys. x ∷ ys) (swapped f g n k xs same)

notes_kept : (k : ℕ) (f : SwitchLine → SwitchLine) (n : ℕ) (ls : List SwitchLine) → ((l : SwitchLine) → (f l).end.notes ≡ l.end.notes)
    → notes_on (changed k f ls) n ≡ notes_on ls n
notes_kept k f n [] same = refl
notes_kept zero f zero (l ∷ ls) same = same l
notes_kept zero f (suc n) (l ∷ ls) same = refl
notes_kept (suc k) f zero (l ∷ ls) same = refl
notes_kept (suc k) f (suc n) (l ∷ ls) same = notes_kept k f n ls same

calm_changed : (k : ℕ) (f : SwitchLine → SwitchLine) → ((l : SwitchLine) → with_end without_notes (f l) ≡ f (with_end without_notes l))
    → ((l : SwitchLine) → (f l).end.notes ≡ l.end.notes) → Calm (λ ls. changed k f ls)
calm_changed k f same notes = record {
  commutes = λ n ls. swapped (with_end without_notes) f n k ls same;
  notes = λ n ls. notes_kept k f n ls notes;
  lengths = λ ls. length_changed k f ls;
}

calm_same : Calm (λ ls. ls)
calm_same = record { commutes = λ n ls. refl; notes = λ n ls. refl; lengths = λ ls. refl }

calm_then : (s t : List SwitchLine → List SwitchLine) → Calm s → Calm t → Calm (λ ls. s (t ls))
calm_then s t a b = record {
  commutes = λ n ls. a.commutes n (t ls) ∙ ap s (b.commutes n ls);
  notes = λ n ls. a.notes n (t ls) ∙ b.notes n ls;
  lengths = λ ls. a.lengths (t ls) ∙ b.lengths ls;
}

calm_by : {X : Type 0} (read : List SwitchLine → X) (t : X → List SwitchLine → List SwitchLine) → ((n : ℕ) (ls : List SwitchLine) → read (unnoted n ls) ≡ read ls)
    → ((x : X) → Calm (t x)) → Calm (λ ls. t (read ls) ls)
calm_by read t same calm = record {
  commutes = λ n ls. (calm (read ls)).commutes n ls ∙ ap (λ x. t x (unnoted n ls)) (sym (same n ls));
  notes = λ n ls. (calm (read ls)).notes n ls;
  lengths = λ ls. (calm (read ls)).lengths ls;
}

calm_ask : (p : SwitchChannel) (q : Request) → Calm (λ ls. ask p q ls)
calm_ask p q = calm_changed p.line _ (λ l. refl) (λ l. refl)

calm_joined : (p : SwitchChannel) (o : Option Joined) → Calm (λ ls. with_joined p o ls)
calm_joined p o = calm_changed p.line _ (λ l. refl) (λ l. refl)

calm_call : (n : ℕ) (parts : CallParts) → Calm (λ ls. place_call n parts ls)
calm_call n parts = calm_changed n _ (λ l. refl) (λ l. refl)

calm_freed : (p : SwitchChannel) (j : Joined) (v : Direction) → Calm (λ ls. freed p j v ls)
calm_freed p j v =
    calm_then (λ ls. with_kept p j (released v) ls) (λ ls. ask p (Releasing (releasable v.held)) ls)
    (calm_joined p (Some (record j { kept = released v }))) (calm_ask p (Releasing (releasable v.held)))

-- ---- what is told

trunks_unnoted : (m n : ℕ) (ls : List SwitchLine) → is_trunk (slice_get (unnoted n ls) m) ≡ is_trunk (slice_get ls m)
trunks_unnoted m n [] = refl
trunks_unnoted zero zero (l ∷ ls) = refl
trunks_unnoted zero (suc n) (l ∷ ls) = refl
trunks_unnoted (suc m) zero (l ∷ ls) = refl
trunks_unnoted (suc m) (suc n) (l ∷ ls) = trunks_unnoted m n ls

joins_unnoted : (p : SwitchChannel) (n : ℕ) (ls : List SwitchLine) → joined_at (unnoted n ls) p ≡ joined_at ls p
joins_unnoted p n ls = joined_after n (with_end without_notes) p ls (λ l. refl)

calm_anew : (o : Option Joined) (p : SwitchChannel) → Calm (λ ls. kept_anew o p ls)
calm_anew None p = calm_same
calm_anew (Some j) p = calm_joined p (Some (record j { kept = new_direction }))

calm_covered : (n : ℕ) (o : Option Joined) (p : SwitchChannel) → Calm (λ ls. covered_on n o p ls)
calm_covered n None p = calm_same
calm_covered n (Some j) p = calm_freed p j (covered_by n j.kept)

calm_told : (x : Note) (p : SwitchChannel) (j : Joined) → Calm (λ ls. told_joined x p j ls)
calm_told (Connected c) p j = calm_ask j.other Accept
calm_told (Closed c cause diagnostic reason) p j =
    let clears : Bool → Request = λ (trunk : Bool). Clearing (clear_cause trunk reason cause) (far_diagnostic reason diagnostic) in
    calm_by (λ ls. is_trunk (slice_get ls p.line)) (λ trunk ls. ask j.other (clears trunk) (with_joined j.other None (with_joined p None ls)))
    (λ n ls. trunks_unnoted p.line n ls)
    (λ trunk. calm_then (λ ls. ask j.other (clears trunk) ls) (λ ls. with_joined j.other None (with_joined p None ls)) (calm_ask j.other (clears trunk))
    (calm_then (λ ls. with_joined j.other None ls) (λ ls. with_joined p None ls) (calm_joined j.other None) (calm_joined p None)))
calm_told (WasReset c cause diagnostic reason) p j =
    let r = Resetting (reset_cause reason cause) (far_diagnostic reason diagnostic) in
    calm_by (λ ls. joined_at ls j.other) (λ o ls. kept_anew o j.other (kept_anew (Some j) p (ask j.other r ls))) (λ n ls. joins_unnoted j.other n ls)
    (λ o. calm_then (λ ls. kept_anew o j.other ls) (λ ls. kept_anew (Some j) p (ask j.other r ls)) (calm_anew o j.other)
    (calm_then (λ ls. kept_anew (Some j) p ls) (λ ls. ask j.other r ls) (calm_anew (Some j) p) (calm_ask j.other r)))
calm_told (InterruptConfirmed c) p j = calm_ask j.other Confirming
calm_told (Covered c n) p j =
    calm_by (λ ls. joined_at ls j.other) (λ o ls. covered_on n o j.other ls) (λ m ls. joins_unnoted j.other m ls) (λ o. calm_covered n o j.other)
calm_told (Incoming c parts) p j = calm_same

calm_told_of : (o : Option Joined) (x : Note) (p : SwitchChannel) → Calm (λ ls. told_of o x p ls)
calm_told_of None x p = calm_same
calm_told_of (Some j) x p = calm_told x p j

calm_tell : (x : Note) (p : SwitchChannel) → Calm (λ ls. told_of (joined_at ls p) x p ls)
calm_tell x p = calm_by (λ ls. joined_at ls p) (λ o ls. told_of o x p ls) (λ n ls. joins_unnoted p n ls) (λ o. calm_told_of o x p)

-- ---- a call that comes in

answers_unnoted : (m n : ℕ) (k : ℕ) (ls : List SwitchLine) → answer_on k (slice_get (unnoted n ls) m) ≡ answer_on k (slice_get ls m)
answers_unnoted m n k [] = refl
answers_unnoted zero zero k (l ∷ ls) = refl
answers_unnoted zero (suc n) k (l ∷ ls) = refl
answers_unnoted (suc m) zero k (l ∷ ls) = refl
answers_unnoted (suc m) (suc n) k (l ∷ ls) = answers_unnoted m n k ls

routed_unnoted : (route : Option ℕ) (n : ℕ) (ls : List SwitchLine) → answer_by (unnoted n ls) route ≡ answer_by ls route
routed_unnoted None n ls = refl
routed_unnoted (Some m) n ls = answers_unnoted m n m ls

from_unnoted : (k : ℕ) (route : Option ℕ) (n : ℕ) (ls : List SwitchLine) → route_from k (unnoted n ls) route ≡ route_from k ls route
from_unnoted k None n ls = refl
from_unnoted k (Some to) n ls = ap (λ (trunk : Bool). if (to == k) && trunk then None else Some to) (trunks_unnoted k n ls)

answer_unnoted : (routes : RouteMap) (k : ℕ) (parts : CallParts) (n : ℕ) (ls : List SwitchLine) → answer routes (unnoted n ls) k parts ≡ answer routes ls k parts
answer_unnoted routes k parts n ls =
    let route = line_for routes parts.called in
    ap (λ (a : Answer). if has_any parts.facilities then Clears invalid_facility else a)
    (ap (λ (o : Option ℕ). answer_by (unnoted n ls) o) (from_unnoted k route n ls) ∙ routed_unnoted (route_from k ls route) n ls)

addresses_unnoted : (m n : ℕ) (ls : List SwitchLine) → address_of (slice_get (unnoted n ls) m) ≡ address_of (slice_get ls m)
addresses_unnoted m n [] = refl
addresses_unnoted zero zero (l ∷ ls) = refl
addresses_unnoted zero (suc n) (l ∷ ls) = refl
addresses_unnoted (suc m) zero (l ∷ ls) = refl
addresses_unnoted (suc m) (suc n) (l ∷ ls) = addresses_unnoted m n ls

forwarded_unnoted : (m : ℕ) (parts : CallParts) (n : ℕ) (ls : List SwitchLine) → forwarded (unnoted n ls) m parts ≡ forwarded ls m parts
forwarded_unnoted m parts n ls = ap (λ (address : Option (List ℕ)). record parts { calling = unwrap_or address parts.calling; facilities = [] }) (addresses_unnoted m n ls)

calm_join : (p q : SwitchChannel) → Calm (λ ls. with_join p q ls)
calm_join p q =
    calm_then (λ ls. with_joined q (Some (record { other = p; came_in = false; kept = new_direction })) ls)
    (λ ls. with_joined p (Some (record { other = q; came_in = true; kept = new_direction })) ls)
    (calm_joined q (Some (record { other = p; came_in = false; kept = new_direction })))
    (calm_joined p (Some (record { other = q; came_in = true; kept = new_direction })))

calm_answered : (a : Answer) (p : SwitchChannel) (parts : CallParts) → Calm (λ ls. answered a p parts ls)
calm_answered (Clears cause) p parts = calm_ask p (Clearing cause no_information)
calm_answered (Joins q) p parts =
    calm_then (λ ls. with_join p q ls) (λ ls. place_call q.line (forwarded ls p.line parts) ls) (calm_join p q)
    (calm_by (λ ls. forwarded ls p.line parts) (λ (on : CallParts) ls. place_call q.line on ls) (λ n ls. forwarded_unnoted p.line parts n ls)
    (λ on. calm_call q.line on))

calm_heed : (routes : RouteMap) (k : ℕ) (x : Note) → Calm (λ ls. heed routes k x ls)
calm_heed routes k (Incoming c parts) =
    calm_by (λ ls. answer routes ls k parts) (λ a ls. answered a (record { line = k; channel = c }) parts ls) (λ n ls. answer_unnoted routes k parts n ls)
    (λ a. calm_answered a (record { line = k; channel = c }) parts)
calm_heed routes k (Connected c) = calm_tell (Connected c) (record { line = k; channel = c })
calm_heed routes k (Closed c cause diagnostic reason) = calm_tell (Closed c cause diagnostic reason) (record { line = k; channel = c })
calm_heed routes k (WasReset c cause diagnostic reason) = calm_tell (WasReset c cause diagnostic reason) (record { line = k; channel = c })
calm_heed routes k (InterruptConfirmed c) = calm_tell (InterruptConfirmed c) (record { line = k; channel = c })
calm_heed routes k (Covered c count) = calm_tell (Covered c count) (record { line = k; channel = c })

-- where it goes on, it is a channel of one of the lines
goes_to : Answer → ℕ
goes_to (Clears cause) = 0
goes_to (Joins q) = q.line

goes_on : Answer → Bool
goes_on (Clears cause) = false
goes_on (Joins q) = true

none_goes_on : (cause : ℕ) (q : SwitchChannel) → Clears cause ≡ Joins q → ⊥
unfolding goes_on
none_goes_on cause q e = true≢false (sym (ap goes_on e))

free_there : (n : ℕ) (phase : Phase) (o : Option ℕ) (q : SwitchChannel) → answer_free n phase o ≡ Joins q → n ≡ q.line
unfolding goes_to
free_there n phase None q e = absurd (none_goes_on (no_channel_cause phase) q e)
free_there n phase (Some c) q e = ap goes_to e

on_there : (n m : ℕ) (ls : List SwitchLine) (q : SwitchChannel) → answer_on m (slice_get ls n) ≡ Joins q → (n < length ls) × (m ≡ q.line)
on_there n m [] q e = absurd (none_goes_on not_obtainable q e)
on_there zero m (l ∷ ls) q e = (omega arith, free_there m l.end.layer.phase (channel_given l.end.layer l.end.layer.phase) q e)
on_there (suc n) m (l ∷ ls) q e = let more = on_there n m ls q e in (omega (arith, more.0), more.1)

by_there : (route : Option ℕ) (ls : List SwitchLine) (q : SwitchChannel) → answer_by ls route ≡ Joins q → q.line < length ls
by_there None ls q e = absurd (none_goes_on not_obtainable q e)
by_there (Some n) ls q e = let found = on_there n n ls q e in omega (arith, found.0, found.1)

if_there : (b : Bool) (cause : ℕ) (a : Answer) (q : SwitchChannel) → (if b then Clears cause else a) ≡ Joins q → a ≡ Joins q
if_there true cause a q e = absurd (none_goes_on cause q e)
if_there false cause a q e = e

pub answer_there : (routes : RouteMap) (n : ℕ) (parts : CallParts) (ls : List SwitchLine) (q : SwitchChannel) → answer routes ls n parts ≡ Joins q
    → q.line < length ls
answer_there routes n parts ls q e =
    let route = route_from n ls (line_for routes parts.called) in
    by_there route ls q (if_there (has_any parts.facilities) invalid_facility (answer_by ls route) q e)

-- as many lines
pub heeded_length : (routes : RouteMap) (k : ℕ) (x : Note) (ls : List SwitchLine) → length (heed routes k x ls) ≡ length ls
heeded_length routes k x ls = (calm_heed routes k x).lengths ls

-- ---- one note more

first_taken : (n : ℕ) (ls : List SwitchLine) → notes_on (changed n (with_end without_first_note) ls) n ≡ drop 1 (notes_on ls n)
first_taken n [] = refl
first_taken zero (l ∷ ls) = refl
first_taken (suc n) (l ∷ ls) = first_taken n ls

still_unnoted : (n : ℕ) (ls : List SwitchLine) → unnoted n (changed n (with_end without_first_note) ls) ≡ unnoted n ls
still_unnoted n ls = fused (with_end without_notes) (with_end without_first_note) n ls ∙ same_there _ _ n ls (λ l at. refl)

by_first : (routes : RouteMap) (n : ℕ) (x : Note) (notes : List Note) (ls : List SwitchLine) → Some x ≡ slice_get notes 0
    → heed_all routes n (drop 1 notes) (heed routes n x ls) ≡ heed_all routes n notes ls
by_first routes n x [] ls e = absurd (none-some x (sym e))
by_first routes n x (y ∷ ys) ls e = ap (λ (z : Note). heed_all routes n ys (heed routes n z ls)) (same_Some x y e)

pub one_heeded : (routes : RouteMap) (n : ℕ) (x : Note) (ls : List SwitchLine) → Some x ≡ slice_get (notes_on ls n) 0
    → notes_heeded routes n (heed routes n x (changed n (with_end without_first_note) ls)) ≡ notes_heeded routes n ls
one_heeded routes n x ls e =
    let ms = changed n (with_end without_first_note) ls in
    let calm = calm_heed routes n x in
    ap (λ (notes : List Note). heed_all routes n notes (unnoted n (heed routes n x ms))) (calm.notes n ms ∙ first_taken n ls)
    ∙ ap (λ (xs : List SwitchLine). heed_all routes n (drop 1 (notes_on ls n)) xs)
    (calm.commutes n ms ∙ ap (λ (xs : List SwitchLine). heed routes n x xs) (still_unnoted n ls))
    ∙ by_first routes n x (notes_on ls n) (unnoted n ls) e

pub notes_left : (routes : RouteMap) (n : ℕ) (x : Note) (ls : List SwitchLine)
    → notes_on (heed routes n x (changed n (with_end without_first_note) ls)) n ≡ drop 1 (notes_on ls n)
notes_left routes n x ls = (calm_heed routes n x).notes n (changed n (with_end without_first_note) ls) ∙ first_taken n ls

none_noted : (n : ℕ) (ls : List SwitchLine) → notes_on ls n ≡ [] → unnoted n ls ≡ ls
none_noted n [] e = refl
none_noted zero (l ∷ ls) e = (λ i. record l { end = record l.end { notes = sym e i } } ∷ ls)
none_noted (suc n) (l ∷ ls) e = ap (λ ys. l ∷ ys) (none_noted n ls e)

pub none_heeded : (routes : RouteMap) (n : ℕ) (ls : List SwitchLine) → notes_on ls n ≡ [] → ls ≡ notes_heeded routes n ls
none_heeded routes n ls e = sym (ap (λ (notes : List Note). heed_all routes n notes (unnoted n ls)) e ∙ none_noted n ls e)

-- ---- no notes are left on any line

heeded_notes : (routes : RouteMap) (k : ℕ) (xs : List Note) (n : ℕ) (ls : List SwitchLine) → notes_on (heed_all routes k xs ls) n ≡ notes_on ls n
heeded_notes routes k [] n ls = refl
heeded_notes routes k (x ∷ xs) n ls = heeded_notes routes k xs n (heed routes k x ls) ∙ (calm_heed routes k x).notes n ls

unnoted_read : (k n : ℕ) (f : PacketEnd → PacketEnd) (ls : List SwitchLine) → notes_on ls n ≡ [] → notes_on (unnoted k (changed k (with_end f) ls)) n ≡ []
unnoted_read k n f [] e = refl
unnoted_read zero zero f (l ∷ ls) e = refl
unnoted_read zero (suc n) f (l ∷ ls) e = e
unnoted_read (suc k) zero f (l ∷ ls) e = e
unnoted_read (suc k) (suc n) f (l ∷ ls) e = unnoted_read k n f ls e

pub acted_read : (routes : RouteMap) (k : ℕ) (f : PacketEnd → PacketEnd) (ls : List SwitchLine) → AreRead ls → AreRead (acted routes k f ls)
acted_read routes k f ls read n =
    heeded_notes routes k (notes_on (changed k (with_end (λ e. f (quieted e))) ls) k) n (unnoted k (changed k (with_end (λ e. f (quieted e))) ls))
    ∙ unnoted_read k n (λ e. f (quieted e)) ls (read n)

pub begun_read : (ls : List SwitchLine) → AreRead (all_begun ls)
begun_read [] n = refl
begun_read (l ∷ ls) zero = refl
begun_read (l ∷ ls) (suc n) = begun_read ls n

pub no_first : (notes : List Note) → None ≡ slice_get notes 0 → length notes ≡ 0
no_first [] e = refl
no_first (x ∷ xs) e = absurd (none-some x e)

pub empty_notes : (notes : List Note) → length notes ≡ 0 → notes ≡ []
empty_notes [] e = refl
empty_notes (x ∷ xs) e = absurd (omega (arith, e))

-- ---- the calls that the notes join

note_unnoted : (routes : RouteMap) (n : ℕ) (x : Note) (ls : List SwitchLine) → joins_of_note routes n x (unnoted n ls) ≡ joins_of_note routes n x ls
note_unnoted routes n (Incoming c parts) ls = ap (λ (a : Answer). join_of a (record { line = n; channel = c })) (answer_unnoted routes n parts n ls)
note_unnoted routes n _ ls = refl

joined_first : (routes : RouteMap) (n : ℕ) (x : Note) (notes : List Note) (ls : List SwitchLine) → Some x ≡ slice_get notes 0
    → joins_of_note routes n x ls ++ joins_of_notes routes n (drop 1 notes) (heed routes n x ls) ≡ joins_of_notes routes n notes ls
joined_first routes n x [] ls e = absurd (none-some x (sym e))
joined_first routes n x (y ∷ ys) ls e = ap (λ (z : Note). joins_of_note routes n z ls ++ joins_of_notes routes n ys (heed routes n z ls)) (same_Some x y e)

-- that of the first note, and then those of the others
pub one_joined : (routes : RouteMap) (n : ℕ) (x : Note) (ls : List SwitchLine) → Some x ≡ slice_get (notes_on ls n) 0
    → joins_of_note routes n x (changed n (with_end without_first_note) ls) ++ joins_heeded routes n (heed routes n x (changed n (with_end without_first_note) ls)) ≡ joins_heeded routes n ls
one_joined routes n x ls e =
    let ms = changed n (with_end without_first_note) ls in
    let calm = calm_heed routes n x in
    ap₂ (λ (js ks : List NewJoin). js ++ ks)
    (sym (note_unnoted routes n x ms) ∙ ap (λ (xs : List SwitchLine). joins_of_note routes n x xs) (still_unnoted n ls))
    (ap (λ (notes : List Note). joins_of_notes routes n notes (unnoted n (heed routes n x ms))) (calm.notes n ms ∙ first_taken n ls)
    ∙ ap (λ (xs : List SwitchLine). joins_of_notes routes n (drop 1 (notes_on ls n)) xs)
    (calm.commutes n ms ∙ ap (λ (xs : List SwitchLine). heed routes n x xs) (still_unnoted n ls)))
    ∙ joined_first routes n x (notes_on ls n) (unnoted n ls) e

pub none_joined : (routes : RouteMap) (n : ℕ) (ls : List SwitchLine) → notes_on ls n ≡ [] → joins_heeded routes n ls ≡ []
none_joined routes n ls e = ap (λ (notes : List Note). joins_of_notes routes n notes (unnoted n ls)) e

-- the first call, where one or none comes first
pub first_joined : (o p : Option NewJoin) (js ks all : List NewJoin) → option_to_list p ≡ js → js ++ ks ≡ all → option_or (option_or o p) (slice_get ks 0) ≡ option_or o (slice_get all 0)
first_joined (Some j) p js ks all e f = refl
first_joined None None js ks all e f = ap (λ (xs : List NewJoin). slice_get (xs ++ ks) 0) e ∙ ap (λ (xs : List NewJoin). slice_get xs 0) f
first_joined None (Some j) js ks all e f = ap (λ (xs : List NewJoin). slice_get (xs ++ ks) 0) e ∙ ap (λ (xs : List NewJoin). slice_get xs 0) f

pub or_none : (o : Option NewJoin) → option_or o None ≡ o
or_none None = refl
or_none (Some j) = refl
