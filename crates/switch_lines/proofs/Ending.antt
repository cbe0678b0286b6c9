-- The end of an event: links that are set up anew, and rounds of offering.
use Rattle.std.proofs.Common.{◌≡◌, ℕ, zero, suc, ◌+◌, ◌-◌, ◌*◌, ◌<◌, ◌≤◌, ◌⊎◌, inl, inr, Bool, true, false}
use Rattle.std.proofs.Common.{if◌then◌else◌, ◌&&◌, ◌||◌, List, [], ◌∷◌, map, length, take, drop, ◌++◌, refl, sym}
use Rattle.std.proofs.Common.{ap, ap₂, ◌∙◌, true≢false, arith, Option, Some, None, is_some}
use Rattle.std.proofs.lemmas.Option.{none-some, same_Some}
use Rattle.std.proofs.lemmas.List.{append-nil}
use Rattle.std.specs.List.{list_any}
use Rattle.lapb.specs.Machine.{can_offer}
use Rattle.packet_layer.specs.Layer.{next_packet}
use Rattle.packet_end.specs.PacketEnd.{PacketEnd, all_offered, offered, relinked}
use Rattle.packet_end.proofs.Offering.{no_room, no_packet}
use Rattle.address_routes.specs.Routes.{RouteMap}
use Rattle.switch_lines.specs.Lines.{SwitchLine, changed}
use Rattle.switch_lines.specs.Relay.{legs_of}
use Rattle.switch_lines.specs.Switch.{raised, to_relink, relinked_at, all_relinked, relinks_of, acted, may_offer}
use Rattle.switch_lines.specs.Switch.{offering_from, offered_from, with_end}
use Rattle.switch_lines.specs.Alone.{relayed_alone, rounds_alone, offered_alone}
use Rattle.switch_lines.proofs.Rounds.{counts_from, same_length}
use Rattle.switch_joins.proofs.Apart.{decided}

-- ---- links that are set up anew

pub relinks_no_more : (most : ℕ) (routes : RouteMap) (ls : List SwitchLine) → to_relink ls ≡ None →
    ls ≡ all_relinked most routes ls
relinks_no_more zero routes ls e = refl
relinks_no_more (suc most) routes ls e =
    relinks_no_more most routes ls e ∙ ap (λ (xs : List SwitchLine). all_relinked most routes xs)
    (sym (ap (λ (o : Option ℕ). relinked_at o routes ls) e))

one_relinked : (most left : ℕ) (routes : RouteMap) (ls : List SwitchLine) (n : ℕ) → most ≡ suc left →
    to_relink ls ≡ Some n →
    all_relinked most routes ls ≡ all_relinked left routes (acted routes n relinked ls)
one_relinked zero left routes ls n is e = absurd (omega arith)
one_relinked (suc most) left routes ls n is e =
    let same : most ≡ left = omega arith in
    ap (λ (o : Option ℕ). all_relinked most routes (relinked_at o routes ls)) e
    ∙ ap (λ (k : ℕ). all_relinked k routes (acted routes n relinked ls)) same

pub relinks_one : (most count : ℕ) (routes : RouteMap) (ls : List SwitchLine) (n : ℕ) → count < most →
    Some n ≡ to_relink ls →
    all_relinked (most - (count + 1)) routes (acted routes n relinked ls) ≡ all_relinked (most - count) routes ls
relinks_one most count routes ls n within e =
    sym (one_relinked (most - count) (most - (count + 1)) routes ls n (omega arith) (sym e))

-- their lines are added to a list

added : {X : Type 0} (xs : List X) (x : X) (ys : List X) → (xs ++ x ∷ []) ++ ys ≡ xs ++ x ∷ ys
added [] x ys = refl
added (z ∷ zs) x ys = ap (λ ws. z ∷ ws) (added zs x ys)

one_listed : (most left : ℕ) (routes : RouteMap) (ls : List SwitchLine) (n : ℕ) → most ≡ suc left →
    to_relink ls ≡ Some n →
    relinks_of most (to_relink ls) routes ls ≡ n ∷ relinks_of left (to_relink (acted routes n relinked ls)) routes
    (acted routes n relinked ls)
one_listed zero left routes ls n is e = absurd (omega arith)
one_listed (suc most) left routes ls n is e =
    let same : most ≡ left = omega arith in
    let ms = acted routes n relinked ls in
    ap (λ (o : Option ℕ). relinks_of (suc most) o routes ls) e ∙ ap (λ (k : ℕ). n ∷ relinks_of k (to_relink ms) routes
    ms) same

pub listed_one : (most count : ℕ) (routes : RouteMap) (ls : List SwitchLine) (n : ℕ) (done : List ℕ) → count < most →
    Some n ≡ to_relink ls →
    (let ms = acted routes n relinked ls in
    (done ++ n ∷ []) ++ relinks_of (most - (count + 1)) (to_relink ms) routes ms ≡ done ++ relinks_of (most - count)
    (to_relink ls) routes ls)
listed_one most count routes ls n done within e =
    let ms = acted routes n relinked ls in
    added done n (relinks_of (most - (count + 1)) (to_relink ms) routes ms)
    ∙ ap (λ (ns : List ℕ). done ++ ns) (sym (one_listed (most - count) (most - (count + 1)) routes ls n (omega arith)
    (sym e)))

none_listed : (most : ℕ) (routes : RouteMap) (ls : List SwitchLine) → relinks_of most None routes ls ≡ []
none_listed zero routes ls = refl
none_listed (suc most) routes ls = refl

pub listed_no_more : (most : ℕ) (routes : RouteMap) (ls : List SwitchLine) (done : List ℕ) → to_relink ls ≡ None →
    done ≡ done ++ relinks_of most (to_relink ls) routes ls
listed_no_more most routes ls done e =
    sym (ap (λ (o : Option ℕ). done ++ relinks_of most o routes ls) e ∙ ap (λ (ns : List ℕ). done ++ ns)
    (none_listed most routes ls) ∙ append-nil done)

pub listed_all : (most : ℕ) (routes : RouteMap) (ls : List SwitchLine) (done : List ℕ) → most ≡ 0 →
    done ≡ done ++ relinks_of most (to_relink ls) routes ls
listed_all zero routes ls done e = sym (append-nil done)
listed_all (suc most) routes ls done e = absurd (omega arith)

raised_within : (n : ℕ) (b : Bool) (o : Option ℕ) (count : ℕ) → ((m : ℕ) → Some m ≡ o → m < count) →
    Some n ≡ (if b then Some 0 else raised o) → n < suc count
raised_within n true o count h e = let is : n ≡ 0 = same_Some n 0 e in omega arith
raised_within n false None count h e = absurd (none-some n (sym e))
raised_within n false (Some m) count h e = let is : n ≡ suc m = same_Some n (suc m) e in let less = h m refl in
    omega arith

pub first_there : (ls : List SwitchLine) (n : ℕ) → Some n ≡ to_relink ls → n < length ls
first_there [] n e = absurd (none-some n (sym e))
first_there (l ∷ ls) n e = raised_within n l.end.layer.relink (to_relink ls) (length ls) (λ m is. first_there ls m is) e

-- ---- rounds of offering

-- packets are offered to each link
abbrev pub offers : List SwitchLine → List SwitchLine
offers ls = map (with_end all_offered) ls

shifted : (count n : ℕ) (l : SwitchLine) (ls : List SwitchLine) → offered_from count (suc n) (l ∷ ls) ≡ l ∷ offered_from
    count n ls
shifted zero n l ls = refl
shifted (suc count) n l ls = shifted count (suc n) l (changed n (with_end all_offered) ls)

in_turn : (ls : List SwitchLine) → offered_from (length ls) 0 ls ≡ offers ls
in_turn [] = refl
in_turn (l ∷ ls) = shifted (length ls) 0 (with_end all_offered l) ls ∙ ap (λ xs. with_end all_offered l ∷ xs)
    (in_turn ls)

-- what becomes of lines on which all is relayed, in so many rounds
abbrev pub rounds_after : (most : ℕ) → List SwitchLine → List SwitchLine
rounds_after zero ls = ls
rounds_after (suc most) ls = if list_any may_offer ls then rounds_after most
    (relayed_alone (offering_from 0 ls) (offers ls)) else ls

relayed_length : (lines : List ℕ) (ls : List SwitchLine) → length (relayed_alone lines ls) ≡ length ls
relayed_length lines ls = same_length (relayed_alone lines ls) ls (counts_from (legs_of lines ls) ls)

pub rounds_are : (most : ℕ) (lines : List ℕ) (ls : List SwitchLine) → rounds_after most (relayed_alone lines ls) ≡
    rounds_alone most lines ls
rounds_are zero lines ls = refl
rounds_are (suc most) lines ls =
    let ms = relayed_alone lines ls in
    ap (λ (xs : List SwitchLine). if list_any may_offer ms then xs else ms)
    (rounds_are most (offering_from 0 ms) (offers ms)
    ∙ ap (λ (xs : List SwitchLine). rounds_alone most (offering_from 0 ms) xs)
    (sym (ap (λ (k : ℕ). offered_from k 0 ms) (sym (relayed_length lines ls)) ∙ in_turn ms)))

pub offer_none : (e : PacketEnd) → (can_offer e.line.link && is_some (next_packet e.layer).packet) ≡ false →
    all_offered e ≡ e
unfolding all_offered
offer_none e h = by_room (decided (can_offer e.line.link))
  where
    by_room : (can_offer e.line.link ≡ true) ⊎ (can_offer e.line.link ≡ false) → offered 7 e ≡ e
    by_room (inl t) = no_packet 7 e (sym (ap (λ (b : Bool). b && is_some (next_packet e.layer).packet) t) ∙ h)
    by_room (inr f) = no_room 7 e f

or_both : (a b : Bool) → (a || b) ≡ false → (a ≡ false) × (b ≡ false)
or_both true b e = absurd (true≢false e)
or_both false b e = (refl, e)

pub offers_none : (ls : List SwitchLine) → list_any may_offer ls ≡ false → offers ls ≡ ls
offers_none [] e = refl
offers_none (l ∷ ls) e =
    let both = or_both (may_offer l) (list_any may_offer ls) e in
    ap₂ (λ (x : SwitchLine) (xs : List SwitchLine). x ∷ xs) (λ i. record l { end = offer_none l.end both.0 i })
    (offers_none ls both.1)

round_more : (most left : ℕ) (ls : List SwitchLine) → most ≡ suc left → list_any may_offer ls ≡ true →
    rounds_after most ls ≡ rounds_after left (relayed_alone (offering_from 0 ls) (offers ls))
round_more zero left ls is e = absurd (omega arith)
round_more (suc most) left ls is e =
    let same : most ≡ left = omega arith in
    let ms = relayed_alone (offering_from 0 ls) (offers ls) in
    ap (λ (b : Bool). if b then rounds_after most ms else ls) e ∙ ap (λ (k : ℕ). rounds_after k ms) same

pub one_round : (most count : ℕ) (ls : List SwitchLine) → count < most → list_any may_offer ls ≡ true →
    rounds_after (most - (count + 1)) (relayed_alone (offering_from 0 ls) (offers ls)) ≡ rounds_after (most - count) ls
one_round most count ls within e = sym (round_more (most - count) (most - (count + 1)) ls (omega arith) e)

pub last_round : (most : ℕ) (ls : List SwitchLine) → list_any may_offer ls ≡ false → offers ls ≡ rounds_after most ls
last_round zero ls e = offers_none ls e
last_round (suc most) ls e =
    offers_none ls e ∙ sym (ap (λ (b : Bool). if b then rounds_after most
    (relayed_alone (offering_from 0 ls) (offers ls)) else ls) e)

-- ---- one line after the other

take_whole : {X : Type 0} (i : ℕ) (xs : List X) → length xs ≤ i → take i xs ≡ xs
take_whole zero [] h = refl
take_whole zero (x ∷ xs) h = absurd (omega arith)
take_whole (suc i) [] h = refl
take_whole (suc i) (x ∷ xs) h = ap (λ ys. x ∷ ys) (take_whole i xs (omega arith))

over : {X : Type 0} (f : X → X) (i : ℕ) (xs : List X) → length xs ≤ i → map f (take i xs) ++ drop i xs ≡ map f xs
over f zero [] h = refl
over f zero (x ∷ xs) h = absurd (omega arith)
over f (suc i) [] h = refl
over f (suc i) (x ∷ xs) h = ap (λ ys. f x ∷ ys) (over f i xs (omega arith))

pub all_changed : {X : Type 0} (f : X → X) (i : ℕ) (xs ys : List X) → length xs ≤ i →
    ys ≡ map f (take i xs) ++ drop i xs → ys ≡ map f xs
all_changed f i xs ys h e = e ∙ over f i xs h

-- none took one, or some did

pub none_offering : (n : ℕ) (ls : List SwitchLine) → length (offering_from n ls) ≡ 0 → list_any may_offer ls ≡ false
none_offering n [] e = refl
none_offering n (l ∷ ls) e = by_line (may_offer l) e (λ h. none_offering (suc n) ls h)
  where
    by_line : (b : Bool) → length (if b then n ∷ offering_from (suc n) ls else offering_from (suc n) ls) ≡ 0 →
        (length (offering_from (suc n) ls) ≡ 0 → list_any may_offer ls ≡ false)
        → (b || list_any may_offer ls) ≡ false
    by_line true h more = absurd (omega arith)
    by_line false h more = more h

pub some_offering : (n : ℕ) (ls : List SwitchLine) → 1 ≤ length (offering_from n ls) → list_any may_offer ls ≡ true
some_offering n [] h = absurd (omega arith)
some_offering n (l ∷ ls) h = by_line (may_offer l) h (λ k. some_offering (suc n) ls k)
  where
    by_line : (b : Bool) → 1 ≤ length (if b then n ∷ offering_from (suc n) ls else offering_from (suc n) ls) →
        (1 ≤ length (offering_from (suc n) ls) → list_any may_offer ls ≡ true)
        → (b || list_any may_offer ls) ≡ true
    by_line true k more = refl
    by_line false k more = more k

-- ---- as many rounds as links may take packets

pub rounds_begin : (n : ℕ) (ls ms : List SwitchLine) (lines : List ℕ) → n ≡ 7 * length ms → ls ≡ relayed_alone lines ms
    → rounds_after (n - 0) ls ≡ offered_alone lines ms
rounds_begin n ls ms lines is e =
    let whole : n - 0 ≡ 7 * length ms = omega (arith, is) in
    ap (λ (k : ℕ). rounds_after k ls) whole ∙ ap (λ (xs : List SwitchLine). rounds_after (7 * length ms) xs) e
    ∙ rounds_are (7 * length ms) lines ms

-- the lines that come first are relayed before all else
pub offered_first : (lines : List ℕ) (ls : List SwitchLine) → offered_alone [] (relayed_alone lines ls) ≡ offered_alone lines ls
offered_first lines ls =
    let ms = relayed_alone lines ls in
    sym (rounds_are (7 * length ms) [] ms)
    ∙ ap (λ (n : ℕ). rounds_after (7 * n) ms) (relayed_length lines ls)
    ∙ rounds_are (7 * length ls) lines ls

past : {X : Type 0} (i : ℕ) (xs : List X) → length xs ≤ i → drop i xs ≡ []
past zero [] h = refl
past zero (x ∷ xs) h = absurd (omega arith)
past (suc i) [] h = refl
past (suc i) (x ∷ xs) h = past i xs (omega arith)

-- what is written back is all of it
pub written : {X : Type 0} (n : ℕ) (xs ys : List X) → length ys ≡ length xs → length xs ≤ n →
    take n (ys ++ drop (length ys) xs) ≡ ys
written n xs ys same h =
    ap (λ zs. take n (ys ++ zs)) (past (length ys) xs (omega arith)) ∙ ap (λ zs. take n zs) (append-nil ys)
    ∙ take_whole n ys (omega arith)
