-- Some lines of a switch, one after the other, and what is left to do on the others.
use Rattle.std.proofs.Common.{◌≡◌, ℕ, zero, suc, ◌+◌, ◌<◌, ◌≤◌, Bool, true, false, not, if◌then◌else◌, ◌&&◌, ◌||◌, ◌==◌, List}
use Rattle.std.proofs.Common.{[], ◌∷◌, map, length, set, get_or, refl, sym, ap, ap₂, subst, ◌∙◌}
use Rattle.std.proofs.Common.{arith, inl, inr}
use Rattle.std.specs.Prelude.{◌⊎◌, Option, Some, None, slice_get}
use Rattle.std.proofs.lemmas.Bool.{eq-eqb, ne_eqb, cases_eq}
use Rattle.std.proofs.lemmas.Option.{none-some, same_Some}
use Rattle.packet_layer.specs.LayerTimers.{TimersAgree}
use Rattle.number_set.specs.declared.NumberSet.{NumberSet}
use Rattle.number_set.specs.NumberSet.{has, IsFirstOf}
use Rattle.switch_lines.specs.Lines.{SwitchLine, changed}
use Rattle.switch_lines.specs.Switch.{may_offer, raised, to_relink}
use Rattle.switch_lines.specs.Touched.{AreThere, changed_in, offers_on}
use Rattle.switch_lines.proofs.Changing.{changed_here, there}
use Rattle.switch_joins.proofs.ChannelSets.{and_yes}

-- ---- one line is taken out of a set

pub is_out : (s rest : NumberSet) (line : ℕ) → IsFirstOf s line rest → has rest line ≡ false
is_out s rest line first = first.others line ∙ ap (λ (b : Bool). has s line && not b) (eq-eqb line line refl)
    ∙ and_no (has s line)
  where
    and_no : (b : Bool) → (b && false) ≡ false
    and_no true = refl
    and_no false = refl

pub is_same : (s rest : NumberSet) (line n : ℕ) → IsFirstOf s line rest → (n ≡ line → ⊥) → has rest n ≡ has s n
is_same s rest line n first apart = first.others n ∙ ap (λ (b : Bool). has s n && not b) (ne_eqb n line apart)
    ∙ and_yes (has s n)

and_left_true : (a b : Bool) → (a && b) ≡ true → a ≡ true
and_left_true true b e = refl
and_left_true false b e = e

pub there_still : (s rest : NumberSet) (line : ℕ) (xs : List SwitchLine) → IsFirstOf s line rest → AreThere s xs →
    AreThere rest xs
there_still s rest line xs first there n h = there n (and_left_true (has s n) (not (n == line)) (sym (first.others n)
    ∙ h))

-- ---- lines that are changed

same_beyond : {X : Type 0} (s rest : NumberSet) (line : ℕ) → IsFirstOf s line rest → (f : X → X) (k : ℕ) (xs : List X) →
    line < k → changed_in rest f k xs ≡ changed_in s f k xs
same_beyond s rest line first f k [] beyond = refl
same_beyond s rest line first f k (x ∷ xs) beyond =
    ap₂ (λ (b : Bool) ys. (if b then f x else x) ∷ ys) (is_same s rest line k first (λ e. omega (arith, e)))
    (same_beyond s rest line first f (suc k) xs (omega arith))

pub one_changed : {X : Type 0} (s rest : NumberSet) (line : ℕ) → IsFirstOf s line rest →
    (f : X → X) (k i : ℕ) (xs : List X) → k + i ≡ line →
    changed_in rest f k (changed i f xs) ≡ changed_in s f k xs
one_changed s rest line first f k i [] at = refl
one_changed s rest line first f k zero (x ∷ xs) at =
    let here : k ≡ line = omega arith in
    ap₂ (λ (b : Bool) ys. (if b then f (f x) else f x) ∷ ys) (ap (λ n. has rest n) here
    ∙ is_out s rest line first) (same_beyond s rest line first f (suc k) xs (omega arith))
    ∙ sym (ap (λ (b : Bool). (if b then f x else x) ∷ changed_in s f (suc k) xs) (ap (λ n. has s n) here ∙ first.there))
one_changed s rest line first f k (suc i) (x ∷ xs) at =
    ap₂ (λ (b : Bool) ys. (if b then f x else x) ∷ ys) (is_same s rest line k first (λ e. omega (arith, e)))
    (one_changed s rest line first f (suc k) i xs (omega arith))

pub none_changed : {X : Type 0} (s : NumberSet) (f : X → X) (k : ℕ) (xs : List X) → ((n : ℕ) → has s n ≡ false) →
    changed_in s f k xs ≡ xs
none_changed s f k [] none = refl
none_changed s f k (x ∷ xs) none = ap₂ (λ (b : Bool) ys. (if b then f x else x) ∷ ys) (none k)
    (none_changed s f (suc k) xs none)

-- where the others stay as they are, all are changed
pub all_are_changed : {X : Type 0} (s : NumberSet) (f : X → X) (k : ℕ) (xs : List X) →
    ((i : ℕ) (x : X) → has s (k + i) ≡ false → slice_get xs i ≡ Some x → f x ≡ x) → changed_in s f k xs ≡ map f xs
all_are_changed s f k [] stays = refl
all_are_changed s f k (x ∷ xs) stays =
    let here : k + 0 ≡ k = omega arith in
    ap₂ (λ y ys. y ∷ ys) (by_test (has s k) (λ out. stays 0 x (ap (λ n. has s n) here ∙ out) refl))
    (all_are_changed s f (suc k) xs (λ i y out is. let next : k + suc i ≡ suc k + i = omega arith in
    stays (suc i) y (ap (λ n. has s n) next ∙ out) is))
  where
    by_test : (b : Bool) → (b ≡ false → f x ≡ x) → (if b then f x else x) ≡ f x
    by_test true e = refl
    by_test false e = sym (e refl)

pub same_count : {X : Type 0} (s : NumberSet) (f : X → X) (k : ℕ) (xs : List X) → length (changed_in s f k xs) ≡ length xs
same_count s f k [] = refl
same_count s f k (x ∷ xs) = ap suc (same_count s f (suc k) xs)

pub others_same : {X : Type 0} (s : NumberSet) (f : X → X) (k i : ℕ) (xs : List X) → has s (k + i) ≡ false →
    slice_get (changed_in s f k xs) i ≡ slice_get xs i
others_same s f k i [] out = refl
others_same s f k zero (x ∷ xs) out =
    let here : k ≡ k + 0 = omega arith in
    ap (λ (b : Bool). Some (if b then f x else x)) (ap (λ n. has s n) here ∙ out)
others_same s f k (suc i) (x ∷ xs) out =
    let next : suc k + i ≡ k + suc i = omega arith in
    others_same s f (suc k) i xs (ap (λ n. has s n) next ∙ out)

-- ---- which line asks for a new link

-- the first of the lines of a set, from line n on, whose packet layer asks for a link that is set up anew
abbrev pub first_to_relink : NumberSet → (line : ℕ) → List SwitchLine → Option ℕ
first_to_relink s n [] = None
first_to_relink s n (l ∷ ls) = if has s n && l.end.layer.relink then Some n else first_to_relink s (suc n) ls

asking_beyond : (s rest : NumberSet) (line : ℕ) → IsFirstOf s line rest → (k : ℕ) (ls : List SwitchLine) → line < k →
    first_to_relink rest k ls ≡ first_to_relink s k ls
asking_beyond s rest line first k [] beyond = refl
asking_beyond s rest line first k (l ∷ ls) beyond =
    ap₂ (λ (b : Bool) (o : Option ℕ). if b && l.end.layer.relink then Some k else o)
    (is_same s rest line k first (λ e. omega (arith, e))) (asking_beyond s rest line first (suc k) ls (omega arith))

pub not_asking : (s rest : NumberSet) (line : ℕ) → IsFirstOf s line rest →
    (k i : ℕ) (ls : List SwitchLine) (l : SwitchLine) → k + i ≡ line → slice_get ls i ≡ Some l →
    l.end.layer.relink ≡ false →
    first_to_relink rest k ls ≡ first_to_relink s k ls
not_asking s rest line first k i [] l at is asks = refl
not_asking s rest line first k zero (x ∷ xs) l at is asks =
    let plain : x.end.layer.relink ≡ false = ap (λ (y : SwitchLine). y.end.layer.relink) (same_Some x l is) ∙ asks in
    let here : k ≡ line = omega arith in
    ap (λ (b : Bool). if b && x.end.layer.relink then Some k else first_to_relink rest (suc k) xs)
    (ap (λ n. has rest n) here ∙ is_out s rest line first)
    ∙ (asking_beyond s rest line first (suc k) xs (omega arith) ∙ sym (by_test (has s k) x.end.layer.relink plain))
  where
    by_test : (b r : Bool) → r ≡ false → (if b && r then Some k else first_to_relink s (suc k) xs) ≡ first_to_relink s
        (suc k) xs
    by_test true r e = ap (λ (q : Bool). if q then Some k else first_to_relink s (suc k) xs) e
    by_test false r e = refl
not_asking s rest line first k (suc i) (x ∷ xs) l at is asks =
    ap₂ (λ (b : Bool) (o : Option ℕ). if b && x.end.layer.relink then Some k else o)
    (is_same s rest line k first (λ e. omega (arith, e)))
    (not_asking s rest line first (suc k) i xs l (omega arith) is asks)

pub asking : (s rest : NumberSet) (line : ℕ) → IsFirstOf s line rest → (k i : ℕ) (ls : List SwitchLine) (l : SwitchLine) →
    k + i ≡ line → slice_get ls i ≡ Some l → l.end.layer.relink ≡ true →
    first_to_relink s k ls ≡ Some line
asking s rest line first k i [] l at is asks = absurd (none-some l is)
asking s rest line first k zero (x ∷ xs) l at is asks =
    let here : k ≡ line = omega arith in
    let does : x.end.layer.relink ≡ true = ap (λ (y : SwitchLine). y.end.layer.relink) (same_Some x l is) ∙ asks in
    ap₂ (λ (b r : Bool). if b && r then Some k else first_to_relink s (suc k) xs) (ap (λ n. has s n) here
    ∙ first.there) does ∙ ap Some here
asking s rest line first k (suc i) (x ∷ xs) l at is asks =
    ap (λ (b : Bool). if b && x.end.layer.relink then Some k else first_to_relink s (suc k) xs)
    (first.first k (omega arith))
    ∙ asking s rest line first (suc k) i xs l (omega arith) is asks

pub none_asking : (s : NumberSet) (k : ℕ) (ls : List SwitchLine) → ((n : ℕ) → has s n ≡ false) →
    first_to_relink s k ls ≡ None
none_asking s k [] none = refl
none_asking s k (l ∷ ls) none =
    ap (λ (b : Bool). if b && l.end.layer.relink then Some k else first_to_relink s (suc k) ls) (none k)
    ∙ none_asking s (suc k) ls none

further : (k : ℕ) → Option ℕ → Option ℕ
further k None = None
further k (Some n) = Some (k + n)

one_further : (k : ℕ) (o : Option ℕ) → further (suc k) o ≡ further k (raised o)
unfolding further
one_further k None = refl
one_further k (Some n) = let e : suc k + n ≡ k + suc n = omega arith in ap Some e

asking_further : (s : NumberSet) (k : ℕ) (ls : List SwitchLine) → ((i : ℕ) (l : SwitchLine) → has s (k + i) ≡ false →
    slice_get ls i ≡ Some l → l.end.layer.relink ≡ false) →
    first_to_relink s k ls ≡ further k (to_relink ls)
unfolding further
asking_further s k [] others = refl
asking_further s k (l ∷ ls) others =
    let here : k + 0 ≡ k = omega arith in
    let more = asking_further s (suc k) ls (λ i y out is. let next : k + suc i ≡ suc k + i = omega arith in
    others (suc i) y (ap (λ n. has s n) next ∙ out) is) in
    ap (λ (o : Option ℕ). if has s k && l.end.layer.relink then Some k else o) (more ∙ one_further k (to_relink ls))
    ∙ by_test (has s k) l.end.layer.relink (λ out. others 0 l (ap (λ n. has s n) here ∙ out) refl)
  where
    by_ask : (r : Bool) → (if r then Some k else further k (raised (to_relink ls))) ≡ further k
        (if r then Some 0 else raised (to_relink ls))
    by_ask true = let e : k ≡ k + 0 = omega arith in ap Some e
    by_ask false = refl

    by_test : (b r : Bool) → (b ≡ false → r ≡ false) → (if b && r then Some k else further k (raised (to_relink ls))) ≡
        further k (if r then Some 0 else raised (to_relink ls))
    by_test true r e = by_ask r
    by_test false r e = sym (ap (λ (q : Bool). further k (if q then Some 0 else raised (to_relink ls))) (e refl))

no_further : (o : Option ℕ) → further 0 o ≡ o
unfolding further
no_further None = refl
no_further (Some n) = let e : 0 + n ≡ n = omega arith in ap Some e

pub all_asking : (s : NumberSet) (ls : List SwitchLine) → ((i : ℕ) (l : SwitchLine) → has s i ≡ false →
    slice_get ls i ≡ Some l → l.end.layer.relink ≡ false) → first_to_relink s 0 ls ≡ to_relink ls
all_asking s ls others =
    asking_further s 0 ls (λ i l out is. let e : i ≡ 0 + i = omega arith in others i l (ap (λ n. has s n) e ∙ out) is)
    ∙ no_further (to_relink ls)

-- ---- as the code does it, line by line

pub line_changed : {X : Type 0} (s rest : NumberSet) (line : ℕ) (f : X → X) (xs : List X) (old new : X) →
    IsFirstOf s line rest → line < length xs → old ≡ get_or xs line old → new ≡ f (get_or xs line old) →
    changed_in rest f 0 (set xs line new) ≡ changed_in s f 0 xs
line_changed s rest line f xs old new first within is done =
    ap (λ ys. changed_in rest f 0 ys) (changed_here f xs line old new within is (done ∙ ap f (sym is)))
    ∙ one_changed s rest line first f 0 line xs (omega arith)

pub count_written : {X : Type 0} (xs : List X) (n : ℕ) (x : X) → length (set xs n x) ≡ length xs
count_written [] n x = refl
count_written (y ∷ ys) zero x = refl
count_written (y ∷ ys) (suc n) x = ap suc (count_written ys n x)

pub there_written : (s rest : NumberSet) (line : ℕ) (xs : List SwitchLine) (new : SwitchLine) → IsFirstOf s line rest →
    AreThere s xs → AreThere rest (set xs line new)
there_written s rest line xs new first within n is =
    let count = count_written xs line new in let inside = there_still s rest line xs first within n is in
    omega (arith, count, inside)

abbrev pub AgreeBut : (all s : NumberSet) → List SwitchLine → Type 0
AgreeBut all s xs = (n : ℕ) (x : SwitchLine) → has all n ≡ true → has s n ≡ false → slice_get xs n ≡ Some x →
    TimersAgree x.end.layer x.end.timers

pub written_here : (xs : List SwitchLine) (n : ℕ) (new x : SwitchLine) → slice_get (set xs n new) n ≡ Some x → new ≡ x
written_here [] n new x e = absurd (none-some x e)
written_here (y ∷ ys) zero new x e = same_Some new x e
written_here (y ∷ ys) (suc n) new x e = written_here ys n new x e

pub written_other : (xs : List SwitchLine) (n m : ℕ) (new : SwitchLine) → (m ≡ n → ⊥) →
    slice_get (set xs n new) m ≡ slice_get xs m
written_other [] n m new apart = refl
written_other (y ∷ ys) zero zero new apart = absurd (apart refl)
written_other (y ∷ ys) zero (suc m) new apart = refl
written_other (y ∷ ys) (suc n) zero new apart = refl
written_other (y ∷ ys) (suc n) (suc m) new apart = written_other ys n m new (λ e. apart (ap suc e))

pub timers_written : (all s rest : NumberSet) (line : ℕ) (xs : List SwitchLine) (new : SwitchLine) → IsFirstOf s line rest
    → AgreeBut all s xs → TimersAgree new.end.layer new.end.timers → AgreeBut all rest (set xs line new)
timers_written all s rest line xs new first before agrees n x in_all out found = go (cases_eq n line)
  where
    go : (n ≡ line) ⊎ (n ≡ line → ⊥) → TimersAgree x.end.layer x.end.timers
    go (inl e) = subst (λ (y : SwitchLine). TimersAgree y.end.layer y.end.timers)
        (written_here xs line new x (ap (λ k. slice_get (set xs line new) k) (sym e) ∙ found)) agrees
    go (inr apart) = before n x in_all (sym (is_same s rest line n first apart)
        ∙ out) (sym (written_other xs line n new apart) ∙ found)

pub found_at : (xs : List SwitchLine) (n : ℕ) (x : SwitchLine) → n < length xs → slice_get xs n ≡ Some (get_or xs n x)
found_at [] n x within = absurd (omega arith)
found_at (y ∷ ys) zero x within = refl
found_at (y ∷ ys) (suc n) x within = found_at ys n x (omega arith)

-- ---- which links take a packet

or_left : (b : Bool) → (b || false) ≡ b
or_left true = refl
or_left false = refl

-- the first line of a set is offered a packet, and is among those that took one if it did
pub one_offered : (s rest : NumberSet) (line : ℕ) (xs : List SwitchLine) (old new : SwitchLine) (took before after : Bool)
    (n : ℕ) → IsFirstOf s line rest → AreThere s xs → took ≡ may_offer (get_or xs line old) →
    after ≡ (before || (took && n == line)) →
    (after || (has rest n && offers_on (slice_get (set xs line new) n))) ≡
    (before || (has s n && offers_on (slice_get xs n)))
one_offered s rest line xs old new took before after n first within offers adds = by_line (cases_eq n line)
  where
    by_line : (n ≡ line) ⊎ (n ≡ line → ⊥) → (after || (has rest n && offers_on (slice_get (set xs line new) n))) ≡
        (before || (has s n && offers_on (slice_get xs n)))
    by_line (inl e) =
        let out = ap (λ k. has rest k) e ∙ is_out s rest line first in
        let in_it = ap (λ k. has s k) e ∙ first.there in
        let found = ap (λ k. slice_get xs k) e ∙ found_at xs line old (within line first.there) in
        ap₂ (λ (a b : Bool). a || (b && offers_on (slice_get (set xs line new) n)))
        (adds ∙ ap (λ (b : Bool). before || (took && b)) (eq-eqb n line e)) out
        ∙ at_line took
        ∙ ap (λ (b : Bool). before || b) (offers ∙ ap (λ (o : Option SwitchLine). offers_on o) (sym found))
        ∙ ap (λ (b : Bool). before || (b && offers_on (slice_get xs n))) (sym in_it)
      where
        at_line : (t : Bool) → ((before || (t && true)) || false) ≡ (before || t)
        at_line true = or_left (before || true)
        at_line false = or_left (before || false)
    by_line (inr apart) =
        ap₂ (λ (a b : Bool). a || (b && offers_on (slice_get (set xs line new) n)))
        (adds ∙ ap (λ (b : Bool). before || (took && b)) (ne_eqb n line apart) ∙ no_line took)
        (is_same s rest line n first apart)
        ∙ ap (λ (o : Option SwitchLine). before || (has s n && offers_on o)) (written_other xs line n new apart)
      where
        no_line : (t : Bool) → (before || (t && false)) ≡ before
        no_line true = or_left before
        no_line false = or_left before

pub none_offered : (s : NumberSet) (n : ℕ) (b o : Bool) → has s n ≡ false → b ≡ (b || (has s n && o))
none_offered s n b o out = sym (ap (λ (c : Bool). b || (c && o)) out ∙ or_left b)

pub count_kept : {X : Type 0} (xs : List X) (n most : ℕ) (x : X) → length xs ≤ most → length (set xs n x) ≤ most
count_kept xs n most x within = let count = count_written xs n x in omega (arith, count)

pub asks_not : (s rest : NumberSet) (line : ℕ) (xs : List SwitchLine) (old : SwitchLine) (asks : Bool) →
    IsFirstOf s line rest → AreThere s xs → asks ≡ (get_or xs line old).end.layer.relink → asks ≡ false →
    first_to_relink rest 0 xs ≡ first_to_relink s 0 xs
asks_not s rest line xs old asks first within is none =
    not_asking s rest line first 0 line xs (get_or xs line old) (omega arith)
    (found_at xs line old (within line first.there)) (sym is ∙ none)

pub asks : (s rest : NumberSet) (line : ℕ) (xs : List SwitchLine) (old : SwitchLine) (asks : Bool) → IsFirstOf s line rest
    → AreThere s xs → asks ≡ (get_or xs line old).end.layer.relink → asks ≡ true →
    first_to_relink s 0 xs ≡ Some line
asks s rest line xs old b first within is some =
    asking s rest line first 0 line xs (get_or xs line old) (omega arith)
    (found_at xs line old (within line first.there)) (sym is ∙ some)
