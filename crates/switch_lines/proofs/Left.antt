-- What is left to do on the lines of a switch, after each call.
use Rattle.std.proofs.Common.{◌≡◌, ℕ, zero, suc, ◌+◌, ◌<◌, ◌≤◌, Bool, true, false, if◌then◌else◌, ◌&&◌, ◌||◌, ◌==◌, List, []}
use Rattle.std.proofs.Common.{◌∷◌, ◌++◌, map, take, drop, length, set, get_or, refl, sym, ap, subst, ◌∙◌, true≢false}
use Rattle.std.proofs.Common.{arith, inl, inr}
use Rattle.std.specs.Prelude.{◌⊎◌, Option, Some, None, nat_lt, slice_get}
use Rattle.std.specs.List.{list_any}
use Rattle.std.proofs.lemmas.Bool.{eq-eqb, ne_eqb, cases_eq, ltb-true, lt-ltb, or_parts}
use Rattle.std.proofs.lemmas.Option.{none-some, same_Some}
use Rattle.packet_layer.specs.LayerTimers.{TimersAgree}
use Rattle.packet_end.specs.PacketEnd.{begun, settled, all_offered}
use Rattle.number_set.specs.declared.NumberSet.{NumberSet}
use Rattle.number_set.specs.NumberSet.{has}
use Rattle.switch_lines.specs.Lines.{SwitchLine}
use Rattle.switch_lines.specs.Switch.{with_end, may_offer, raised, to_relink, frames_on}
use Rattle.switch_lines.specs.Touched.{AreThere, HasAllFrames, IsSettled, IsTaken, NothingElseIsLeft, changed_in, offers_on}
use Rattle.switch_lines.proofs.Changing.{there}
use Rattle.switch_lines.proofs.Ending.{written, offer_none}
use Rattle.switch_joins.proofs.Apart.{decided}
use Rattle.switch_lines.proofs.Settling.{stays_settled, is_settled, stays_taken}
use Rattle.switch_lines.proofs.Touched.{count_written, written_here, written_other, all_are_changed, others_same}
use Rattle.switch_lines.proofs.Touched.{same_count, first_to_relink, all_asking}

abbrev pub Lines : Type 0
Lines = List SwitchLine

-- ---- one line changes

there_set : (s : NumberSet) (xs : Lines) (n : ℕ) (y : SwitchLine) → AreThere s xs → AreThere s (set xs n y)
there_set s xs n y h m is = let count = count_written xs n y in let within = h m is in omega (arith, count, within)

-- the line is touched
pub line_touched : (s t u : NumberSet) (xs : Lines) (n : ℕ) (y : SwitchLine) → n < length xs →
    ((m : ℕ) → has t m ≡ (has s m || m == n)) →
    NothingElseIsLeft s u xs → NothingElseIsLeft t u (set xs n y)
line_touched s t u xs n y within touches h =
    record {
      touched_there = λ m is. let count = count_written xs n y in let inside = by_line m (cases_eq m n) is in
          omega (arith, count, inside);
      untaken_there = there_set u xs n y h.untaken_there;
      settled = λ m l out is. let o = outside m out in h.settled m l o.0 (sym (written_other xs n m y o.1) ∙ is);
      taken = λ m l out taken is. let o = outside m out in h.taken m l o.0 taken (sym (written_other xs n m y o.1)
          ∙ is);
    }
  where
    outside : (m : ℕ) → has t m ≡ false → (has s m ≡ false) × (m ≡ n → ⊥)
    outside m out =
        let parts = or_parts (has s m) (m == n) (sym (touches m) ∙ out) in
        (parts.0, λ e. true≢false (sym (eq-eqb m n e) ∙ parts.1))

    by_line : (m : ℕ) → (m ≡ n) ⊎ (m ≡ n → ⊥) → has t m ≡ true → m < length xs
    by_line m (inl e) is = omega (arith, e, within)
    by_line m (inr apart) is = h.touched_there m (sym (ap (λ (b : Bool). has s m || b) (ne_eqb m n apart)
        ∙ or_no (has s m)) ∙ (sym (touches m) ∙ is))
      where
        or_no : (b : Bool) → (b || false) ≡ b
        or_no true = refl
        or_no false = refl

-- it changes in nothing that is left to do
pub line_stays : (s u : NumberSet) (xs : Lines) (n : ℕ) (x y : SwitchLine) → n < length xs → x ≡ get_or xs n x →
    (IsSettled x → IsSettled y) → (IsTaken x → IsTaken y) →
    NothingElseIsLeft s u xs → NothingElseIsLeft s u (set xs n y)
line_stays s u xs n x y within is settles takes h = record {
  touched_there = there_set s xs n y h.touched_there;
  untaken_there = there_set u xs n y h.untaken_there;
  settled = λ m l out found. settled_at m l out found (cases_eq m n);
  taken = λ m l out taken found. taken_at m l out taken found (cases_eq m n);
}
  where
    settled_at : (m : ℕ) (l : SwitchLine) → has s m ≡ false → slice_get (set xs n y) m ≡ Some l → (m ≡ n) ⊎ (m ≡ n → ⊥)
        → IsSettled l
    settled_at m l out found (inl e) =
        subst (λ (k : SwitchLine). IsSettled k) (written_here xs n y l (ap (λ k. slice_get (set xs n y) k) (sym e)
        ∙ found)) (settles (h.settled n x (ap (λ k. has s k) (sym e) ∙ out) (there xs n x within is)))
    settled_at m l out found (inr apart) = h.settled m l out (sym (written_other xs n m y apart) ∙ found)

    taken_at : (m : ℕ) (l : SwitchLine) → has s m ≡ false → has u m ≡ false → slice_get (set xs n y) m ≡ Some l →
        (m ≡ n) ⊎ (m ≡ n → ⊥) → IsTaken l
    taken_at m l out taken found (inl e) =
        subst (λ (k : SwitchLine). IsTaken k) (written_here xs n y l (ap (λ k. slice_get (set xs n y) k) (sym e)
        ∙ found))
        (takes (h.taken n x (ap (λ k. has s k) (sym e) ∙ out) (ap (λ k. has u k) (sym e)
        ∙ taken) (there xs n x within is)))
    taken_at m l out taken found (inr apart) = h.taken m l out taken (sym (written_other xs n m y apart) ∙ found)

-- only its joins change
pub joins_change : (s u : NumberSet) (xs : Lines) (n : ℕ) (x y : SwitchLine) → n < length xs → x ≡ get_or xs n x →
    y.end ≡ x.end →
    NothingElseIsLeft s u xs → NothingElseIsLeft s u (set xs n y)
joins_change s u xs n x y within is same h =
    line_stays s u xs n x y within is
    (λ i. subst (λ (e : _). IsSettled (record y { end = e })) (sym same)
    (record { timers = i.timers; sent = i.sent; offered = i.offered; no_relink = i.no_relink }))
    (λ i. subst (λ (e : _). IsTaken (record y { end = e })) (sym same) (record { frames = i.frames; notes = i.notes }))
    h

-- ---- all lines change

found_in : {X Y : Type 0} (f : X → Y) (xs : List X) (n : ℕ) (y : Y) → slice_get (map f xs) n ≡ Some y →
    (x : X) × (slice_get xs n ≡ Some x) × (f x ≡ y)
found_in f [] n y e = absurd (none-some y e)
found_in f (x ∷ xs) zero y e = (x, refl, same_Some (f x) y e)
found_in f (x ∷ xs) (suc n) y e = found_in f xs n y e

pub count_map : (f : SwitchLine → SwitchLine) (xs : Lines) → length (map f xs) ≡ length xs
count_map f [] = refl
count_map f (x ∷ xs) = ap suc (count_map f xs)

there_map : (s : NumberSet) (f : SwitchLine → SwitchLine) (xs : Lines) → AreThere s xs → AreThere s (map f xs)
there_map s f xs h m is = let count = count_map f xs in let within = h m is in omega (arith, count, within)

pub all_stay : (s u : NumberSet) (xs : Lines) (f : SwitchLine → SwitchLine) →
    ((l : SwitchLine) → IsSettled l → IsSettled (f l)) → ((l : SwitchLine) → IsTaken l → IsTaken (f l)) →
    NothingElseIsLeft s u xs → NothingElseIsLeft s u (map f xs)
all_stay s u xs f settles takes h = record {
  touched_there = there_map s f xs h.touched_there;
  untaken_there = there_map u f xs h.untaken_there;
  settled = λ m l out found. let x = found_in f xs m l found in subst (λ (k : SwitchLine). IsSettled k) x.2
      (settles x.0 (h.settled m x.0 out x.1));
  taken = λ m l out taken found. let x = found_in f xs m l found in subst (λ (k : SwitchLine). IsTaken k) x.2
      (takes x.0 (h.taken m x.0 out taken x.1));
}

found_within : (xs : Lines) (n : ℕ) (l : SwitchLine) → slice_get xs n ≡ Some l → n < length xs
found_within [] n l e = absurd (none-some l e)
found_within (x ∷ xs) zero l e = omega arith
found_within (x ∷ xs) (suc n) l e = let more = found_within xs n l e in omega (arith, more)

-- each of them is touched
pub all_touched : (s u : NumberSet) (xs : Lines) → ((n : ℕ) → has s n ≡ nat_lt n (length xs)) → AreThere u xs →
    NothingElseIsLeft s u xs
all_touched s u xs all untaken = record {
  touched_there = λ n is. ltb-true n (length xs) (sym (all n) ∙ is);
  untaken_there = untaken;
  settled = λ n l out found. none n l out found;
  taken = λ n l out taken found. none n l out found;
}
  where
    none : {P : Type 0} (n : ℕ) (l : SwitchLine) → has s n ≡ false → slice_get xs n ≡ Some l → P
    none n l out found = absurd (true≢false (sym (all n ∙ lt-ltb n (length xs) (found_within xs n l found)) ∙ out))

-- ---- an event begins

pub begun_all : (s u v w : NumberSet) (xs ys : Lines) → ((n : ℕ) → has w n ≡ (has s n || has u n)) →
    ((n : ℕ) → has v n ≡ false) → ys ≡ changed_in w (with_end begun) 0 xs →
    NothingElseIsLeft s u xs → (ys ≡ map (with_end begun) xs) × NothingElseIsLeft s v ys
begun_all s u v w xs ys both none is h = (all, subst (λ (zs : Lines). NothingElseIsLeft s v zs) (sym all) after)
  where
    all : ys ≡ map (with_end begun) xs
    all = is ∙ all_are_changed w (with_end begun) 0 xs (λ i l out found.
        let here : i ≡ 0 + i = omega arith in
        let parts = or_parts (has s i) (has u i) (sym (both i) ∙ (ap (λ n. has w n) here ∙ out)) in
        stays_taken l (h.taken i l parts.0 parts.1 found))

    after : NothingElseIsLeft s v (map (with_end begun) xs)
    after = record {
      touched_there = there_map s (with_end begun) xs h.touched_there;
      untaken_there = λ n is. absurd (true≢false (sym is ∙ none n));
      settled = λ m l out found.
          let x = found_in (with_end begun) xs m l found in
          let i = h.settled m x.0 out x.1 in
          subst (λ (k : SwitchLine). IsSettled k) x.2 (record {
            timers = i.timers;
            sent =
                record { link = i.sent.link; frames = i.sent.frames; timer = i.sent.timer };
            offered = i.offered;
            no_relink = i.no_relink;
          });
      taken = λ m l out taken found.
          let x = found_in (with_end begun) xs m l found in
          subst (λ (k : SwitchLine). IsTaken k) x.2 (record { frames = refl; notes = refl });
    }

-- ---- touched lines alone change

there_in : (s t : NumberSet) (f : SwitchLine → SwitchLine) (xs : Lines) → AreThere s xs → AreThere s (changed_in t f 0 xs)
there_in s t f xs h m is = let count = same_count t f 0 xs in let within = h m is in omega (arith, count, within)

same_line : (t : NumberSet) (f : SwitchLine → SwitchLine) (xs : Lines) (m : ℕ) (l : SwitchLine) → has t m ≡ false →
    slice_get (changed_in t f 0 xs) m ≡ Some l → slice_get xs m ≡ Some l
same_line t f xs m l out found = let here : 0 + m ≡ m = omega arith in
    sym (others_same t f 0 m xs (ap (λ n. has t n) here ∙ out)) ∙ found

pub touched_change : (s u v : NumberSet) (f : SwitchLine → SwitchLine) (xs ys : Lines) → ys ≡ changed_in s f 0 xs →
    AreThere v xs → ((n : ℕ) → has v n ≡ false → has u n ≡ false) →
    NothingElseIsLeft s u xs → NothingElseIsLeft s v ys
touched_change s u v f xs ys is within more h =
    subst (λ (zs : Lines). NothingElseIsLeft s v zs) (sym is) (record {
      touched_there = there_in s s f xs h.touched_there;
      untaken_there = there_in v s f xs within;
      settled = λ m l out found. h.settled m l out (same_line s f xs m l out found);
      taken = λ m l out taken found. h.taken m l out (more m taken) (same_line s f xs m l out found);
    })

-- ---- they settle

none_offers : (xs : Lines) (n : ℕ) (l : SwitchLine) → list_any may_offer xs ≡ false → slice_get xs n ≡ Some l →
    may_offer l ≡ false
none_offers [] n l e found = absurd (none-some l found)
none_offers (x ∷ xs) zero l e found = ap may_offer (sym (same_Some x l found))
    ∙ (or_parts (may_offer x) (list_any may_offer xs) e).0
none_offers (x ∷ xs) (suc n) l e found = none_offers xs n l (or_parts (may_offer x) (list_any may_offer xs) e).1 found

no_raise : (b : Bool) (o : Option ℕ) → (if b then Some 0 else raised o) ≡ None → (b ≡ false) × (o ≡ None)
no_raise true o e = absurd (none-some 0 (sym e))
no_raise false None e = (refl, refl)
no_raise false (Some n) e = absurd (none-some (suc n) (sym e))

none_asks : (xs : Lines) (n : ℕ) (l : SwitchLine) → to_relink xs ≡ None → slice_get xs n ≡ Some l →
    l.end.layer.relink ≡ false
none_asks [] n l e found = absurd (none-some l found)
none_asks (x ∷ xs) zero l e found = ap (λ (k : SwitchLine). k.end.layer.relink) (sym (same_Some x l found))
    ∙ (no_raise x.end.layer.relink (to_relink xs) e).0
none_asks (x ∷ xs) (suc n) l e found = none_asks xs n l (no_raise x.end.layer.relink (to_relink xs) e).1 found

pub settled_all : (s u : NumberSet) (xs ys : Lines) → ys ≡ changed_in s (with_end settled) 0 xs → NothingElseIsLeft s u xs
    → ys ≡ map (with_end settled) xs
settled_all s u xs ys is h =
    is ∙ all_are_changed s (with_end settled) 0 xs (λ i l out found. let here : i ≡ 0 + i = omega arith in
    stays_settled l (h.settled i l (ap (λ n. has s n) here ∙ out) found))

pub none_left : (s t u v : NumberSet) (xs ys : Lines) → ys ≡ changed_in s (with_end settled) 0 xs →
    ((n : ℕ) → has t n ≡ false) → ((n : ℕ) → has v n ≡ (has u n || has s n)) →
    ((n : ℕ) (l : SwitchLine) → has s n ≡ true → slice_get ys n ≡ Some l → TimersAgree l.end.layer l.end.timers) →
    list_any may_offer xs ≡ false → to_relink xs ≡ None →
    NothingElseIsLeft s u xs → NothingElseIsLeft t v ys
none_left s t u v xs ys is none both timers offers relinks h = record {
  touched_there = λ n has_it. absurd (true≢false (sym has_it ∙ none n));
  untaken_there = λ n has_it. within n has_it (decided (has s n));
  settled = λ m l out found. settled_at m l found (decided (has s m));
  taken = λ m l out taken found.
      let parts = or_parts (has u m) (has s m) (sym (both m) ∙ taken) in
      h.taken m l parts.1 parts.0 (same_line s (with_end settled) xs m l parts.1
      (ap (λ (zs : Lines). slice_get zs m) (sym is) ∙ found));
}
  where
    count : length ys ≡ length xs
    count = ap (λ (zs : Lines). length zs) is ∙ same_count s (with_end settled) 0 xs

    within : (n : ℕ) → has v n ≡ true → (has s n ≡ true) ⊎ (has s n ≡ false) → n < length ys
    within n has_it (inl t_) = let inside = h.touched_there n t_ in omega (arith, count, inside)
    within n has_it (inr f_) =
        let inside = h.untaken_there n (sym (ap (λ (b : Bool). has u n || b) f_ ∙ or_no (has u n))
        ∙ (sym (both n) ∙ has_it)) in
        omega (arith, count, inside)
      where
        or_no : (b : Bool) → (b || false) ≡ b
        or_no true = refl
        or_no false = refl

    settled_at : (m : ℕ) (l : SwitchLine) → slice_get ys m ≡ Some l → (has s m ≡ true) ⊎ (has s m ≡ false) → IsSettled l
    settled_at m l found (inl t_) =
        let x = found_in (with_end settled) xs m l (ap (λ (zs : Lines). slice_get zs m)
        (sym (settled_all s u xs ys is h)) ∙ found) in
        let agree = subst (λ (k : SwitchLine). TimersAgree k.end.layer k.end.timers) (sym x.2) (timers m l t_ found) in
        subst (λ (k : SwitchLine). IsSettled k) x.2 (is_settled x.0 agree (none_offers xs m x.0 offers x.1)
        (none_asks xs m x.0 relinks x.1))
    settled_at m l found (inr f_) = h.settled m l f_ (same_line s (with_end settled) xs m l f_
        (ap (λ (zs : Lines). slice_get zs m) (sym is) ∙ found))

-- ---- as the code does it

-- what is seen of a line
pub seen_at : (xs ms : Lines) (n : ℕ) (x : SwitchLine) → xs ≡ ms → n < length xs → x ≡ get_or xs n x →
    Some x ≡ slice_get ms n
seen_at xs ms n x seen within is = sym (there xs n x within is) ∙ ap (λ (ls : Lines). slice_get ls n) seen

-- the lines are written back
pub written_back : {X : Type 0} (P : List X → Type 0) (len : ℕ) (xs ys : List X) → length ys ≡ length xs → length xs ≤ len → P ys →
    P (take len (ys ++ drop (length ys) xs))
written_back P len xs ys same within h = subst P (sym (written len xs ys same within)) h

pub same_size : {X : Type 0} (s : NumberSet) (f : X → X) (xs ys : List X) → ys ≡ changed_in s f 0 xs →
    length ys ≡ length xs
same_size s f xs ys is = ap (λ zs. length zs) is ∙ same_count s f 0 xs

pub touched_are_there : (s u : NumberSet) (xs ys : Lines) → ys ≡ xs → NothingElseIsLeft s u xs → AreThere s ys
touched_are_there s u xs ys is h = subst (λ (zs : Lines). AreThere s zs) (sym is) h.touched_there

pub both_are_there : (s t u : NumberSet) (xs ys : Lines) → ys ≡ xs → ((n : ℕ) → has u n ≡ (has s n || has t n)) →
    AreThere s xs → AreThere t xs → AreThere u ys
both_are_there s t u xs ys is both first second = subst (λ (zs : Lines). AreThere u zs) (sym is)
    (λ n has_it. by_set n (sym (both n) ∙ has_it) (decided (has s n)))
  where
    by_set : (n : ℕ) → (has s n || has t n) ≡ true → (has s n ≡ true) ⊎ (has s n ≡ false) → n < length xs
    by_set n either (inl a) = first n a
    by_set n either (inr b) = second n (sym (ap (λ (c : Bool). c || has t n) b) ∙ either)

pub in_neither : (s t u : NumberSet) → ((n : ℕ) → has u n ≡ (has s n || has t n)) → (n : ℕ) → has u n ≡ false →
    has s n ≡ false
in_neither s t u both n out = (or_parts (has s n) (has t n) (sym (both n) ∙ out)).0

-- no frame waits on a line of neither set
pub no_frames : (s t u : NumberSet) (xs : Lines) → ((n : ℕ) → has u n ≡ (has s n || has t n)) → NothingElseIsLeft s t xs
    → HasAllFrames u xs
no_frames s t u xs both h n out = by (slice_get xs n) refl
  where
    by : (o : Option SwitchLine) → slice_get xs n ≡ o → frames_on o ≡ []
    by None found = refl
    by (Some l) found =
        let neither = or_parts (has s n) (has t n) (sym (both n) ∙ out) in
        (h.taken n l neither.0 neither.1 found).frames

-- what is offered, and which link has to be set up anew
pub offering_all : (s u : NumberSet) (xs : Lines) → NothingElseIsLeft s u xs → (n : ℕ) →
    (has s n && offers_on (slice_get xs n)) ≡ offers_on (slice_get xs n)
offering_all s u xs h n = by_test (decided (has s n))
  where
    untouched : (o : Option SwitchLine) → slice_get xs n ≡ o → has s n ≡ false → offers_on o ≡ false
    untouched None at out = refl
    untouched (Some l) at out = (h.settled n l out at).offered

    by_test : (has s n ≡ true) ⊎ (has s n ≡ false) →
        (has s n && offers_on (slice_get xs n)) ≡ offers_on (slice_get xs n)
    by_test (inl is) = ap (λ (b : Bool). b && offers_on (slice_get xs n)) is
    by_test (inr out) = ap (λ (b : Bool). b && offers_on (slice_get xs n)) out ∙ sym (untouched (slice_get xs n) refl out)

pub offered_all : (s u : NumberSet) (xs : Lines) → NothingElseIsLeft s u xs →
    changed_in s (with_end all_offered) 0 xs ≡ map (with_end all_offered) xs
offered_all s u xs h =
    all_are_changed s (with_end all_offered) 0 xs (λ i l out found.
    let here : i ≡ 0 + i = omega arith in
    let none = offer_none l.end (h.settled i l (ap (λ n. has s n) here ∙ out) found).offered in
    λ k. record l { end = none k })

pub relink_of_all : (s u : NumberSet) (xs : Lines) → NothingElseIsLeft s u xs → first_to_relink s 0 xs ≡ to_relink xs
relink_of_all s u xs h = all_asking s xs (λ i l out found. (h.settled i l out found).no_relink)

few_taken : {X Y : Type 0} (f : X → Y) (k : ℕ) (xs : List X) → length (map f (take k xs)) ≤ length xs
few_taken f zero xs = omega arith
few_taken f (suc k) [] = omega arith
few_taken f (suc k) (x ∷ xs) = let more = few_taken f k xs in omega (arith, more)

pub few_made : {X Y : Type 0} (f : X → Y) (k most : ℕ) (xs : List X) (ys : List Y) → ys ≡ map f (take k xs) →
    length xs ≤ most → length ys ≤ most
few_made f k most xs ys is within =
    let count : length ys ≡ length (map f (take k xs)) = ap (λ zs. length zs) is in let few = few_taken f k xs in
    omega (arith, count, few, within)
