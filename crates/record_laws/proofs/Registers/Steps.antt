-- Steps of a write, made in the book of a line and in what the register has of this line alike.
use Rattle.std.proofs.Common.{◌≡◌, ◌≢◌, ℕ, zero, suc, ◌<◌, ◌⊎◌, inl, inr, List, [], ◌∷◌, ◌++◌, length, set, Option, Some, None, refl, sym, ap, subst, ◌∙◌, arith}
use Rattle.std.specs.Prelude.{slice_get}
use Rattle.std.proofs.lemmas.Option.{none-some, same_Some, slice_get_within}
use Rattle.link_timers.specs.declared.role.Role.{Role}
use Rattle.link_timers.specs.declared.role.Role.TheVariants.{Dte, Dce}
use Rattle.call_records.specs.Records.{RecordValue, PairValue, changed_at}
use Rattle.call_records.specs.Book.{Book, Slot, Side, nth_slot, with_nth, found_slot, side_of, with_slot, with_change, with_record, with_pair}
use Rattle.record_laws.proofs.Books.Basics.{get_there, get_before, get_last, get_pushed, length_set, length_pushed, length_changed, number_is, order}
use Rattle.record_laws.specs.Registers.Seen.{positions, IsNumbered, renumbered, RecordIsSeen, PairIsSeen, SlotIsSeen, SideIsSeen, LineIsSeen, AreLines}
use Rattle.record_laws.proofs.Registers.Positions.{is_place, rises_from, one_here, one_elsewhere}

-- ---- a line's book beside what the register has of the line, which of `lines` is number `line`

pub record Beside : Type 0 where
  pub owners : List ℕ
  pub pair_owners : List ℕ
  pub own : Book
  pub seen : Book

pub record IsRight (lines j : ℕ) (x : Beside) : Type 0 where
  pub records_owned : length x.owners ≡ length x.seen.records
  pub pairs_owned : length x.pair_owners ≡ length x.seen.pairs
  pub of_lines : AreLines lines x.owners
  pub pairs_of_lines : AreLines lines x.pair_owners
  pub there : j < lines
  pub line : LineIsSeen (positions j x.owners) (positions j x.pair_owners) x.own x.seen

-- what is of other lines stays
pub record Leaves (line : ℕ) (x y : Beside) : Type 0 where
  pub owners : (k : ℕ) → k ≢ line → positions k y.owners ≡ positions k x.owners
  pub pair_owners : (k : ℕ) → k ≢ line → positions k y.pair_owners ≡ positions k x.pair_owners
  pub records : (k i n : ℕ) → k ≢ line → slice_get (positions k x.owners) i ≡ Some n → slice_get y.seen.records n ≡ slice_get x.seen.records n
  pub pairs : (k i n : ℕ) → k ≢ line → slice_get (positions k x.pair_owners) i ≡ Some n → slice_get y.seen.pairs n ≡ slice_get x.seen.pairs n

pub record Leads (lines line : ℕ) (x : Beside) (own seen : Book) : Type 0 where
  pub owners : List ℕ
  pub pair_owners : List ℕ
  pub is_right : IsRight lines line (record { owners = owners; pair_owners = pair_owners; own = own; seen = seen })
  pub leaves : Leaves line x (record { owners = owners; pair_owners = pair_owners; own = own; seen = seen })

abbrev pub after : (lines line : ℕ) (x : Beside) (own seen : Book) → Leads lines line x own seen → Beside
after lines line x own seen h = record { owners = h.owners; pair_owners = h.pair_owners; own = own; seen = seen }

pub no_step : (lines line : ℕ) (x : Beside) → IsRight lines line x → Leads lines line x x.own x.seen
no_step lines line x h = record {
  owners = x.owners;
  pair_owners = x.pair_owners;
  is_right = record {
    records_owned = h.records_owned;
    pairs_owned = h.pairs_owned;
    of_lines = h.of_lines;
    pairs_of_lines = h.pairs_of_lines;
    there = h.there;
    line = h.line;
  };
  leaves = record {
    owners = λ k other. refl;
    pair_owners = λ k other. refl;
    records = λ k i n other at. refl;
    pairs = λ k i n other at. refl;
  };
}

-- two steps, one after the other
pub then : (lines line : ℕ) (x : Beside) (own seen own2 seen2 : Book) (h : Leads lines line x own seen)
    → Leads lines line (after lines line x own seen h) own2 seen2 → Leads lines line x own2 seen2
then lines line x own seen own2 seen2 h g = record {
  owners = g.owners;
  pair_owners = g.pair_owners;
  is_right = g.is_right;
  leaves = record {
    owners = λ k other. g.leaves.owners k other ∙ h.leaves.owners k other;
    pair_owners = λ k other. g.leaves.pair_owners k other ∙ h.leaves.pair_owners k other;
    records = λ k i n other at.
        g.leaves.records k i n other (ap (λ (ns : List ℕ). slice_get ns i) (h.leaves.owners k other) ∙ at)
        ∙ h.leaves.records k i n other at;
    pairs = λ k i n other at.
        g.leaves.pairs k i n other (ap (λ (ns : List ℕ). slice_get ns i) (h.leaves.pair_owners k other) ∙ at)
        ∙ h.leaves.pairs k i n other at;
  };
}

-- ---- slots

put_same : (numbers : List ℕ) (xs ys : List Slot) (n : ℕ) (s t : Slot)
    → length ys ≡ length xs → ((i : ℕ) → SlotIsSeen numbers (found_slot (slice_get xs i)) (found_slot (slice_get ys i)))
    → SlotIsSeen numbers s t
    → (i : ℕ) → SlotIsSeen numbers (found_slot (slice_get (set xs n s) i)) (found_slot (slice_get (set ys n t) i))
put_same numbers [] [] n s t e h w i = h i
put_same numbers [] (y ∷ ys) n s t e h w i = absurd (omega arith)
put_same numbers (x ∷ xs) [] n s t e h w i = absurd (omega arith)
put_same numbers (x ∷ xs) (y ∷ ys) zero s t e h w zero = w
put_same numbers (x ∷ xs) (y ∷ ys) zero s t e h w (suc i) = h (suc i)
put_same numbers (x ∷ xs) (y ∷ ys) (suc n) s t e h w zero = h 0
put_same numbers (x ∷ xs) (y ∷ ys) (suc n) s t e h w (suc i) = put_same numbers xs ys n s t (omega arith) (λ k. h (suc k)) w i

nth_same : (numbers : List ℕ) (xs ys : List Slot) (c : ℕ) (s t : Slot)
    → length ys ≡ length xs → ((d : ℕ) → SlotIsSeen numbers (nth_slot xs d) (nth_slot ys d)) → SlotIsSeen numbers s t
    → (d : ℕ) → SlotIsSeen numbers (nth_slot (with_nth xs c s) d) (nth_slot (with_nth ys c t) d)
nth_same numbers xs ys zero s t e h w d = h d
nth_same numbers xs ys (suc c) s t e h w zero = h 0
nth_same numbers xs ys (suc c) s t e h w (suc d) = put_same numbers xs ys c s t e (λ i. h (suc i)) w d

nth_length : (xs : List Slot) (c : ℕ) (s : Slot) → length (with_nth xs c s) ≡ length xs
nth_length xs zero s = refl
nth_length xs (suc c) s = length_set xs c s

side_put : (numbers : List ℕ) (own seen : Side) (c : ℕ) (s t : Slot) → SideIsSeen numbers own seen → SlotIsSeen numbers s t
    → SideIsSeen numbers (record own { slots = with_nth own.slots c s }) (record seen { slots = with_nth seen.slots c t })
side_put numbers own seen c s t h w = record {
  node = h.node;
  address = h.address;
  channels = nth_length seen.slots c t ∙ h.channels ∙ sym (nth_length own.slots c s);
  slot = nth_same numbers own.slots seen.slots c s t h.channels h.slot w;
}

sides_put : (numbers : List ℕ) (role : Role) (c : ℕ) (s t : Slot) (own seen : Book)
    → ((end : Role) → SideIsSeen numbers (side_of end own) (side_of end seen)) → SlotIsSeen numbers s t
    → (end : Role) → SideIsSeen numbers (side_of end (with_slot role c s own)) (side_of end (with_slot role c t seen))
sides_put numbers Dte c s t own seen h w Dte = side_put numbers own.dte seen.dte c s t (h Dte) w
sides_put numbers Dte c s t own seen h w Dce = h Dce
sides_put numbers Dce c s t own seen h w Dte = h Dte
sides_put numbers Dce c s t own seen h w Dce = side_put numbers own.dce seen.dce c s t (h Dce) w

pub records_put : (role : Role) (c : ℕ) (s : Slot) (b : Book) → (with_slot role c s b).records ≡ b.records
records_put Dte c s b = refl
records_put Dce c s b = refl

pub pairs_put : (role : Role) (c : ℕ) (s : Slot) (b : Book) → (with_slot role c s b).pairs ≡ b.pairs
pairs_put Dte c s b = refl
pairs_put Dce c s b = refl

-- what is kept of a channel
pub puts : (lines line : ℕ) (x : Beside) (role : Role) (c : ℕ) (s t : Slot) → IsRight lines line x
    → SlotIsSeen (positions line x.owners) s t → Leads lines line x (with_slot role c s x.own) (with_slot role c t x.seen)
puts lines line x role c s t h w = record {
  owners = x.owners;
  pair_owners = x.pair_owners;
  is_right = record {
    records_owned = h.records_owned ∙ ap (λ (rs : List RecordValue). length rs) (sym (records_put role c t x.seen));
    pairs_owned = h.pairs_owned ∙ ap (λ (ps : List PairValue). length ps) (sym (pairs_put role c t x.seen));
    of_lines = h.of_lines;
    pairs_of_lines = h.pairs_of_lines;
    there = h.there;
    line = record {
      count = ap (λ (rs : List RecordValue). length rs) (records_put role c s x.own) ∙ h.line.count;
      records = λ i n at. subst (λ (rs : List RecordValue). RecordIsSeen (positions line x.owners) rs (with_slot role c t x.seen).records i n) (sym (records_put role c s x.own))
          (subst (λ (rs : List RecordValue). RecordIsSeen (positions line x.owners) x.own.records rs i n) (sym (records_put role c t x.seen)) (h.line.records i n at));
      pair_count = ap (λ (ps : List PairValue). length ps) (pairs_put role c s x.own) ∙ h.line.pair_count;
      pairs = λ i n at. subst (λ (ps : List PairValue). PairIsSeen (positions line x.owners) ps (with_slot role c t x.seen).pairs i n) (sym (pairs_put role c s x.own))
          (subst (λ (ps : List PairValue). PairIsSeen (positions line x.owners) x.own.pairs ps i n) (sym (pairs_put role c t x.seen)) (h.line.pairs i n at));
      sides = sides_put (positions line x.owners) role c s t x.own x.seen h.line.sides w;
    };
  };
  leaves = record {
    owners = λ k other. refl;
    pair_owners = λ k other. refl;
    records = λ k i n other at. ap (λ (rs : List RecordValue). slice_get rs n) (records_put role c t x.seen);
    pairs = λ k i n other at. ap (λ (ps : List PairValue). slice_get ps n) (pairs_put role c t x.seen);
  };
}

-- ---- a record changes

-- the change does not look at the numbers, and leaves them
abbrev pub IsBlind : (RecordValue → RecordValue) → Type 0
IsBlind change = (n : ℕ) (o : Option ℕ) (r : RecordValue)
    → (change (renumbered n o r) ≡ renumbered n o (change r)) × ((change r).caller ≡ r.caller)

pub changed_here : (rs : List RecordValue) (n : ℕ) (f : RecordValue → RecordValue) (r : RecordValue) → slice_get rs n ≡ Some r → slice_get (changed_at n f rs) n ≡ Some (f r)
changed_here [] n f r e = absurd (none-some r e)
changed_here (x ∷ rs) zero f r e = ap (λ (y : RecordValue). Some (f y)) (same_Some x r e)
changed_here (x ∷ rs) (suc n) f r e = changed_here rs n f r e

pub changed_elsewhere : (rs : List RecordValue) (n m : ℕ) (f : RecordValue → RecordValue) → m ≢ n → slice_get (changed_at n f rs) m ≡ slice_get rs m
changed_elsewhere [] n m f h = refl
changed_elsewhere (x ∷ rs) zero zero f h = absurd (h refl)
changed_elsewhere (x ∷ rs) zero (suc m) f h = refl
changed_elsewhere (x ∷ rs) (suc n) zero f h = refl
changed_elsewhere (x ∷ rs) (suc n) (suc m) f h = changed_elsewhere rs n m f (λ e. h (ap suc e))

-- two numbers of a line stand for two numbers
pub same_place : (line : ℕ) (owners : List ℕ) (i j n : ℕ) → slice_get (positions line owners) i ≡ Some n → slice_get (positions line owners) j ≡ Some n → i ≡ j
same_place line owners i j n p q =
    elim (order i j) [
      | inl h ↦ elim (order j i) [
        | inl g ↦ omega arith
        | inr g ↦ let bad = rises_from 0 line owners i j n n p q g in absurd (omega arith)
      ]
      | inr h ↦ let bad = rises_from 0 line owners j i n n q p h in absurd (omega arith)
    ]

pub changed_record : (own seen : List RecordValue) (numbers : List ℕ) (f : RecordValue → RecordValue) → IsBlind f → (a m i n : ℕ)
    → slice_get numbers a ≡ Some m → slice_get numbers i ≡ Some n → ((i ≡ a) ⊎ (i ≢ a)) → (m ≡ n → i ≡ a)
    → RecordIsSeen numbers own seen i n → RecordIsSeen numbers (changed_at a f own) (changed_at m f seen) i n
changed_record own seen numbers f blind a m i n at here (inl e) one h =
    let same : m ≡ n = same_Some m n (sym at ∙ ap (λ (k : ℕ). slice_get numbers k) (sym e) ∙ here) in
    record {
      value = f h.value;
      caller = h.caller;
      own_there = subst (λ (k : ℕ). slice_get (changed_at k f own) i ≡ Some (f h.value)) e (changed_here own i f h.value h.own_there);
      seen_there = subst (λ (k : ℕ). slice_get (changed_at k f seen) n ≡ Some (f (renumbered n h.caller h.value))) (sym same) (changed_here seen n f (renumbered n h.caller h.value) h.seen_there)
          ∙ ap (λ (r : RecordValue). Some r) (blind n h.caller h.value).0;
      numbered = subst (λ (o : Option ℕ). IsNumbered numbers o h.caller) (sym (blind n h.caller h.value).1) h.numbered;
    }
changed_record own seen numbers f blind a m i n at here (inr e) one h = record {
  value = h.value;
  caller = h.caller;
  own_there = changed_elsewhere own a i f e ∙ h.own_there;
  seen_there = changed_elsewhere seen m n f (λ same. e (one (sym same))) ∙ h.seen_there;
  numbered = h.numbered;
}

-- one record of the line, by its number in the book and in the register
changes_one : (lines line : ℕ) (x : Beside) (f : RecordValue → RecordValue) (a m : ℕ) → IsBlind f → IsRight lines line x
    → slice_get (positions line x.owners) a ≡ Some m
    → Leads lines line x (record x.own { records = changed_at a f x.own.records }) (record x.seen { records = changed_at m f x.seen.records })
changes_one lines line x f a m blind h at = record {
  owners = x.owners;
  pair_owners = x.pair_owners;
  is_right = record {
    records_owned = h.records_owned ∙ sym (length_changed x.seen.records m f);
    pairs_owned = h.pairs_owned;
    of_lines = h.of_lines;
    pairs_of_lines = h.pairs_of_lines;
    there = h.there;
    line = record {
      count = length_changed x.own.records a f ∙ h.line.count;
      records = λ i n here. changed_record x.own.records x.seen.records (positions line x.owners) f blind a m i n at here (number_is i a)
          (λ same. same_place line x.owners i a n here (at ∙ ap (λ (k : ℕ). Some k) same)) (h.line.records i n here);
      pair_count = h.line.pair_count;
      pairs = h.line.pairs;
      sides = sides;
    };
  };
  leaves = record {
    owners = λ k other. refl;
    pair_owners = λ k other. refl;
    records = λ k i n other here. changed_elsewhere x.seen.records m n f
        (λ same. other (same_Some k line (sym (is_place k x.owners i n here) ∙ ap (λ (p : ℕ). slice_get x.owners p) same ∙ is_place line x.owners a m at)));
    pairs = λ k i n other here. refl;
  };
}
  where
    sides : (end : Role) → SideIsSeen (positions line x.owners) (side_of end (record x.own { records = changed_at a f x.own.records })) (side_of end (record x.seen { records = changed_at m f x.seen.records }))
    sides Dte = h.line.sides Dte
    sides Dce = h.line.sides Dce

pub changes : (lines line : ℕ) (x : Beside) (f : RecordValue → RecordValue) (o p : Option ℕ) → IsBlind f → IsRight lines line x
    → IsNumbered (positions line x.owners) o p → Leads lines line x (with_change o f x.own) (with_change p f x.seen)
changes lines line x f None None blind h w = no_step lines line x h
changes lines line x f (Some a) (Some m) blind h w = changes_one lines line x f a m blind h w
changes lines line x f None (Some m) blind h w = absurd w
changes lines line x f (Some a) None blind h w = absurd w

-- ---- a record more

abbrev pub with_owner : (line : ℕ) → List ℕ → List ℕ
with_owner line owners = owners ++ line ∷ []

-- a number stays what it is when more of the line follow
pub more_numbered : (line : ℕ) (owners : List ℕ) (o p : Option ℕ) → IsNumbered (positions line owners) o p → IsNumbered (positions line (with_owner line owners)) o p
more_numbered line owners None None w = w
more_numbered line owners (Some i) (Some n) w =
    ap (λ (ns : List ℕ). slice_get ns i) (one_here line owners) ∙ get_before (positions line owners) (length owners ∷ []) i n w
more_numbered line owners None (Some n) w = absurd w
more_numbered line owners (Some i) None w = absurd w

owners_more : (lines line : ℕ) (owners : List ℕ) → line < lines → AreLines lines owners → AreLines lines (with_owner line owners)
owners_more lines line owners less h n k at =
    elim (get_pushed owners line n k at) [
      | inl before ↦ h n k before
      | inr last ↦ subst (λ (j : ℕ). j < lines) (sym last.1) less
    ]

pub last_number : (line : ℕ) (owners : List ℕ) (count : ℕ) → count ≡ length (positions line owners) → slice_get (positions line (with_owner line owners)) count ≡ Some (length owners)
last_number line owners count e =
    ap (λ (ns : List ℕ). slice_get ns count) (one_here line owners)
    ∙ ap (λ (k : ℕ). slice_get (positions line owners ++ length owners ∷ []) k) e ∙ get_last (positions line owners) (length owners)

more_slot : (line : ℕ) (owners : List ℕ) (s t : Slot) → SlotIsSeen (positions line owners) s t → SlotIsSeen (positions line (with_owner line owners)) s t
more_slot line owners s t w = record {
  present = more_numbered line owners s.present t.present w.present;
  placed = more_numbered line owners s.placed t.placed w.placed;
  caller = more_numbered line owners s.caller t.caller w.caller;
}

more_side : (line : ℕ) (owners : List ℕ) (own seen : Side) → SideIsSeen (positions line owners) own seen → SideIsSeen (positions line (with_owner line owners)) own seen
more_side line owners own seen w = record {
  node = w.node;
  address = w.address;
  channels = w.channels;
  slot = λ c. more_slot line owners (nth_slot own.slots c) (nth_slot seen.slots c) (w.slot c);
}

more_sides : (line : ℕ) (owners : List ℕ) (own seen : Book) (r t : RecordValue) → ((end : Role) → SideIsSeen (positions line owners) (side_of end own) (side_of end seen))
    → (end : Role) → SideIsSeen (positions line (with_owner line owners)) (side_of end (with_record r own)) (side_of end (with_record t seen))
more_sides line owners own seen r t w Dte = more_side line owners own.dte seen.dte (w Dte)
more_sides line owners own seen r t w Dce = more_side line owners own.dce seen.dce (w Dce)

-- `more` are the numbers with that of the record which is added
pub more_records : (own seen : List RecordValue) (numbers more : List ℕ) (r t : RecordValue) (caller : Option ℕ) → length own ≡ length numbers
    → t ≡ renumbered (length seen) caller r → ((o p : Option ℕ) → IsNumbered numbers o p → IsNumbered more o p) → IsNumbered numbers r.caller caller
    → ((i n : ℕ) → slice_get numbers i ≡ Some n → RecordIsSeen numbers own seen i n)
    → (i n : ℕ) → slice_get (numbers ++ length seen ∷ []) i ≡ Some n → RecordIsSeen more (own ++ r ∷ []) (seen ++ t ∷ []) i n
more_records own seen numbers more r t caller count is stays came h i n at =
    elim (get_pushed numbers (length seen) i n at) [
      | inl before ↦
          let w : RecordIsSeen numbers own seen i n = h i n before in
          record {
            value = w.value;
            caller = w.caller;
            own_there = get_before own (r ∷ []) i w.value w.own_there;
            seen_there = get_before seen (t ∷ []) n (renumbered n w.caller w.value) w.seen_there;
            numbered = stays w.value.caller w.caller w.numbered;
          }
      | inr last ↦ record {
        value = r;
        caller = caller;
        numbered = stays r.caller caller came;
        own_there = ap (λ (k : ℕ). slice_get (own ++ r ∷ []) k) (last.0 ∙ sym count) ∙ get_last own r;
        seen_there = ap (λ (k : ℕ). slice_get (seen ++ t ∷ []) k) last.1 ∙ get_last seen t ∙ ap (λ (x : RecordValue). Some x) is
            ∙ ap (λ (k : ℕ). Some (renumbered k caller r)) (sym last.1);
      }
    ]

more_pair : (line : ℕ) (owners : List ℕ) (own seen : List PairValue) (i n : ℕ) → PairIsSeen (positions line owners) own seen i n → PairIsSeen (positions line (with_owner line owners)) own seen i n
more_pair line owners own seen i n w = record {
  own_pair = w.own_pair;
  seen_pair = w.seen_pair;
  own_there = w.own_there;
  seen_there = w.seen_there;
  caller = more_numbered line owners (Some w.own_pair.caller) (Some w.seen_pair.caller) w.caller;
  callee = more_numbered line owners (Some w.own_pair.callee) (Some w.seen_pair.callee) w.callee;
}

abbrev pub added : (line : ℕ) → Beside → (r t : RecordValue) → Beside
added line x r t = record {
  owners = with_owner line x.owners;
  pair_owners = x.pair_owners;
  own = with_record r x.own;
  seen = with_record t x.seen;
}

pub adds_right : (lines line : ℕ) (x : Beside) (r t : RecordValue) (caller : Option ℕ) → t ≡ renumbered (length x.seen.records) caller r → IsNumbered (positions line x.owners) r.caller caller
    → IsRight lines line x → IsRight lines line (added line x r t)
adds_right lines line x r t caller is came h = record {
  records_owned = length_pushed x.owners line ∙ ap suc h.records_owned ∙ sym (length_pushed x.seen.records t);
  pairs_owned = h.pairs_owned;
  of_lines = owners_more lines line x.owners h.there h.of_lines;
  pairs_of_lines = h.pairs_of_lines;
  there = h.there;
  line = record {
    count = length_pushed x.own.records r ∙ ap suc h.line.count ∙ sym (length_pushed (positions line x.owners) (length x.owners))
        ∙ ap (λ (ns : List ℕ). length ns) (sym (one_here line x.owners));
    records = λ i n at. more_records x.own.records x.seen.records (positions line x.owners) (positions line (with_owner line x.owners)) r t caller h.line.count is (more_numbered line x.owners) came h.line.records i n
        (ap (λ (k : ℕ). slice_get (positions line x.owners ++ k ∷ []) i) (sym h.records_owned) ∙ ap (λ (ns : List ℕ). slice_get ns i) (sym (one_here line x.owners)) ∙ at);
    pair_count = h.line.pair_count;
    pairs = λ i n at. more_pair line x.owners x.own.pairs x.seen.pairs i n (h.line.pairs i n at);
    sides = more_sides line x.owners x.own x.seen r t h.line.sides;
  };
}

pub adds_leaves : (lines line : ℕ) (x : Beside) (r t : RecordValue) → IsRight lines line x → Leaves line x (added line x r t)
adds_leaves lines line x r t h = record {
  owners = λ k other. one_elsewhere k line x.owners (λ e. other (sym e));
  pair_owners = λ k other. refl;
  records = λ k i n other at.
      let less : n < length x.owners = slice_get_within x.owners n k (is_place k x.owners i n at) in
      let there = get_there x.seen.records n (subst (λ (m : ℕ). n < m) h.records_owned less) in
      get_before x.seen.records (t ∷ []) n there.0 there.1 ∙ sym there.1;
  pairs = λ k i n other at. refl;
}

-- ---- a pair more

more_pairs : (numbers : List ℕ) (own seen : List PairValue) (places : List ℕ) (p q : PairValue) → length own ≡ length places
    → slice_get numbers p.caller ≡ Some q.caller → slice_get numbers p.callee ≡ Some q.callee
    → ((i n : ℕ) → slice_get places i ≡ Some n → PairIsSeen numbers own seen i n)
    → (i n : ℕ) → slice_get (places ++ length seen ∷ []) i ≡ Some n → PairIsSeen numbers (own ++ p ∷ []) (seen ++ q ∷ []) i n
more_pairs numbers own seen places p q count caller callee h i n at =
    elim (get_pushed places (length seen) i n at) [
      | inl before ↦
          let w : PairIsSeen numbers own seen i n = h i n before in
          record {
            own_pair = w.own_pair;
            seen_pair = w.seen_pair;
            own_there = get_before own (p ∷ []) i w.own_pair w.own_there;
            seen_there = get_before seen (q ∷ []) n w.seen_pair w.seen_there;
            caller = w.caller;
            callee = w.callee;
          }
      | inr last ↦ record {
        own_pair = p;
        seen_pair = q;
        own_there = ap (λ (k : ℕ). slice_get (own ++ p ∷ []) k) (last.0 ∙ sym count) ∙ get_last own p;
        seen_there = ap (λ (k : ℕ). slice_get (seen ++ q ∷ []) k) last.1 ∙ get_last seen q;
        caller = caller;
        callee = callee;
      }
    ]

pairs_one : (lines line : ℕ) (x : Beside) (p q : PairValue) → IsRight lines line x
    → slice_get (positions line x.owners) p.caller ≡ Some q.caller → slice_get (positions line x.owners) p.callee ≡ Some q.callee
    → Leads lines line x (record x.own { pairs = x.own.pairs ++ p ∷ [] }) (record x.seen { pairs = x.seen.pairs ++ q ∷ [] })
pairs_one lines line x p q h caller callee = record {
  owners = x.owners;
  pair_owners = with_owner line x.pair_owners;
  is_right = record {
    records_owned = h.records_owned;
    pairs_owned = length_pushed x.pair_owners line ∙ ap suc h.pairs_owned ∙ sym (length_pushed x.seen.pairs q);
    of_lines = h.of_lines;
    pairs_of_lines = owners_more lines line x.pair_owners h.there h.pairs_of_lines;
    there = h.there;
    line = record {
      count = h.line.count;
      records = h.line.records;
      pair_count = length_pushed x.own.pairs p ∙ ap suc h.line.pair_count ∙ sym (length_pushed (positions line x.pair_owners) (length x.pair_owners))
          ∙ ap (λ (ns : List ℕ). length ns) (sym (one_here line x.pair_owners));
      pairs = λ i n at. more_pairs (positions line x.owners) x.own.pairs x.seen.pairs (positions line x.pair_owners) p q h.line.pair_count caller callee h.line.pairs i n
          (ap (λ (k : ℕ). slice_get (positions line x.pair_owners ++ k ∷ []) i) (sym h.pairs_owned) ∙ ap (λ (ns : List ℕ). slice_get ns i) (sym (one_here line x.pair_owners)) ∙ at);
      sides = sides;
    };
  };
  leaves = record {
    owners = λ k other. refl;
    pair_owners = λ k other. one_elsewhere k line x.pair_owners (λ e. other (sym e));
    records = λ k i n other at. refl;
    pairs = λ k i n other at.
        let less : n < length x.pair_owners = slice_get_within x.pair_owners n k (is_place k x.pair_owners i n at) in
        let there = get_there x.seen.pairs n (subst (λ (m : ℕ). n < m) h.pairs_owned less) in
        get_before x.seen.pairs (q ∷ []) n there.0 there.1 ∙ sym there.1;
  };
}
  where
    sides : (end : Role) → SideIsSeen (positions line x.owners) (side_of end (record x.own { pairs = x.own.pairs ++ p ∷ [] })) (side_of end (record x.seen { pairs = x.seen.pairs ++ q ∷ [] }))
    sides Dte = h.line.sides Dte
    sides Dce = h.line.sides Dce

pub pairs_up : (lines line : ℕ) (x : Beside) (o o' p p' : Option ℕ) → IsRight lines line x → IsNumbered (positions line x.owners) o o'
    → IsNumbered (positions line x.owners) p p' → Leads lines line x (with_pair o p x.own) (with_pair o' p' x.seen)
pairs_up lines line x None None p p' h w v = no_step lines line x h
pairs_up lines line x (Some a) (Some m) None None h w v = no_step lines line x h
pairs_up lines line x (Some a) (Some m) (Some b) (Some n) h w v =
    pairs_one lines line x (record { caller = a; callee = b }) (record { caller = m; callee = n }) h w v
pairs_up lines line x (Some a) (Some m) None (Some n) h w v = absurd v
pairs_up lines line x (Some a) (Some m) (Some b) None h w v = absurd v
pairs_up lines line x None (Some m) p p' h w v = absurd w
pairs_up lines line x (Some a) None p p' h w v = absurd w
