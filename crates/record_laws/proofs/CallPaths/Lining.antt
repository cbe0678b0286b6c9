-- Where the calls of each line hold, so do those of the whole register.
use Rattle.std.proofs.Common.{◌≡◌, ℕ, ◌<◌, inl, inr, List, length, Option, Some, None, refl, sym, ap, subst, ◌∙◌}
use Rattle.std.specs.Prelude.{map, slice_get}
use Rattle.std.proofs.lemmas.Option.{none-some, same_Some, slice_get_within}
use Rattle.link_timers.specs.declared.role.Role.TheVariants.{Dte, Dce}
use Rattle.call_records.specs.Records.{RecordValue}
use Rattle.call_records.specs.Book.{Book}
use Rattle.call_records.specs.Register.{book_at}
use Rattle.record_laws.specs.Books.Headline.{AreEnds}
use Rattle.record_laws.specs.Books.Headline as book
use Rattle.record_laws.proofs.Books.Basics.{get_there}
use Rattle.record_laws.specs.Registers.Seen.{positions, IsNumbered, renumbered, RecordIsSeen}
use Rattle.record_laws.specs.Registers.RegisterPromise as register
use Rattle.record_laws.proofs.Registers.Positions.{IsNth, is_place, place_of, rises_from}
use Rattle.record_laws.proofs.Registers.Steps.{same_place}
use Rattle.record_laws.proofs.Registers.Seeing.{line_within}
use Rattle.record_laws.proofs.Registers.Promising.{promised}
use Rattle.record_laws.specs.CallPaths.World.{Origin, World}
use Rattle.record_laws.specs.CallPaths.Seen.{CameFrom}
use Rattle.record_laws.specs.CallPaths.Parts.{CallsHold}
use Rattle.record_laws.proofs.CallPaths.Ways.{get_map}
use Rattle.record_laws.specs.CallPaths.Lines.{OriginIsSeen, LinesSeen, BookCallsHold, LinesLaw}

module _ (w : World) (books : List Book) (traces : List (List Origin)) (s : LinesSeen w.whole w.origins books traces) where
  -- a call that came in, in the numbers of its line's book
  record InBook (a x : ℕ) : Type 0 where
    pub j : ℕ
    pub line_book : Book
    pub there : slice_get books j ≡ Some line_book
    pub own : List Origin
    pub traced : slice_get traces j ≡ Some own
    pub callee : ℕ
    pub callee_numbered : slice_get (positions j s.seen.owners) callee ≡ Some a
    pub caller : ℕ
    pub caller_numbered : slice_get (positions j s.seen.owners) caller ≡ Some x
    pub came : CameFrom own callee caller

  record Numbered (numbers : List ℕ) (o : Option ℕ) (x : ℕ) : Type 0 where
    pub number : ℕ
    pub is : o ≡ Some number
    pub there : slice_get numbers number ≡ Some x

  numbered : (numbers : List ℕ) (o p : Option ℕ) (x : ℕ) → IsNumbered numbers o p → p ≡ Some x → Numbered numbers o x
  numbered numbers (Some i) (Some n) x g e = record { number = i; is = refl; there = g ∙ e }
  numbered numbers None (Some n) x g e = absurd g
  numbered numbers o None x g e = absurd (none-some x e)

  line_trace : (j : ℕ) (b : Book) → slice_get books j ≡ Some b → (own : List Origin) × (slice_get traces j ≡ Some own)
  line_trace j b at = get_there traces j (subst (λ (n : ℕ). j < n) (sym s.count) (slice_get_within books j b at))

  -- the whole register has a record for each origin
  origin_within : (a : ℕ) (o : Origin) → slice_get w.origins a ≡ Some o → length w.origins ≡ length w.whole.records → a < length s.seen.owners
  origin_within a o at count = subst (λ (n : ℕ). a < n) (count ∙ sym s.seen.records_owned) (slice_get_within w.origins a o at)

  in_book : length w.origins ≡ length w.whole.records → (a x : ℕ) → CameFrom w.origins a x → InBook a x
  in_book count a x c =
      let owner = get_there s.seen.owners a (origin_within a c.origin c.there count) in
      let b = get_there books owner.0 (s.seen.of_lines a owner.0 owner.1) in
      let t = line_trace owner.0 b.0 b.1 in
      let place : IsNth (positions owner.0 s.seen.owners) a = place_of owner.0 s.seen.owners a owner.1 in
      let o : OriginIsSeen (positions owner.0 s.seen.owners) t.0 w.origins place.place a = (s.lines owner.0 t.0 t.1).origins place.place a place.there in
      let same : record { line = o.line; role = o.role; placed_here = o.placed_here; caller = o.whole_caller } ≡ c.origin =
      same_Some (record { line = o.line; role = o.role; placed_here = o.placed_here; caller = o.whole_caller }) c.origin (sym o.whole_there ∙ c.there) in
      let caller : Numbered (positions owner.0 s.seen.owners) o.own_caller x =
      numbered (positions owner.0 s.seen.owners) o.own_caller o.whole_caller x o.caller (ap (λ (p : Origin). p.caller) same ∙ c.came) in
      record {
        j = owner.0;
        line_book = b.0;
        there = b.1;
        own = t.0;
        traced = t.1;
        callee = place.place;
        callee_numbered = place.there;
        caller = caller.number;
        caller_numbered = caller.there;
        came = record { origin = record { line = o.line; role = o.role; placed_here = o.placed_here; caller = o.own_caller }; there = o.own_there; came = caller.is };
      }

  -- ---- no other record came from the same one

  pub alone_seen : (line : ℕ) (b : Book) → slice_get books line ≡ Some b → (number caller came_in x : ℕ) → slice_get (positions line s.seen.owners) number ≡ Some came_in
      → slice_get (positions line s.seen.owners) caller ≡ Some x → ((m : ℕ) → slice_get (map (λ r. r.caller) b.records) m ≡ Some (Some caller) → m ≡ number)
      → (a : ℕ) → CameFrom w.origins a x → a ≡ came_in
  alone_seen line b at number caller came_in x number_at caller_at alone a came =
      let c : InBook a x = in_book s.owned a x came in
      let line_same : c.j ≡ line = same_Some c.j line (sym (is_place c.j s.seen.owners c.caller x c.caller_numbered) ∙ is_place line s.seen.owners caller x caller_at) in
      let book_same : c.line_book ≡ b = same_Some c.line_book b (sym c.there ∙ ap (λ (k : ℕ). slice_get books k) line_same ∙ at) in
      let caller_same : c.caller ≡ caller =
      same_place line s.seen.owners c.caller caller x (subst (λ (k : ℕ). slice_get (positions k s.seen.owners) c.caller ≡ Some x) line_same c.caller_numbered) caller_at in
      let recorded : slice_get (map (λ r. r.caller) b.records) c.callee ≡ Some (Some caller) =
      ap (λ (z : Book). slice_get (map (λ r. r.caller) z.records) c.callee) (sym book_same)
      ∙ ap (λ (xs : List (Option ℕ)). slice_get xs c.callee) (sym (s.recorded c.j c.line_book c.own c.there c.traced))
      ∙ get_map (λ (o : Origin). o.caller) c.own c.callee c.came.origin c.came.there
      ∙ ap (λ (o : Option ℕ). Some o) (c.came.came ∙ ap (λ (k : ℕ). Some k) caller_same) in
      let callee_same : c.callee ≡ number = alone c.callee recorded in
      same_Some a came_in (sym c.callee_numbered ∙ ap (λ (k : ℕ). slice_get (positions k s.seen.owners) c.callee) line_same ∙ ap (λ (k : ℕ). slice_get (positions line s.seen.owners) k) callee_same ∙ number_at)

  module _ (h : (j : ℕ) (b : Book) (own : List Origin) → slice_get books j ≡ Some b → slice_get traces j ≡ Some own → BookCallsHold b own) where
    -- ---- its pair holds

    record_there : (j : ℕ) (b : Book) → slice_get books j ≡ Some b → (i n : ℕ) (r : RecordValue) → slice_get (positions j s.seen.owners) i ≡ Some n → slice_get b.records i ≡ Some r
        → (k : Option ℕ) × (slice_get w.whole.records n ≡ Some (renumbered n k r))
    record_there j b at i n r place there =
        let seen : RecordIsSeen (positions j s.seen.owners) b.records w.whole.records i n = (s.seen.line j b at).records i n place in
        (seen.caller, seen.seen_there ∙ ap (λ (x : RecordValue). Some (renumbered n seen.caller x)) (same_Some seen.value r (sym seen.own_there ∙ there)))

    ends_there : (j : ℕ) (b : Book) → slice_get books j ≡ Some b → (m n : ℕ) → AreEnds b m n → AreEnds (book_at j w.whole) m n
    ends_there j b at m n (inl e) = inl (e.0 ∙ sym ((s.seen.line j b at).sides Dte).node, e.1 ∙ sym ((s.seen.line j b at).sides Dce).node)
    ends_there j b at m n (inr e) = inr (e.0 ∙ sym ((s.seen.line j b at).sides Dce).node, e.1 ∙ sym ((s.seen.line j b at).sides Dte).node)

    pair_holds : (a x : ℕ) → InBook a x → register.PairHolds w.whole (record { caller = x; callee = a })
    pair_holds a x c =
        let all : BookCallsHold c.line_book c.own = h c.j c.line_book c.own c.there c.traced in
        let p : book.PairHolds c.line_book (record { caller = c.caller; callee = c.callee }) = all.came c.callee c.caller c.came in
        let caller_number : p.caller.number ≡ c.caller = all.holds.paired.numbers c.caller p.caller p.caller_there in
        let callee_number : p.callee.number ≡ c.callee = all.holds.paired.numbers c.callee p.callee p.callee_there in
        let less : c.caller < c.callee = subst (λ (k : ℕ). k < c.callee) caller_number (subst (λ (k : ℕ). p.caller.number < k) callee_number p.is_right.order) in
        let ends = get_there w.whole.lines c.j (line_within w.whole books c.j c.line_book c.there s.seen) in
        let caller = record_there c.j c.line_book c.there c.caller x p.caller c.caller_numbered p.caller_there in
        let callee = record_there c.j c.line_book c.there c.callee a p.callee c.callee_numbered p.callee_there in
        record {
          caller = renumbered x caller.0 p.caller;
          callee = renumbered a callee.0 p.callee;
          caller_there = caller.1;
          callee_there = callee.1;
          matches = record {
            onward_aligned = p.matches.onward_aligned;
            backward_aligned = p.matches.backward_aligned;
            onward = p.matches.onward;
            backward = p.matches.backward;
            onward_confirmed = p.matches.onward_confirmed;
            backward_confirmed = p.matches.backward_confirmed;
          };
          is_right = record {
            order = rises_from 0 c.j s.seen.owners c.caller c.callee x a c.caller_numbered c.callee_numbered less;
            line = c.j;
            line_ends = ends.0;
            line_there = ends.1;
            ends = ends_there c.j c.line_book c.there p.caller.node p.callee.node p.is_right.ends;
            own = p.is_right.address;
            far = p.is_right.calling;
          };
        }

    -- ---- it came in once

    one_of_line : (j : ℕ) (b : Book) (own : List Origin) → slice_get books j ≡ Some b → slice_get traces j ≡ Some own → (a c x p q m n : ℕ)
        → slice_get (positions j s.seen.owners) p ≡ Some a → slice_get (positions j s.seen.owners) q ≡ Some c
        → slice_get (positions j s.seen.owners) m ≡ Some x → slice_get (positions j s.seen.owners) n ≡ Some x → CameFrom own p m → CameFrom own q n → a ≡ c
    one_of_line j b own at trace a c x p q m n pa qc mx nx cp cq =
        let same : n ≡ m = same_place j s.seen.owners n m x nx mx in
        let one : p ≡ q = (h j b own at trace).once p q m cp (subst (λ (k : ℕ). CameFrom own q k) same cq) in
        same_Some a c (sym pa ∙ ap (λ (k : ℕ). slice_get (positions j s.seen.owners) k) one ∙ qc)

    came_once : (a c x : ℕ) → InBook a x → InBook c x → a ≡ c
    came_once a c x p q =
        let line_same : q.j ≡ p.j = same_Some q.j p.j (sym (is_place q.j s.seen.owners q.caller x q.caller_numbered) ∙ is_place p.j s.seen.owners p.caller x p.caller_numbered) in
        let own_same : q.own ≡ p.own = same_Some q.own p.own (sym q.traced ∙ ap (λ (k : ℕ). slice_get traces k) line_same ∙ p.traced) in
        one_of_line p.j p.line_book p.own p.there p.traced a c x p.callee q.callee p.caller q.caller p.callee_numbered
        (subst (λ (k : ℕ). slice_get (positions k s.seen.owners) q.callee ≡ Some c) line_same q.callee_numbered) p.caller_numbered
        (subst (λ (k : ℕ). slice_get (positions k s.seen.owners) q.caller ≡ Some x) line_same q.caller_numbered) p.came
        (subst (λ (t : List Origin). CameFrom t q.callee q.caller) own_same q.came)

    calls_hold : length w.origins ≡ length w.whole.records → CallsHold w
    calls_hold count = record {
      register = promised w.whole books s.seen (λ j b at. let t = line_trace j b at in (h j b t.0 at t.1).holds);
      came = λ a x c. pair_holds a x (in_book count a x c);
      once = λ a b x c d. came_once a b x (in_book count a x c) (in_book count b x d);
    }

pub lines_hold : LinesLaw
lines_hold w books traces s h = calls_hold w books traces s h s.owned
