-- What the register promises where the book of each line holds.
use Rattle.std.proofs.Common.{◌≡◌, ℕ, ◌<◌, ◌⊎◌, List, length, Option, Some, None, refl, sym, ap, subst, ◌∙◌, inl, inr}
use Rattle.std.specs.Prelude.{slice_get}
use Rattle.std.proofs.lemmas.Option.{none-some, same_Some, slice_get_within}
use Rattle.link_timers.specs.declared.role.Role.TheVariants.{Dte, Dce}
use Rattle.call_records.specs.Records.{RecordValue, PairValue, taken_epochs}
use Rattle.call_records.specs.Book.{Book, slot_at}
use Rattle.call_records.specs.Register.{Register, LineEnds, book_at, found_ends}
use Rattle.record_laws.specs.Books.Headline.{AreEnds, BookHolds}
use Rattle.record_laws.specs.Words.{IsIn, TookNothing}
use Rattle.record_laws.specs.Books.Headline as line
use Rattle.record_laws.proofs.Books.Basics.{get_there}
use Rattle.record_laws.proofs.Books.Placed.{pair_is}
use Rattle.record_laws.specs.Registers.Seen.{positions, IsNumbered, SlotIsSeen, renumbered, RecordIsSeen, PairIsSeen, LineIsSeen, Seen}
use Rattle.record_laws.specs.Registers.RegisterPromise.{PairHolds, RegisterHolds}
use Rattle.record_laws.specs.CallPaths.PathPromise.{IsOfEnd}
use Rattle.record_laws.specs.Registers.RegisterLaws.{PromiseLaw, NodeLaw, PairedLaw, IsOfBook, IsAtNoOther}
use Rattle.record_laws.proofs.Registers.Positions.{IsNth, is_place, place_of, rises_from}
use Rattle.record_laws.proofs.Registers.Steps.{same_place}
use Rattle.record_laws.proofs.Registers.Seeing.{OfLine, of_line, line_within}

-- a pair of the register is the one of this line's book at a place there
pub record PairOf (owners pair_owners : List ℕ) (j : ℕ) (b : Book) (m : ℕ) (q : PairValue) : Type 0 where
  pub place : ℕ
  pub numbered : slice_get (positions j pair_owners) place ≡ Some m
  pub own : PairValue
  pub own_there : slice_get b.pairs place ≡ Some own
  pub caller : slice_get (positions j owners) own.caller ≡ Some q.caller
  pub callee : slice_get (positions j owners) own.callee ≡ Some q.callee

pub record PairOfLine (books : List Book) (owners pair_owners : List ℕ) (m : ℕ) (q : PairValue) : Type 0 where
  pub j : ℕ
  pub book : Book
  pub there : slice_get books j ≡ Some book
  pub pair : PairOf owners pair_owners j book m q

-- a number of the register that is in a pair stands for one of the line that is in the line's pair
record OwnNumber (numbers : List ℕ) (p : PairValue) (number : ℕ) : Type 0 where
  pub own : ℕ
  pub numbered : slice_get numbers own ≡ Some number
  pub in_pair : IsIn p own

module _ (g : Register) (books : List Book) (w : Seen g books) where
  pub pair_of : (m : ℕ) (q : PairValue) → slice_get g.pairs m ≡ Some q → PairOfLine books w.owners w.pair_owners m q
  pair_of m q at =
      let less : m < length w.pair_owners = subst (λ (k : ℕ). m < k) (sym w.pairs_owned) (slice_get_within g.pairs m q at) in
      let owner = get_there w.pair_owners m less in
      let book = get_there books owner.0 (w.pairs_of_lines m owner.0 owner.1) in
      let place : IsNth (positions owner.0 w.pair_owners) m = place_of owner.0 w.pair_owners m owner.1 in
      let seen : PairIsSeen (positions owner.0 w.owners) book.0.pairs g.pairs place.place m = (w.line owner.0 book.0 book.1).pairs place.place m place.there in
      let same : seen.seen_pair ≡ q = same_Some seen.seen_pair q (sym seen.seen_there ∙ at) in
      record {
        j = owner.0;
        book = book.0;
        there = book.1;
        pair = record {
          place = place.place;
          numbered = place.there;
          own = seen.own_pair;
          own_there = seen.own_there;
          caller = seen.caller ∙ ap (λ (p : PairValue). Some p.caller) same;
          callee = seen.callee ∙ ap (λ (p : PairValue). Some p.callee) same;
        };
      }

  -- a record of a line's book in the register
  record_there : (j : ℕ) (b : Book) → slice_get books j ≡ Some b → (i n : ℕ) (r : RecordValue) → slice_get (positions j w.owners) i ≡ Some n → slice_get b.records i ≡ Some r
      → (caller : Option ℕ) × (slice_get g.records n ≡ Some (renumbered n caller r))
  record_there j b at i n r place there =
      let seen : RecordIsSeen (positions j w.owners) b.records g.records i n = (w.line j b at).records i n place in
      (seen.caller, seen.seen_there ∙ ap (λ (x : RecordValue). Some (renumbered n seen.caller x)) (same_Some seen.value r (sym seen.own_there ∙ there)))

  ends_there : (j : ℕ) (b : Book) → slice_get books j ≡ Some b → (m n : ℕ) → AreEnds b m n → AreEnds (book_at j g) m n
  ends_there j b at m n (inl h) = inl (h.0 ∙ sym ((w.line j b at).sides Dte).node, h.1 ∙ sym ((w.line j b at).sides Dce).node)
  ends_there j b at m n (inr h) = inr (h.0 ∙ sym ((w.line j b at).sides Dce).node, h.1 ∙ sym ((w.line j b at).sides Dte).node)

module _ (g : Register) (books : List Book) (w : Seen g books) (holds : (j : ℕ) (b : Book) → slice_get books j ≡ Some b → BookHolds b) where
  pair_holds : (m : ℕ) (q : PairValue) → slice_get g.pairs m ≡ Some q → PairHolds g q
  pair_holds m q at =
      let o : PairOfLine books w.owners w.pair_owners m q = pair_of g books w m q at in
      let all : BookHolds o.book = holds o.j o.book o.there in
      let h : line.PairHolds o.book o.pair.own = all.pairs_hold o.pair.place o.pair.own o.pair.own_there in
      let caller_number : h.caller.number ≡ o.pair.own.caller = all.paired.numbers o.pair.own.caller h.caller h.caller_there in
      let callee_number : h.callee.number ≡ o.pair.own.callee = all.paired.numbers o.pair.own.callee h.callee h.callee_there in
      let less : o.pair.own.caller < o.pair.own.callee =
      subst (λ (k : ℕ). k < o.pair.own.callee) caller_number (subst (λ (k : ℕ). h.caller.number < k) callee_number h.is_right.order) in
      let ends = get_there g.lines o.j (line_within g books o.j o.book o.there w) in
      let caller = record_there g books w o.j o.book o.there o.pair.own.caller q.caller h.caller o.pair.caller h.caller_there in
      let callee = record_there g books w o.j o.book o.there o.pair.own.callee q.callee h.callee o.pair.callee h.callee_there in
      record {
        caller = renumbered q.caller caller.0 h.caller;
        callee = renumbered q.callee callee.0 h.callee;
        caller_there = caller.1;
        callee_there = callee.1;
        matches = record {
          onward_aligned = h.matches.onward_aligned;
          backward_aligned = h.matches.backward_aligned;
          onward = h.matches.onward;
          backward = h.matches.backward;
          onward_confirmed = h.matches.onward_confirmed;
          backward_confirmed = h.matches.backward_confirmed;
        };
        is_right = record {
          order = rises_from 0 o.j w.owners o.pair.own.caller o.pair.own.callee q.caller q.callee o.pair.caller o.pair.callee less;
          line = o.j;
          line_ends = ends.0;
          line_there = ends.1;
          ends = ends_there g books w o.j o.book o.there h.caller.node h.callee.node h.is_right.ends;
          own = h.is_right.address;
          far = h.is_right.calling;
        };
      }

  numbers : (n : ℕ) (r : RecordValue) → slice_get g.records n ≡ Some r → r.number ≡ n
  numbers n r at =
      let o : OfLine books w.owners n r = of_line g books w n r at in
      ap (λ (x : RecordValue). x.number) o.same

  -- ---- the nodes of records

  end_of_line : (j : ℕ) (b : Book) → slice_get books j ≡ Some b → (ends : LineEnds) → slice_get g.lines j ≡ Some ends → (node : ℕ) → (node ≡ b.dte.node) ⊎ (node ≡ b.dce.node)
      → (node ≡ ends.dte.node) ⊎ (node ≡ ends.dce.node)
  end_of_line j b at ends there node (inl e) = inl (e ∙ sym ((w.line j b at).sides Dte).node ∙ ap (λ (o : Option LineEnds). (found_ends o).dte.node) there)
  end_of_line j b at ends there node (inr e) = inr (e ∙ sym ((w.line j b at).sides Dce).node ∙ ap (λ (o : Option LineEnds). (found_ends o).dce.node) there)

  nodes : (n : ℕ) (r : RecordValue) → slice_get g.records n ≡ Some r → IsOfEnd g r.node
  nodes n r at =
      let o : OfLine books w.owners n r = of_line g books w n r at in
      let ends = get_there g.lines o.line (line_within g books o.line o.book o.line_there w) in
      record {
        line = o.line;
        line_ends = ends.0;
        line_there = ends.1;
        at_end = subst (λ (x : RecordValue). (x.node ≡ ends.0.dte.node) ⊎ (x.node ≡ ends.0.dce.node)) (sym o.same)
            (end_of_line o.line o.book o.line_there ends.0 ends.1 o.own.node ((holds o.line o.book o.line_there).nodes o.place o.own o.own_there));
      }

  of_node : (line : ℕ) (b : Book) (n : ℕ) (r : RecordValue) → slice_get books line ≡ Some b → IsAtNoOther line r.node books → slice_get g.records n ≡ Some r → IsOfBook b n r
  of_node line b n r there alone at =
      let o : OfLine books w.owners n r = of_line g books w n r at in
      let is : line ≡ o.line = sym (alone o.line o.book o.line_there
      (subst (λ (x : RecordValue). (x.node ≡ o.book.dte.node) ⊎ (x.node ≡ o.book.dce.node)) (sym o.same) ((holds o.line o.book o.line_there).nodes o.place o.own o.own_there))) in
      let book_same : o.book ≡ b = same_Some o.book b (sym o.line_there ∙ ap (λ (j : ℕ). slice_get books j) (sym is) ∙ there) in
      subst (λ (c : Book). IsOfBook c n r) book_same (record { place = o.place; own = o.own; caller = o.caller; own_there = o.own_there; same = o.same })

  -- ---- a record is in at most one pair

  own_number : (j : ℕ) (b : Book) (m : ℕ) (q : PairValue) (number : ℕ) (p : PairOf w.owners w.pair_owners j b m q) → IsIn q number → OwnNumber (positions j w.owners) p.own number
  own_number j b m q number p (inl e) = record { own = p.own.caller; numbered = p.caller ∙ ap (λ (k : ℕ). Some k) e; in_pair = inl refl }
  own_number j b m q number p (inr e) = record { own = p.own.callee; numbered = p.callee ∙ ap (λ (k : ℕ). Some k) e; in_pair = inr refl }

  one_of_line : (j : ℕ) (b : Book) (there : slice_get books j ≡ Some b) (m n : ℕ) (p q : PairValue) (number : ℕ)
      → PairOf w.owners w.pair_owners j b m p → PairOf w.owners w.pair_owners j b n q → IsIn p number → IsIn q number → m ≡ n
  one_of_line j b there m n p q number a c x y =
      let u : OwnNumber (positions j w.owners) a.own number = own_number j b m p number a x in
      let v : OwnNumber (positions j w.owners) c.own number = own_number j b n q number c y in
      let same : v.own ≡ u.own = same_place j w.owners v.own u.own number v.numbered u.numbered in
      let place : a.place ≡ c.place = (holds j b there).paired.in_one a.place c.place a.own c.own u.own a.own_there c.own_there u.in_pair
      (subst (λ (k : ℕ). IsIn c.own k) same v.in_pair) in
      same_Some m n (sym a.numbered ∙ ap (λ (k : ℕ). slice_get (positions j w.pair_owners) k) place ∙ c.numbered)

  in_one : (m n : ℕ) (p q : PairValue) (number : ℕ) → slice_get g.pairs m ≡ Some p → slice_get g.pairs n ≡ Some q → IsIn p number → IsIn q number → m ≡ n
  in_one m n p q number at there x y =
      let a : PairOfLine books w.owners w.pair_owners m p = pair_of g books w m p at in
      let c : PairOfLine books w.owners w.pair_owners n q = pair_of g books w n q there in
      let u : OwnNumber (positions a.j w.owners) a.pair.own number = own_number a.j a.book m p number a.pair x in
      let v : OwnNumber (positions c.j w.owners) c.pair.own number = own_number c.j c.book n q number c.pair y in
      let line_same : c.j ≡ a.j = same_Some c.j a.j (sym (is_place c.j w.owners v.own number v.numbered) ∙ is_place a.j w.owners u.own number u.numbered) in
      let book_same : c.book ≡ a.book = same_Some c.book a.book (sym c.there ∙ ap (λ (j : ℕ). slice_get books j) line_same ∙ a.there) in
      one_of_line a.j a.book a.there m n p q number a.pair
      (subst (λ (j : ℕ). PairOf w.owners w.pair_owners j a.book n q) line_same (subst (λ (b : Book). PairOf w.owners w.pair_owners c.j b n q) book_same c.pair)) x y

  -- ---- a record that took anything is in a pair

  still_in : (numbers : List ℕ) (p q : PairValue) (i n : ℕ) → slice_get numbers p.caller ≡ Some q.caller → slice_get numbers p.callee ≡ Some q.callee
      → slice_get numbers i ≡ Some n → IsIn p i → IsIn q n
  still_in numbers p q i n caller callee at (inl e) = inl (same_Some q.caller n (sym caller ∙ ap (λ (k : ℕ). slice_get numbers k) e ∙ at))
  still_in numbers p q i n caller callee at (inr e) = inr (same_Some q.callee n (sym callee ∙ ap (λ (k : ℕ). slice_get numbers k) e ∙ at))

  took : (n : ℕ) (r : RecordValue) → slice_get g.records n ≡ Some r
      → TookNothing (taken_epochs r) ⊎ ((i : ℕ) × (p : PairValue) × (slice_get g.pairs i ≡ Some p) × IsIn p n)
  took n r at =
      let o : OfLine books w.owners n r = of_line g books w n r at in
      let seen : LineIsSeen (positions o.line w.owners) (positions o.line w.pair_owners) o.book (book_at o.line g) = w.line o.line o.book o.line_there in
      elim ((holds o.line o.book o.line_there).paired.took o.place o.own o.own_there) [
        | inl none ↦ inl (subst (λ (x : RecordValue). TookNothing (taken_epochs x)) (sym o.same) none)
        | inr pair ↦
            let within = slice_get_within o.book.pairs pair.0 pair.1 pair.2 in
            let number = get_there (positions o.line w.pair_owners) pair.0 (subst (λ (k : ℕ). pair.0 < k) seen.pair_count within) in
            let p : PairIsSeen (positions o.line w.owners) o.book.pairs g.pairs pair.0 number.0 = seen.pairs pair.0 number.0 number.1 in
            let same : pair.1 ≡ p.own_pair = same_Some pair.1 p.own_pair (sym pair.2 ∙ p.own_there) in
            inr (
              number.0,
              p.seen_pair,
              p.seen_there,
              still_in (positions o.line w.owners) p.own_pair p.seen_pair o.place n p.caller p.callee o.numbered (subst (λ (x : PairValue). IsIn x o.place) same pair.3),
            )
      ]

  register_holds : RegisterHolds g
  register_holds = record { pairs_hold = pair_holds; paired = record { numbers = numbers; in_one = in_one; took = took }; nodes = nodes }

pub promised : PromiseLaw
promised g books w holds = register_holds g books w holds

pub of_one_line : NodeLaw
of_one_line g books line b n r w holds there alone at = of_node g books w holds line b n r there alone at

-- ---- a call that came in

pub record Numbered (numbers : List ℕ) (seen : Option ℕ) (i : ℕ) : Type 0 where
  pub number : ℕ
  pub is : seen ≡ Some number
  pub there : slice_get numbers i ≡ Some number

pub numbered : (numbers : List ℕ) (o p : Option ℕ) (i : ℕ) → o ≡ Some i → IsNumbered numbers o p → Numbered numbers p i
numbered numbers (Some k) (Some n) i e h = record { number = n; is = refl; there = ap (λ (j : ℕ). slice_get numbers j) (sym (same_Some k i e)) ∙ h }
numbered numbers (Some k) None i e h = absurd h
numbered numbers None p i e h = absurd (none-some i e)

pub paired_seen : PairedLaw
paired_seen g books line b role channel at w h =
    let seen : LineIsSeen (positions line w.owners) (positions line w.pair_owners) b (book_at line g) = w.line line b at in
    let slot : SlotIsSeen (positions line w.owners) (slot_at role channel b) (slot_at role channel (book_at line g)) = (seen.sides role).slot channel in
    let callee = numbered (positions line w.owners) (slot_at role channel b).present (slot_at role channel (book_at line g)).present h.callee h.present slot.present in
    let caller = numbered (positions line w.owners) (slot_at role channel b).caller (slot_at role channel (book_at line g)).caller h.caller h.came slot.caller in
    let place = get_there (positions line w.pair_owners) h.place (subst (λ (n : ℕ). h.place < n) seen.pair_count (slice_get_within b.pairs h.place (record { caller = h.caller; callee = h.callee }) h.there)) in
    let p : PairIsSeen (positions line w.owners) b.pairs g.pairs h.place place.0 = seen.pairs h.place place.0 place.1 in
    let own : record { caller = h.caller; callee = h.callee } ≡ p.own_pair = same_Some (record { caller = h.caller; callee = h.callee }) p.own_pair (sym h.there ∙ p.own_there) in
    let caller_is : p.seen_pair.caller ≡ caller.number =
    same_Some p.seen_pair.caller caller.number (sym p.caller ∙ ap (λ (q : PairValue). slice_get (positions line w.owners) q.caller) (sym own) ∙ caller.there) in
    let callee_is : p.seen_pair.callee ≡ callee.number =
    same_Some p.seen_pair.callee callee.number (sym p.callee ∙ ap (λ (q : PairValue). slice_get (positions line w.owners) q.callee) (sym own) ∙ callee.there) in
    record {
      caller = caller.number;
      callee = callee.number;
      present = callee.is;
      came = caller.is;
      place = place.0;
      there = p.seen_there ∙ ap (λ (q : PairValue). Some q) (pair_is p.seen_pair caller.number callee.number caller_is callee_is);
    }
