-- The pairs of a network of nodes with users alone are those of its lines' books.
use Rattle.std.proofs.Common.{◌≡◌, ℕ, List, Option, Some, refl, sym, ◌∙◌, subst}
use Rattle.std.specs.Prelude.{slice_get}
use Rattle.std.proofs.lemmas.Option.{same_Some}
use Rattle.call_records.specs.Records.{RecordValue, PairValue}
use Rattle.call_records.specs.Book.{Book}
use Rattle.call_records.specs.Register.{Register, book_at}
use Rattle.record_laws.proofs.Books.Basics.{get_there}
use Rattle.record_laws.specs.Registers.Seen.{positions, renumbered, RecordIsSeen, PairIsSeen, LineIsSeen, Seen}
use Rattle.record_laws.proofs.Registers.Positions.{is_place, place_of}
use Rattle.record_laws.proofs.Registers.Steps.{same_place}
use Rattle.record_laws.specs.CallPaths.Ends.{IsOf}
use Rattle.network_laws.proofs.Switched.Histories.{IsPairAt}
use Rattle.network_laws.proofs.Switched.PromiseLines.{fellow}

renumbered_of : (n : ℕ) (caller : Option ℕ) (own r : RecordValue) → r ≡ renumbered n caller own → IsOf own r
renumbered_of n caller own r e = subst (IsOf own) (sym e) refl

module _ (g : Register) (books : List Book) (w : Seen g books) where
  abbrev pub PairOf : ℕ → ℕ → ℕ → Type 0
  PairOf i line j = slice_get (positions line w.pair_owners) j ≡ Some i

  pub pair_at : (i line j : ℕ) → PairOf i line j → IsPairAt g books i line j
  pair_at i line j e =
      let b = get_there books line (w.pairs_of_lines i line (is_place line w.pair_owners j i e)) in
      let seen : LineIsSeen (positions line w.owners) (positions line w.pair_owners) b.0 (book_at line g) = w.line line b.0 b.1 in
      let p : PairIsSeen (positions line w.owners) b.0.pairs g.pairs j i = seen.pairs j i e in
      let r : RecordIsSeen (positions line w.owners) b.0.records g.records p.own_pair.callee p.seen_pair.callee = seen.records p.own_pair.callee p.seen_pair.callee p.callee in
      record {
        book = b.0;
        there = b.1;
        own_pair = p.own_pair;
        own_there = p.own_there;
        pair = p.seen_pair;
        pair_there = p.seen_there;
        own = r.value;
        own_record = r.own_there;
        callee = renumbered p.seen_pair.callee r.caller r.value;
        callee_there = r.seen_there;
        same = refl;
      }

  pub every_pair : (i : ℕ) (p : PairValue) → slice_get g.pairs i ≡ Some p → (line : ℕ) × (j : ℕ) × PairOf i line j
  every_pair i p at =
      let line = fellow w.pair_owners g.pairs i p w.pairs_owned at in
      let j = place_of line.0 w.pair_owners i line.1 in
      (line.0, j.place, j.there)

  pub one_place : (i line j other k : ℕ) → PairOf i line j → PairOf i other k → (line ≡ other) × (j ≡ k)
  one_place i line j other k e h =
      let same : line ≡ other = same_Some line other (sym (is_place line w.pair_owners j i e) ∙ is_place other w.pair_owners k i h) in
      (same, same_place other w.pair_owners j k i (subst (λ (n : ℕ). PairOf i n j) same e) h)

  pub its_pair : (line : ℕ) (b : Book) (j : ℕ) (q : PairValue) → slice_get books line ≡ Some b → slice_get b.pairs j ≡ Some q → (i : ℕ) × PairOf i line j
  its_pair line b j q there at = fellow (positions line w.pair_owners) b.pairs j q (sym (w.line line b there).pair_count) at
